use Rattle.std.proofs.Common.{ℕ, ◌*◌, ℤ, List, [], map, sym, ap, ◌∙◌}
use Rattle.std.specs.Prelude.{int_lt}
use Rattle.nd_model.specs.Arrays.Content.{number_at}
use Rattle.nd_model.specs.Arrays.Element.{Kind, size_of}
use Rattle.nd_model.specs.Making.Elementwise.{little}
use Rattle.nd_model.specs.Making.Reductions.{best}
use Rattle.nd_model.specs.Arrays.Tuple.{count_up}
use Rattle.nd_types.specs.Kinds.{kind_of}
use Rattle.nd_reduce.proofs.folds.Folded.{pick, best_more}
use Rattle.nd_reduce.proofs.folds.Taken.{has_numbers, next_of}
use Rattle.nd_reduce.proofs.folds.native.least.Goals as goal

pub loop-index-preserved : goal.loop-index-preserved
loop-index-preserved g c =
    let kind : Kind = kind_of c.args.kind in let f : ℕ → ℤ = λ j. number_at (little kind) c.args.bytes.now (j * size_of kind) in
    let k = c.loop-index.index in let zs : List ℤ = map f (count_up 0 k) in
    c.lesser-best.ensures ∙ (λ i. pick int_lt (c.loop-index.invariant i) (c.read.ensures i))
    ∙ sym (ap (best int_lt) (next_of f k []) ∙ best_more int_lt zs (f k) (has_numbers f k c.loop-index.auto.index))
