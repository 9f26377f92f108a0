use Rattle.std.proofs.Common.{rules, ℕ, ◌*◌, ℤ, [], ◌∷◌, ◌++◌, map, FitsSigned, sym, ap, ◌∙◌, subst}
use Rattle.std.specs.Int.{w128}
use mir.Facts.{to_z-of_z}
use Rattle.nd_model.specs.Arrays.Content.{number_at}
use Rattle.nd_model.specs.Arrays.Element.{Kind, size_of}
use Rattle.nd_model.specs.Making.Elementwise.{little}
use Rattle.nd_model.specs.Arrays.Tuple.{count_up}
use Rattle.nd_types.specs.Kinds.{kind_of}
use Rattle.nd_reduce.proofs.folds.Taken.{next_of}
use Rattle.nd_reduce.proofs.folds.taking.take_each.Goals as goal

pub loop-index-preserved : goal.loop-index-preserved
loop-index-preserved g c = λ zs h.
    let kind : Kind = kind_of c.args.kind in let f : ℕ → ℤ = λ j. number_at (little kind) c.args.bytes.now (j * size_of kind) in
    let k = c.loop-index.index in let fits : FitsSigned w128 c.number_in.result = search rules in
    subst (g.F.FoldStep.has_taken c.step-all.result) (ap (λ (z : ℤ). (zs ++ map f (count_up 0 k)) ++ z ∷ []) (to_z-of_z fits ∙ c.number_in.ensures.value) ∙ sym (next_of f k zs))
    (c.step-all.ensures (zs ++ map f (count_up 0 k)) (c.loop-index.invariant zs h))
