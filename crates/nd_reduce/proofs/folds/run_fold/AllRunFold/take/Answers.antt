use Rattle.std.proofs.Common.{◌≡◌, ℤ, Bool, not, sym, ap, ◌∙◌}
use Rattle.std.specs.Prelude.{◌&&◌}
use Rattle.std.specs.List.{list_all}
use Rattle.std.proofs.lemmas.List.Folds.{list_all-append}
use Rattle.nd_model.specs.Arrays.Element.{Boolean}
use Rattle.nd_model.specs.Making.Operators.{is_zero}
use Rattle.nd_types.specs.Kinds.{kind_of}
use Rattle.nd_reduce.specs.Folds.Lanes.{numbers_in}
use Rattle.nd_reduce.proofs.folds.Truths.{all_by_any}
use Rattle.nd_reduce.proofs.folds.run_fold.AllRunFold.take.Goals as goal

pub returns : goal.returns
returns c = λ zs h.
    let p : ℤ → Bool = λ z. not (is_zero z) in let n = c.args.count in let bytes = c.args.bytes.now in
    let kind : kind_of c.args.kind ≡ Boolean = ap kind_of (c.is_kind.ensures c.if-not-is_kind.false) in
    (λ i. h i && not (c.has_false.ensures i))
    ∙ ap (λ b. list_all p zs && b) (sym (all_by_any is_zero (numbers_in Boolean bytes n)) ∙ ap (λ k. list_all p (numbers_in k bytes n)) (sym kind))
    ∙ sym (list_all-append p zs (numbers_in (kind_of c.args.kind) bytes n))
