use Rattle.std.proofs.Common.{rules, ◌≡◌, ℕ, ◌*◌, ℤ, false, FitsSigned, to_z, of_z, sym, ap, ◌∙◌, inl, inr, arith}
use Rattle.std.specs.Int.{w128}
use Rattle.std.specs.Ordering.{int_eq}
use Rattle.std.proofs.lemmas.Bool.{cases_Bool}
use Rattle.std.proofs.lemmas.Bool.Decides.{Decides-int_eq}
use mir.Facts.{to_z-of_z}
use borrow.Author.Count.{below_more}
use Rattle.nd_model.specs.Arrays.Content.{number_at}
use Rattle.nd_model.specs.Arrays.Element.{Kind, size_of}
use Rattle.nd_model.specs.Making.Elementwise.{little}
use Rattle.nd_types.specs.Kinds.{kind_of}
use Rattle.nd_reduce.proofs.folds.Blockwise.{index_found, index_none}
use Rattle.nd_reduce.proofs.folds.blocks.index_in.Goals as goal

pub returns-then-number_in-number-clause-first : goal.returns-then-number_in-number-clause-first
returns-then-number_in-number-clause-first c =
    let kind : Kind = kind_of c.args.kind in let f : ℕ → ℤ = λ j. number_at (little kind) c.args.bytes.now (j * size_of kind) in
    let fits : FitsSigned w128 c.number_in.result = search rules in let same = to_z-of_z c.ranges.number in
    let is : f c.loop-index.index ≡ c.args.number = sym c.number_in.ensures.value ∙ sym (to_z-of_z fits) ∙ ap (to_z w128) c.if-number_in-number.true ∙ same in
    index_found f c.args.count c.args.number c.loop-index.index c.loop-index-test.true (λ k lt. ap (int_eq (f k)) (sym same) ∙ c.loop-index.invariant k lt) is

pub loop-index-preserved : goal.loop-index-preserved
loop-index-preserved c =
    let kind : Kind = kind_of c.args.kind in let f : ℕ → ℤ = λ j. number_at (little kind) c.args.bytes.now (j * size_of kind) in
    let n : ℤ = to_z w128 (of_z w128 c.args.number) in
    let here : int_eq (f c.loop-index.index) n ≡ false = elim (cases_Bool (int_eq (f c.loop-index.index) n)) [
      | inl e ↦ absurd (c.if-number_in-number.false (ap (of_z w128) (c.number_in.ensures.value ∙ (Decides-int_eq (f c.loop-index.index) n).0 e ∙ to_z-of_z c.ranges.number)))
      | inr e ↦ e
    ] in
    below_more (λ k. int_eq (f k) n ≡ false) c.loop-index.index c.loop-index.invariant here

pub returns-clause-first : goal.returns-clause-first
returns-clause-first c =
    let kind : Kind = kind_of c.args.kind in let f : ℕ → ℤ = λ j. number_at (little kind) c.args.bytes.now (j * size_of kind) in
    index_none f c.args.count c.args.number (λ k lt. ap (int_eq (f k)) (sym (to_z-of_z c.ranges.number)) ∙ c.loop-index.invariant k (omega (arith, c.loop-index-test.false)))
