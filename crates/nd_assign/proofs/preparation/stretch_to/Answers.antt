use Rattle.std.proofs.Common.{◌≡◌, ◌+◌, ◌≤◌, ℕ, List, length, sym, ap, ◌∙◌, subst}
use Rattle.std.specs.List.{All}
use Rattle.std.proofs.lemmas.Result.{IfOk-weaker}
use Rattle.nd_model.specs.Arrays.Strides.{IsInLimits}
use Rattle.nd_model.specs.Arrays.Tuple.{elements_of}
use Rattle.nd_model.specs.Arrays.View.{ElementType, item_size}
use Rattle.nd_assign.specs.Assigned.{with_elements}
use Rattle.nd_assign.specs.Copies.{with_copies}
use Rattle.nd_assign.specs.Stretched.{value_places}
use Rattle.nd_assign.specs.Ways.{AreIn}
use Rattle.nd_assign.proofs.Assigned.{assigned, of_both}
use Rattle.nd_assign.proofs.Limited.{converted_limits}
use Rattle.nd_assign.proofs.Stretched.{length-values, values_all}
use Rattle.nd_assign.proofs.preparation.stretch_to.Goals as goal

pub stretch-requires-clause-limits : goal.stretch-requires-clause-limits
stretch-requires-clause-limits c =
    let a = c.args in
    subst (IsInLimits (item_size a.value.now.element)) (sym c.shape.ensures.value)
    (converted_limits a.value.now.element a.target.now.element a.target.now.shape c.requires.types c.shape.ensures.limits)

pub returns-clause-counts : goal.returns-clause-counts
returns-clause-counts c =
    let g = c.args.target.now in let s = c.args.value.now in
    let count : length s.places ≡ elements_of s.shape = sym c.count-value_count.ensures.value ∙ c.count-value_count.ensures.elements in
    let all : length g.places ≡ elements_of g.shape = sym c.count-count.ensures.value ∙ c.count-count.ensures.elements in
    IfOk-weaker c.stretch.result _ (λ v. length v.places ≡ length g.places)
    (λ v e. ap length (e ∙ ap (value_places s) c.shape.ensures.value) ∙ length-values s g.shape c.requires.shapes count ∙ sym all) c.stretch.ensures.places

pub returns-clause-held : goal.returns-clause-held
returns-clause-held c =
    let g = c.args.target.now in let s = c.args.value.now in
    let count : length s.places ≡ elements_of s.shape = sym c.count-value_count.ensures.value ∙ c.count-value_count.ensures.elements in
    of_both c.stretch.result (λ v. v.element ≡ s.element) (λ v. v.places ≡ value_places s c.shape.result.now) (λ v. (len : ℕ) → AreIn len s → AreIn len v)
    (λ v type are len held. let beside : All (λ p. p + item_size s.element ≤ len) (value_places s g.shape) = values_all s g.shape c.requires.shapes count (λ p. p + item_size s.element ≤ len) held in
    subst (λ (t : ElementType). All (λ p. p + item_size t ≤ len) v.places) (sym type)
    (subst (All (λ p. p + item_size s.element ≤ len)) (sym (are ∙ ap (value_places s) c.shape.ensures.value)) beside))
    c.stretch.ensures.element c.stretch.ensures.places

pub returns-clause-copies : goal.returns-clause-copies
returns-clause-copies c =
    let g = c.args.target.now in let s = c.args.value.now in
    let count : length s.places ≡ elements_of s.shape = sym c.count-value_count.ensures.value ∙ c.count-value_count.ensures.elements in
    of_both c.stretch.result (λ v. v.element ≡ s.element) (λ v. v.places ≡ value_places s c.shape.result.now)
    (λ v. (bytes old : List ℕ) → with_copies g.element v.element bytes g.places v.places old ≡ with_elements g s bytes old)
    (λ v type are bytes old. let beside : v.places ≡ value_places s g.shape = are ∙ ap (value_places s) c.shape.ensures.value in
    (λ i. with_copies g.element (type i) bytes g.places (beside i) old) ∙ assigned g s bytes old c.requires.shapes count)
    c.stretch.ensures.element c.stretch.ensures.places
