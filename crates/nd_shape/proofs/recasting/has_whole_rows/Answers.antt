use Rattle.std.proofs.Common.{◌≡◌, ◌-◌, ◌<◌, ◌≤◌, ◌^◌, Bool, true, pos, length, get_or, sym, ap, ◌∙◌, inl, inr, arith, rules}
use Rattle.std.specs.Int.{w128}
use Rattle.std.specs.Int.RustNames.{FitsSigned}
use Rattle.std.proofs.lemmas.Bool.{cases_Bool}
use Rattle.std.proofs.lemmas.Int.{to_z-of_z}
use Rattle.nd_model.specs.Indexing.Recasting.{last_of, has_whole_rows}
use Rattle.nd_model.specs.Arrays.Tuple.{elements_of}
use Rattle.nd_model.specs.Arrays.View.{item_size}
use Rattle.nd_view.proofs.Made.{axes}
use Rattle.nd_shape.proofs.Rearranged.{HasStrides}
use Rattle.nd_shape.proofs.Recasts.{last_at, last_step_at, short_rows, no_rows, even_rows, rows_even}
use Rattle.nd_shape.proofs.recasting.has_whole_rows.Goals as goal

tested : (a b : Bool) → (a ≡ true → b ≡ true) → (b ≡ true → a ≡ true) → a ≡ b
tested a b to from = elim (cases_Bool a) [
  | inl is ↦ is ∙ sym (to is)
  | inr other ↦ elim (cases_Bool b) [ inl is ↦ from is ∙ sym is | inr neither ↦ other ∙ sym neither ]
]

pub returns-then-shape-last-le1 : goal.returns-then-shape-last-le1
returns-then-shape-last-le1 c =
    let g = c.args.view.now in
    let short : last_of g.shape ≤ 1 = omega (arith, last_at g.shape, ap (λ s. get_or s (length s - 1) 0) c.shape-shape.ensures.value, c.if-shape-last-le1.true) in
    sym (short_rows g c.held_strides-strides.result.now (record { held = c.held_strides-strides.ensures.held; by = c.held_strides-strides.ensures.places }) short c.requires)

pub returns-then-count-eq0 : goal.returns-then-count-eq0
returns-then-count-eq0 c =
    let g = c.args.view.now in
    let none : elements_of g.shape ≡ 0 = omega (arith, c.count.ensures.elements, c.if-count-eq0.true) in
    sym (no_rows g c.held_strides-strides.result.now (record { held = c.held_strides-strides.ensures.held; by = c.held_strides-strides.ensures.places }) none)

pub returns : goal.returns
returns c =
    let g = c.args.view.now in
    let strides = c.held_strides-strides.result.now in
    let has : HasStrides g strides = record { held = c.held_strides-strides.ensures.held; by = c.held_strides-strides.ensures.places } in
    let long : 1 < last_of g.shape = omega (arith, last_at g.shape, ap (λ s. get_or s (length s - 1) 0) c.shape-shape.ensures.value, c.if-shape-last-le1.false) in
    let some : 0 < elements_of g.shape = omega (arith, c.count.ensures.elements, c.if-count-eq0.false) in
    let fits : FitsSigned w128 (get_or strides (length c.shape-shape.result.now - 1) (pos 0)) = search rules in
    let same : length strides ≡ length g.shape = axes (item_size g.element) g.shape strides (get_or g.places 0 0) (2 ^ 64) has.held in
    let stride = to_z-of_z w128 (get_or strides (length c.shape-shape.result.now - 1) (pos 0)) fits
    ∙ (λ i. get_or strides ((ap length c.shape-shape.ensures.value ∙ sym same) i - 1) (pos 0)) ∙ sym (last_step_at strides) in
    let size = c.size.ensures.value ∙ ap item_size c.elem.ensures in
    tested c.is_step.result (has_whole_rows g)
    (λ is. even_rows g strides has (sym stride ∙ c.is_step.ensures.0 is ∙ ap pos size) c.requires)
    (λ whole. c.is_step.ensures.1 (stride ∙ rows_even g strides has whole c.requires long some ∙ ap pos (sym size)))
