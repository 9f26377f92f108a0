use Rattle.std.proofs.Common.{◌≡◌, ◌∙◌, ℕ, ℤ, ◌+◌, ◌*◌, ◌||◌, false, List, map, length, refl, sym, ap, ap₂, arith}
use Rattle.std.specs.List.{flat_map}
use Rattle.nd_model.specs.Cells.Session.{is_in}
use Rattle.nd_model.specs.Arrays.Tuple.{count_up}
use Rattle.nd_model.specs.Arrays.View.{element_places}
use Rattle.nd_types.specs.Types.{type_of}
use Rattle.nd_places.specs.Near.{place_on_line, trues_in}
use Rattle.nd_marks.specs.Marks.{holds, in_trues}
use Rattle.nd_marks.proofs.Ranges.{number_places, unexcepted}
use Rattle.nd_trace.proofs.Chosen.{row_near, row_trues}
use Rattle.nd_trace.proofs.marking.marks_of_trues.Goals as goal

pub returns : goal.returns
returns c = λ p.
    let places = c.args.places.now in
    let size : ℕ = c.size-size.result in
    let start : ℕ = c.in-Some-row_start.start in
    let line = c.in-Some.trues.now.line in
    let mask : List ℕ = c.in-Some.trues.now.mask in
    let F : List ℕ → List ℕ = flat_map (λ q. count_up q size) in
    let typed = number_places c.args.elem.now c.in-One.one size places c.in-One.is c.size-size.ensures.value in
    let none : holds c.args.except.now p ≡ false = c.if-not-is_empty.ensures refl p in
    let first : start + 0 * size ≡ start = omega arith in
    c.in_ok-marks.ensures p ∙ ap (λ h. h || in_trues start size c.as_slice.result.now p) (c.new.ensures p)
    ∙ (
    ap (λ xs. in_trues start size xs p) c.as_slice.ensures
    ∙ ap (λ s. in_trues s size mask p) (sym first)
    ∙ sym (row_trues start size 0 p mask c.size-size.ensures.range.0 (row_near start size (length mask) c.in-Some-row_start.ensures.1.1 c.size-size.ensures.range.1 c.in-Some.trues.now.few))
    ∙ ap₂ (λ (a b : ℤ). is_in p (F (map (place_on_line a b) (trues_in 0 mask)))) (sym c.in-Some-row_start.ensures.0) (sym c.in-Some-row_start.ensures.1.0)
    ∙ ap (λ qs. is_in p (F qs)) (sym c.in-Some.ensures)
    ∙ ap (is_in p) (sym typed)
    ∙ sym (unexcepted (is_in p (flat_map (element_places (type_of c.args.elem.now)) places)) (holds c.args.except.now p) none))
