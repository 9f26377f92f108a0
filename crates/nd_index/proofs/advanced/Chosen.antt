-- What is chosen of a view.
use Rattle.std.proofs.Common.{◌≡◌, ℕ, ◌+◌, ◌-◌, ◌<◌, ◌≤◌, List, [], ◌++◌, length, take, drop, Some, None, Result, Ok, refl, sym, ap, subst, ◌∙◌, arith, length-append}
use Rattle.std.specs.List.{All}
use Rattle.std.proofs.lemmas.List.{length-take-le, length-drop}
use Rattle.nd_model.specs.Indexing.Advanced.{IndexItem, Take, axes_in, ellipses_in, first_fault, shape_fault, bounds_fault, common_shape, slices_in, takes_in, kept_shape, place_for, chosen_shape, chosen_source, chosen_view, choose_filled}
use Rattle.nd_model.specs.Cells.Fault.{Fault}
use Rattle.nd_model.specs.Indexing.Selected.{HoldsAll}
use Rattle.nd_model.specs.Indexing.Selecting.{select}
use Rattle.nd_model.specs.Arrays.View.{Geo}
use Rattle.nd_model.proofs.Gathered.{AreTaken, chosen_tuple, place_few, sliced_taken}
use Rattle.nd_view.specs.Indexes.{IsIndex}
use Rattle.nd_index.specs.Advanced.Chosen.{view_at}
use Rattle.nd_index.specs.Items.Faults.{Makes}
use Rattle.nd_index.specs.declared.advanced.choosing.ChosenPlaces.{ChosenPlaces}
use Rattle.nd_index.specs.declared.items.fault.FancyFault.{FancyFault}
use Rattle.nd_index.proofs.advanced.Sliced.{selected_is}
use Rattle.nd_index.proofs.offsets.Sums.{index_of, tuple_of}

pub length-chosen : (at : ℕ) (many kept : List ℕ) → at ≤ length kept → length (chosen_shape at many kept) ≡ length kept + length many
length-chosen at many kept le =
    omega (arith, length-append (take at kept) (many ++ drop at kept), length-append many (drop at kept), length-take-le at kept le, length-drop at kept)

-- each tuple of what is chosen leads to one of the view that the slices leave
pub chosen_tuples : (missing : ℕ) (is : List IndexItem) (many : List ℕ) (g h : Geo) → ellipses_in is < 2 → axes_in 0 is + missing ≡ length g.shape → All HoldsAll is
    → first_fault (shape_fault g.shape) missing 0 is ≡ None → first_fault (bounds_fault g.shape) missing 0 is ≡ None → common_shape (Some []) is ≡ Some many → select (slices_in is) g ≡ Ok h
    → (ts : List Take) → ts ≡ takes_in missing 0 g.shape is → (t : List ℕ) → IsIndex (chosen_shape (place_for is ts) many (kept_shape ts h.shape)) t
    → IsIndex h.shape (chosen_source ts h.shape (place_for is ts) (length many) t)
chosen_tuples missing is many g h few total holds shapes bounds common e ts takes t at =
    let same : missing ≡ length g.shape - axes_in 0 is = omega (arith, total) in
    let taken : AreTaken many ts h.shape
    = subst (λ us. AreTaken many us h.shape) (ap (λ k. takes_in k 0 g.shape is) (sym same) ∙ sym takes)
    (sliced_taken is many g h few (omega (arith, total)) holds (subst (λ k. first_fault (shape_fault g.shape) k 0 is ≡ None) same shapes)
    (subst (λ k. first_fault (bounds_fault g.shape) k 0 is ≡ None) same bounds) common e) in
    index_of h.shape _ (chosen_tuple many ts h.shape (place_for is ts) t taken (place_few is ts h.shape) (tuple_of _ t at))

-- what no refusal keeps from being chosen
pub filled_is : (missing : ℕ) (is : List IndexItem) (many : List ℕ) (g h : Geo) → first_fault (shape_fault g.shape) missing 0 is ≡ None → common_shape (Some []) is ≡ Some many
    → first_fault (bounds_fault g.shape) missing 0 is ≡ None → select (slices_in is) g ≡ Ok h → choose_filled missing is g ≡ chosen_view is (takes_in missing 0 g.shape is) many h
filled_is missing is many g h shapes common bounds e = rw (shapes, common, bounds, e) refl

-- it is a view of the same elements
pub same_view : (is : List IndexItem) (g h : Geo) → select (slices_in is) g ≡ Ok h → (r : Result ChosenPlaces FancyFault) (y : Result Geo Fault) → Makes (view_at h) r y → Makes (view_at g) r y
same_view is g h e r y =
    let same : (p : ChosenPlaces) → view_at h p ≡ view_at g p = λ p. ap (λ (v : Geo). record v { shape = p.shape.items; places = p.places }) (sym (selected_is (slices_in is) g h e)) in
    subst (λ (v : ChosenPlaces → Geo). Makes v r y) (λ i p. same p i)
