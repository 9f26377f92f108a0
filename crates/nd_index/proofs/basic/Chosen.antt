-- What is picked, by its strides.
use Rattle.std.proofs.Common.{◌≡◌, ℕ, ◌<◌, ◌^◌, true, List, [], map, length, get_or, sym, ap, ◌∙◌, arith}
use Rattle.std.specs.Prelude.{ℤ, pos, ◌+ℤ◌, ◌≤ℤ◌, ◌<ℤ◌, Bool, None, unsigned_abs}
use Rattle.std.proofs.lemmas.Int.{ints}
use Rattle.nd_model.specs.Arrays.Strides.{way_to, begins_at, place_at, places_by, is_held, are_held, IsInLimits, parts_fault}
use Rattle.nd_model.specs.Arrays.Tuple.{indices, number}
use Rattle.nd_model.specs.Arrays.View.{ElementType, Geo, item_size, place_of}
use Rattle.nd_model.specs.Indexing.Selecting.{Item, axes_in, first_outside, Pick, picks_of, picked_shape, source, picked_view}
use Rattle.nd_model.proofs.Selected.{AreFit, picks_fit}
use Rattle.nd_view.specs.Indexes.{IsIndex}
use Rattle.nd_view.proofs.Extents.{bounds}
use Rattle.nd_view.proofs.Indexed.{all_indexes, of_all, same_indexes}
use Rattle.nd_view.proofs.Made.{facts, axes, no_fault}
use Rattle.nd_view.proofs.Numbered.{at_tuple}
use Rattle.nd_index.specs.Basic.Layouts.{picked_strides, picked_way}
use Rattle.nd_index.proofs.basic.Ways.{picks_even, way_is, source_index, first_source, length-strides}

sum_of : (p z v w : ℤ) → p ≡ z +ℤ v → p +ℤ w ≡ z +ℤ (v +ℤ w)
sum_of p z v w e = omega (arith, ints, e)

module _ (size first : ℕ) (shape : List ℕ) (strides : List ℤ) (none : parts_fault size shape strides first (2 ^ 64) ≡ None) (some : 0 < size)
    (fs : List Item) (whole : axes_in fs ≡ length shape) (inside : first_outside fs 0 shape ≡ None) (at : ℕ) (offset : ℤ)
    (way : offset ≡ pos first +ℤ picked_way (picks_of fs shape) strides) (place : pos 0 ≤ℤ offset → offset <ℤ pos (2 ^ 64) → pos at ≡ offset) where
  abbrev qs : List Pick
  qs = picks_of fs shape

  fit : AreFit qs shape
  fit = picks_fit fs 0 shape whole inside

  all : are_held size (2 ^ 64) first strides shape ≡ true
  all = (facts size shape strides first (2 ^ 64) none).2

  same : length strides ≡ length shape
  same = axes size shape strides first (2 ^ 64) none

  -- where there is an element, the first one has a place
  at_first : (t : List ℕ) → IsIndex (picked_shape qs) t → pos at ≡ pos first +ℤ picked_way qs strides
  at_first t is =
      let b = bounds size (2 ^ 64) (begins_at first strides (source qs [])) (of_all (is_held size (2 ^ 64)) (begins_at first strides) shape (source qs []) all (first_source qs shape t fit is)) in
      place (rw way b.0) (rw way (omega (arith, ints, b.0, b.1, some))) ∙ way

  -- the elements begin where those of the array do
  begins : (t : List ℕ) → IsIndex (picked_shape qs) t → begins_at at (picked_strides qs strides) t ≡ begins_at first strides (source qs t)
  begins t is =
      sum_of (pos at) (pos first) (picked_way qs strides) (way_to t (picked_strides qs strides)) (at_first t is)
      ∙ ap (λ z. pos first +ℤ z) (sym (way_is qs shape strides t fit (picks_even fs shape) same is))

  pub picked_held : are_held size (2 ^ 64) at (picked_strides qs strides) (picked_shape qs) ≡ true
  picked_held = all_indexes (is_held size (2 ^ 64)) (begins_at at (picked_strides qs strides)) (picked_shape qs)
      (λ t is. rw (begins t is) (of_all (is_held size (2 ^ 64)) (begins_at first strides) shape (source qs t) all (source_index qs shape t fit is)))

  pub picked_fault : IsInLimits size (picked_shape qs) → parts_fault size (picked_shape qs) (picked_strides qs strides) at (2 ^ 64) ≡ None
  picked_fault limits = no_fault size (2 ^ 64) at (picked_shape qs) (picked_strides qs strides) limits (length-strides qs strides) picked_held

  pub picked_places : (places : List ℕ) → places ≡ places_by first strides shape
      → places_by at (picked_strides qs strides) (picked_shape qs) ≡ map (λ t. get_or places (number shape (source qs t)) 0) (indices (picked_shape qs))
  picked_places places by = same_indexes (place_at at (picked_strides qs strides)) (λ t. get_or places (number shape (source qs t)) 0) (picked_shape qs)
      (λ t is. ap unsigned_abs (begins t is) ∙ sym (at_tuple first strides shape (source qs t) (source_index qs shape t fit is)) ∙ ap (λ ps. get_or ps (number shape (source qs t)) 0) (sym by))

-- the same by what the code has of it
module _ (g : Geo) (fs : List Item) (whole : axes_in fs ≡ length g.shape) (inside : first_outside fs 0 g.shape ≡ None)
    (strides : List ℤ) (held : parts_fault (item_size g.element) g.shape strides (get_or g.places 0 0) (2 ^ 64) ≡ None) (by : g.places ≡ places_by (get_or g.places 0 0) strides g.shape)
    (at first : ℕ) (offset : ℤ) (shape lengths : List ℕ) (steps : List ℤ) (t : ElementType) (first_is : first ≡ get_or g.places 0 0) (shape_is : shape ≡ g.shape)
    (way : offset ≡ pos first +ℤ picked_way (picks_of fs shape) strides) (place : pos 0 ≤ℤ offset → offset <ℤ pos (2 ^ 64) → pos at ≡ offset)
    (lengths_are : lengths ≡ picked_shape (picks_of fs shape)) (steps_are : steps ≡ picked_strides (picks_of fs shape) strides)
    (type_is : t ≡ g.element) (some : 0 < item_size g.element) where
  way' : offset ≡ pos (get_or g.places 0 0) +ℤ picked_way (picks_of fs g.shape) strides
  way' = way ∙ (λ i. pos (first_is i) +ℤ picked_way (picks_of fs (shape_is i)) strides)

  lengths' : lengths ≡ picked_shape (picks_of fs g.shape)
  lengths' = lengths_are ∙ ap (λ s. picked_shape (picks_of fs s)) shape_is

  steps' : steps ≡ picked_strides (picks_of fs g.shape) strides
  steps' = steps_are ∙ ap (λ s. picked_strides (picks_of fs s) strides) shape_is

  pub chosen_fault : IsInLimits (item_size g.element) (picked_shape (picks_of fs g.shape)) → parts_fault (item_size t) lengths steps at (2 ^ 64) ≡ None
  chosen_fault limits = (λ i. parts_fault (item_size (type_is i)) (lengths' i) (steps' i) at (2 ^ 64))
      ∙ picked_fault (item_size g.element) (get_or g.places 0 0) g.shape strides held some fs whole inside at offset way' place limits

  pub chosen_view : (writable : Bool) → writable ≡ g.writable
      → ◌≡◌ {A = Geo} (record { element = t; shape = lengths; writable = writable; places = places_by at steps lengths }) (picked_view g (picks_of fs g.shape))
  chosen_view writable write =
      let places : places_by at steps lengths ≡ map (λ u. place_of g (source (picks_of fs g.shape) u)) (indices (picked_shape (picks_of fs g.shape)))
      = (λ i. places_by at (steps' i) (lengths' i)) ∙ picked_places (item_size g.element) (get_or g.places 0 0) g.shape strides held some fs whole inside at offset way' place g.places by in
      λ i. record { element = type_is i; shape = lengths' i; writable = write i; places = places i }
