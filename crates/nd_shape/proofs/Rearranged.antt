-- Views whose elements are those of another one at other index tuples, by strides that lead there.
use Rattle.std.proofs.Common.{◌≡◌, ℕ, ◌^◌, true, List, [], ◌∷◌, map, length, get_or, sym, ap, ◌∙◌}
use Rattle.std.specs.Prelude.{ℤ, pos, ◌+ℤ◌, None, Bool, unsigned_abs}
use Rattle.nd_model.specs.Arrays.Strides.{way_to, begins_at, place_at, places_by, is_held, are_held, IsInLimits, parts_fault}
use Rattle.nd_model.specs.Arrays.Tuple.{indices, number}
use Rattle.nd_model.specs.Arrays.View.{ElementType, Geo, item_size, place_of, rearranged_view}
use Rattle.nd_model.proofs.Tuples.{IsTuple}
use Rattle.nd_view.specs.Indexes.{IsIndex}
use Rattle.nd_view.proofs.Indexed.{all_indexes, of_all, same_indexes}
use Rattle.nd_view.proofs.Made.{facts, axes, no_fault}
use Rattle.nd_view.proofs.Numbered.{at_tuple}

pub tuple_of_index : (shape t : List ℕ) → IsIndex shape t → IsTuple shape t
tuple_of_index [] [] is = tt
tuple_of_index [] (i ∷ t) is = absurd is
tuple_of_index (n ∷ shape) [] is = absurd is
tuple_of_index (n ∷ shape) (i ∷ t) is = (is.0, tuple_of_index shape t is.1)

pub index_of_tuple : (shape t : List ℕ) → IsTuple shape t → IsIndex shape t
index_of_tuple [] [] is = tt
index_of_tuple [] (i ∷ t) is = absurd is
index_of_tuple (n ∷ shape) [] is = absurd is
index_of_tuple (n ∷ shape) (i ∷ t) is = (is.0, index_of_tuple shape t is.1)

-- the view and its strides
pub record HasStrides (g : Geo) (strides : List ℤ) : Type 0 where
  pub held : parts_fault (item_size g.element) g.shape strides (get_or g.places 0 0) (2 ^ 64) ≡ None
  pub by : g.places ≡ places_by (get_or g.places 0 0) strides g.shape

-- the same elements by these lengths and strides
pub record LeadsTo (g : Geo) (strides : List ℤ) (shape : List ℕ) (steps : List ℤ) (from : List ℕ → List ℕ) : Type 0 where
  pub limits : IsInLimits (item_size g.element) shape
  pub long : length steps ≡ length shape
  pub index : (t : List ℕ) → IsIndex shape t → IsIndex g.shape (from t)
  pub way : (t : List ℕ) → IsIndex shape t → way_to (from t) strides ≡ way_to t steps

module _ (g : Geo) (strides : List ℤ) (has : HasStrides g strides) (shape : List ℕ) (steps : List ℤ) (from : List ℕ → List ℕ) (leads : LeadsTo g strides shape steps from) where
  first : ℕ
  first = get_or g.places 0 0

  size : ℕ
  size = item_size g.element

  pub length-strides : length strides ≡ length g.shape
  length-strides = axes (item_size g.element) g.shape strides (get_or g.places 0 0) (2 ^ 64) has.held

  all : are_held (item_size g.element) (2 ^ 64) (get_or g.places 0 0) strides g.shape ≡ true
  all = (facts (item_size g.element) g.shape strides (get_or g.places 0 0) (2 ^ 64) has.held).2

  begins : (t : List ℕ) → IsIndex shape t → begins_at (get_or g.places 0 0) steps t ≡ begins_at (get_or g.places 0 0) strides (from t)
  begins t is = ap (λ z. pos (get_or g.places 0 0) +ℤ z) (sym (leads.way t is))

  rearranged_held : are_held (item_size g.element) (2 ^ 64) (get_or g.places 0 0) steps shape ≡ true
  rearranged_held = all_indexes (is_held (item_size g.element) (2 ^ 64)) (begins_at (get_or g.places 0 0) steps) shape
      (λ t is. rw (begins t is) (of_all (is_held (item_size g.element) (2 ^ 64)) (begins_at (get_or g.places 0 0) strides) g.shape (from t) all (leads.index t is)))

  pub rearranged_fault : parts_fault (item_size g.element) shape steps (get_or g.places 0 0) (2 ^ 64) ≡ None
  rearranged_fault = no_fault (item_size g.element) (2 ^ 64) (get_or g.places 0 0) shape steps leads.limits leads.long rearranged_held

  pub rearranged_places : places_by (get_or g.places 0 0) steps shape ≡ map (λ t. place_of g (from t)) (indices shape)
  rearranged_places = same_indexes (place_at (get_or g.places 0 0) steps) (λ t. place_of g (from t)) shape
      (λ t is. ap unsigned_abs (begins t is) ∙ sym (at_tuple (get_or g.places 0 0) strides g.shape (from t) (leads.index t is))
      ∙ ap (λ ps. get_or ps (number g.shape (from t)) 0) (sym has.by))

  -- by what the code has of it
  module _ (t : ElementType) (lengths : List ℕ) (ss : List ℤ) (at : ℕ) (type_is : t ≡ g.element) (lengths_are : lengths ≡ shape) (strides_are : ss ≡ steps) (at_is : at ≡ get_or g.places 0 0) where
    pub built_fault : parts_fault (item_size t) lengths ss at (2 ^ 64) ≡ None
    built_fault = (λ i. parts_fault (item_size (type_is i)) (lengths_are i) (strides_are i) (at_is i) (2 ^ 64)) ∙ rearranged_fault

    pub built_view : (writable is_so : Bool) → writable ≡ is_so
        → ◌≡◌ {A = Geo} (record { element = t; shape = lengths; writable = writable; places = places_by at ss lengths }) (record (rearranged_view g shape from) { writable = is_so })
    built_view writable is_so write =
        let places : places_by at ss lengths ≡ map (λ u. place_of g (from u)) (indices shape) = (λ i. places_by (at_is i) (strides_are i) (lengths_are i)) ∙ rearranged_places in
        λ i. record { element = type_is i; shape = lengths_are i; writable = write i; places = places i }
