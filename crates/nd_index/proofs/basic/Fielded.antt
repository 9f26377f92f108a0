-- The parts of the view of a field.
use Rattle.std.proofs.Common.{◌≡◌, ℕ, ◌+◌, ◌<◌, ◌≤◌, ◌^◌, true, List, [], map, length, get_or, refl, sym, ap, ◌∙◌, inl, inr, arith}
use Rattle.std.specs.Prelude.{Bool, ℤ, pos, ◌+ℤ◌, ◌≤ℤ◌, None, Some, nat_le, unsigned_abs}
use Rattle.nd_model.specs.Arrays.Element.{size_of}
use Rattle.nd_model.specs.Indexing.Selecting.{if_inside, view_of_field}
use Rattle.nd_model.proofs.Fielded.{within_limits}
use Rattle.nd_model.specs.Arrays.View.{Field, One, Structure, Geo, item_size}
use Rattle.nd_types.proofs.Sized.{some_bytes}
use Rattle.std.proofs.lemmas.Bool.{cases_lt}
use Rattle.std.proofs.lemmas.Bool.Decides.{nat_tests}
use Rattle.std.proofs.lemmas.Int.{ints}
use Rattle.nd_model.specs.Arrays.Strides.{way_to, begins_at, place_at, places_by, is_held, are_held, parts_fault}
use Rattle.nd_model.specs.Arrays.Tuple.{elements_of, indices}
use Rattle.nd_view.specs.Indexes.{IsIndex}
use Rattle.nd_view.proofs.Extents.{bounds, held_by, lies}
use Rattle.nd_view.proofs.Indexed.{all_indexes, of_all, same_indexes}
use Rattle.nd_view.proofs.Kept.{no_places}
use Rattle.nd_view.proofs.Made.{facts, axes, no_fault}
use Rattle.nd_view.proofs.Tuples.{map-map}

module _ (size part at first : ℕ) (shape : List ℕ) (strides : List ℤ) (none : parts_fault size shape strides first (2 ^ 64) ≡ None) (fits : at + part ≤ size) where
  all : are_held size (2 ^ 64) first strides shape ≡ true
  all = (facts size shape strides first (2 ^ 64) none).2

  same : length strides ≡ length shape
  same = axes size shape strides first (2 ^ 64) none

  begins : (t : List ℕ) → begins_at (first + at) strides t ≡ begins_at first strides t +ℤ pos at
  begins t = shifted first at (way_to t strides)
    where
      shifted : (m n : ℕ) (z : ℤ) → pos (m + n) +ℤ z ≡ (pos m +ℤ z) +ℤ pos n
      shifted m n z = omega (arith, ints)

  moved : (z : ℤ) → pos 0 ≤ℤ z → (pos 0 ≤ℤ (z +ℤ pos at)) × (unsigned_abs (z +ℤ pos at) ≡ unsigned_abs z + at)
  moved z low = (omega (arith, ints, low), omega (arith, ints, low))

  at_index : (t : List ℕ) → IsIndex shape t → (pos 0 ≤ℤ begins_at first strides t) × (unsigned_abs (begins_at first strides t) + size ≤ 2 ^ 64)
  at_index t is = bounds size (2 ^ 64) (begins_at first strides t) (of_all (is_held size (2 ^ 64)) (begins_at first strides) shape t all is)

  field_held : are_held part (2 ^ 64) (first + at) strides shape ≡ true
  field_held = all_indexes (is_held part (2 ^ 64)) (begins_at (first + at) strides) shape
      (λ t is. let b = at_index t is in let m = moved (begins_at first strides t) b.0 in rw (begins t) (held_by part (2 ^ 64) (begins_at first strides t +ℤ pos at) m.0 (omega (arith, m.1, b.1, fits))))

  pub field_fault : parts_fault part shape strides (first + at) (2 ^ 64) ≡ None
  field_fault = no_fault part (2 ^ 64) (first + at) shape strides (within_limits size part shape (omega (arith, fits)) (facts size shape strides first (2 ^ 64) none).1) same field_held

  pub field_places : places_by (first + at) strides shape ≡ map (λ p. p + at) (places_by first strides shape)
  field_places = same_indexes (place_at (first + at) strides) (λ t. place_at first strides t + at) shape
      (λ t is. ap unsigned_abs (begins t) ∙ (moved (begins_at first strides t) (at_index t is).0).1)
      ∙ sym (map-map (λ p. p + at) (place_at first strides) (indices shape))

  -- the first place may be moved by so many bytes
  pub first_end : (places : List ℕ) → places ≡ places_by first strides shape → first ≡ get_or places 0 0 → 0 < part → at < 2 ^ 64 → first + at < 2 ^ 64
  first_end places by is some small = elim (cases_lt 0 (elements_of shape)) [
    | inl many ↦ let l = lies size (2 ^ 64) first shape strides same many all in omega (arith, l.high, fits)
    | inr gone ↦ let zero_of : elements_of shape ≡ 0 = omega arith in
        let nothing : places ≡ [] = by ∙ no_places first strides shape zero_of in
        let start : first ≡ 0 = is ∙ ap (λ ps. get_or ps 0 0) nothing in omega (arith, start)
  ]

-- a field that ends inside its structure is one
pub kept_inside : (size : ℕ) (f : Field) → f.at + size_of f.element.kind ≤ size → if_inside size (Some f) ≡ Some f
kept_inside size f le = let is : nat_le (f.at + size_of f.element.kind) size ≡ true = grind (arith, nat_tests) in rw is refl

-- the view of a field, by what the code has of it
module _ (g : Geo) (strides : List ℤ) (held : parts_fault (item_size g.element) g.shape strides (get_or g.places 0 0) (2 ^ 64) ≡ None) (by : g.places ≡ places_by (get_or g.places 0 0) strides g.shape)
    (fs : List Field) (size : ℕ) (is : g.element ≡ Structure fs size) (f : Field) (inside : f.at + size_of f.element.kind ≤ size) where
  within : f.at + size_of f.element.kind ≤ item_size g.element
  within = let e : item_size g.element ≡ size = ap item_size is in omega (arith, e, inside)

  pub fielded_start : f.at < 2 ^ 64 → get_or g.places 0 0 + f.at < 2 ^ 64
  fielded_start small = first_end (item_size g.element) (size_of f.element.kind) f.at (get_or g.places 0 0) g.shape strides held within g.places by refl (some_bytes f.element.kind) small

  module _ (shape : List ℕ) (start : ℕ) (shape_is : shape ≡ g.shape) (start_is : start ≡ get_or g.places 0 0 + f.at) where
    pub fielded_fault : parts_fault (size_of f.element.kind) shape strides start (2 ^ 64) ≡ None
    fielded_fault = (λ i. parts_fault (size_of f.element.kind) (shape_is i) strides (start_is i) (2 ^ 64))
        ∙ field_fault (item_size g.element) (size_of f.element.kind) f.at (get_or g.places 0 0) g.shape strides held within

    pub fielded_view : (writable : Bool) → writable ≡ g.writable → ◌≡◌ {A = Geo} (record { element = One f.element; shape = shape; writable = writable; places = places_by start strides shape }) (view_of_field g f)
    fielded_view writable write =
        let places : places_by start strides shape ≡ map (λ p. p + f.at) g.places
        = (λ i. places_by (start_is i) strides (shape_is i)) ∙ field_places (item_size g.element) (size_of f.element.kind) f.at (get_or g.places 0 0) g.shape strides held within ∙ ap (map (λ p. p + f.at)) (sym by) in
        λ i. record { element = One f.element; shape = shape_is i; writable = write i; places = places i }
