-- What the fields of a view say of its places.
use Rattle.std.proofs.Common.{◌≡◌, ℕ, zero, suc, ◌+◌, ◌-◌, ◌*◌, ◌^◌, ◌<◌, ◌≤◌, ◌==◌, true, false, List, [], ◌∷◌, length, take, replicate, get_or, refl, sym, ap, ◌∙◌, inl, inr, arith}
use Rattle.std.specs.Prelude.{ℤ, pos, ◌||◌, nat_le, if◌then◌else◌}
use Rattle.std.proofs.lemmas.Bool.{cases_lt}
use Rattle.std.proofs.lemmas.Bool.Decides.{nat_tests}
use Rattle.nd_model.specs.Arrays.Strides.{place_at, places_by}
use Rattle.nd_model.specs.Arrays.Tuple.{elements_of, number}
use Rattle.nd_model.specs.Arrays.View.{ElementType, Geo, contiguous, item_size}
use Rattle.nd_types.specs.Types.{type_of}
use Rattle.nd_view.specs.Indexes.{IsIndex}
use Rattle.nd_view.specs.Strides.{before, before_of, behind_of, kept_all, steps_of, strides_of}
use Rattle.nd_view.specs.Views.{geo_of, IsView}
use Rattle.nd_view.specs.declared.strided.View.TheInside.{Inside}
use Rattle.std.proofs.lemmas.List.{length-replicate}
use Rattle.nd_view.proofs.Counts.{rest_some}
use Rattle.nd_view.specs.Paths.{IsPath}
use Rattle.nd_view.proofs.Extents.{Lies, reached, path_of}
use Rattle.nd_view.proofs.Gapless.{places_by-strides_of}
use Rattle.nd_view.proofs.Kept.{kept_none}
use Rattle.nd_view.proofs.Limits.{AreLimited, limits_of}
use Rattle.nd_view.proofs.Numbered.{length-places_by, at_tuple, at_number, tuple_of, tuple_is}

module _ (v : Inside) (is : IsView v) (g : Geo) (e : geo_of v ≡ g) where
  places : places_by v.offset v.strides.items v.shape.items ≡ g.places
  places = λ i. (e i).places

  pub shape_is : v.shape.items ≡ g.shape
  shape_is = λ i. (e i).shape

  pub count_of : elements_of v.shape.items ≡ length g.places
  count_of = sym (length-places_by v.offset v.strides.items v.shape.items) ∙ ap length places

  pub elements_are : elements_of g.shape ≡ length g.places
  elements_are = sym (ap elements_of shape_is) ∙ count_of

  pub limited : AreLimited (item_size (type_of v.elem)) v.shape.items
  limited = limits_of (item_size (type_of v.elem)) v.shape.items is.limits

  pub lies_of : Lies (item_size (type_of v.elem)) (2 ^ 64) v.shape.items v.strides.items v.offset
  lies_of = record { low = is.low; high = is.high }

  pub tuple_at : (t : List ℕ) → IsIndex v.shape.items t → place_at v.offset v.strides.items t ≡ get_or g.places (number v.shape.items t) 0
  tuple_at t index = sym (at_tuple v.offset v.strides.items v.shape.items t index) ∙ ap (λ ps. get_or ps (number v.shape.items t) 0) places

  pub number_at : (k : ℕ) → k < elements_of v.shape.items → place_at v.offset v.strides.items (tuple_of v.shape.items k) ≡ get_or g.places k 0
  number_at k lt = sym (at_number v.offset v.strides.items v.shape.items k lt) ∙ ap (λ ps. get_or ps k 0) places

  pub path_at : (t : List ℕ) → IsIndex (take (length t) v.shape.items) t → IsPath v.offset v.strides.items t
  path_at t index = path_of (item_size (type_of v.elem)) v.shape.items t v.strides.items v.offset is.some is.axes index lies_of

  -- each element lies below 2^64
  pub ends : (k : ℕ) → k < length g.places → get_or g.places k 0 + item_size g.element ≤ 2 ^ 64
  ends k lt =
      let few : k < elements_of v.shape.items = omega (arith, count_of) in
      let t = tuple_of v.shape.items k in
      let r = reached (item_size (type_of v.elem)) (2 ^ 64) v.shape.items t v.strides.items v.offset is.axes (tuple_is v.shape.items k few).0 lies_of in
      let size : item_size (type_of v.elem) ≡ item_size g.element = λ i. item_size (e i).element in
      let here : place_at v.offset v.strides.items t ≡ get_or g.places k 0 = number_at k few in
      omega (arith, r.1, size, here)

-- ---- an array without gaps

steps_before : (size : ℕ) (shape : List ℕ) → before_of shape (steps_of size shape) ≡ 0
steps_before size [] = refl
steps_before size (n ∷ shape) =
    let rest = steps_before size shape in
    elim (nat_le n 1) as (λ b. before n (if b then pos 0 else pos (elements_of shape * size)) + before_of shape (steps_of size shape) ≡ 0) [ true ↦ omega (arith, rest) | false ↦ omega (arith, rest) ]

steps_behind : (size : ℕ) (shape : List ℕ) → 0 < elements_of shape → behind_of shape (steps_of size shape) + size ≡ elements_of shape * size
steps_behind size [] some = omega arith
steps_behind size (zero ∷ shape) some = absurd (omega arith)
steps_behind size (suc n ∷ shape) some =
    let rest : behind_of shape (steps_of size shape) + size ≡ elements_of shape * size = steps_behind size shape (rest_some (suc n) (elements_of shape) some) in
    elim (cases_lt 1 (suc n)) [
      | inl long ↦ let test : nat_le (suc n) 1 ≡ false = grind (arith, nat_tests) in let one : suc n - 1 ≡ n = omega arith in
          let last : (suc n - 1) * (elements_of shape * size) ≡ n * (elements_of shape * size) = ap (λ k. k * (elements_of shape * size)) one in
          rw test (omega (arith, rest, last))
      | inr short ↦ let test : nat_le (suc n) 1 ≡ true = grind (arith, nat_tests) in let one : n ≡ 0 = omega arith in rw (test, one) (omega (arith, rest))
    ]

steps_kept : (count size : ℕ) (shape : List ℕ) → 0 < count → kept_all count shape (steps_of size shape) ≡ steps_of size shape
steps_kept count size [] some = refl
steps_kept count size (n ∷ shape) some =
    let rest = steps_kept count size shape some in let none : (count == 0) ≡ false = grind (arith, nat_tests) in
    elim (nat_le n 1) as (λ b. (if b || count == 0 then pos 0 else (if b then pos 0 else pos (elements_of shape * size))) ∷ kept_all count shape (steps_of size shape)
    ≡ (if b then pos 0 else pos (elements_of shape * size)) ∷ steps_of size shape) [
      | true ↦ ap (λ l. pos 0 ∷ l) rest
      | false ↦ rw none (ap (λ l. pos (elements_of shape * size) ∷ l) rest)
    ]

length-steps : (size : ℕ) (shape : List ℕ) → length (steps_of size shape) ≡ length shape
length-steps size [] = refl
length-steps size (n ∷ shape) = ap suc (length-steps size shape)

zeros_kept : (shape : List ℕ) → kept_all 0 shape (replicate (length shape) (pos 0)) ≡ replicate (length shape) (pos 0)
zeros_kept [] = refl
zeros_kept (n ∷ shape) = λ i. kept_none n (pos 0) i ∷ zeros_kept shape i

zeros_before : (shape : List ℕ) → before_of shape (replicate (length shape) (pos 0)) ≡ 0
zeros_before [] = refl
zeros_before (n ∷ shape) = omega (arith, zeros_before shape)

zeros_behind : (shape : List ℕ) → behind_of shape (replicate (length shape) (pos 0)) ≡ 0
zeros_behind [] = refl
zeros_behind (n ∷ shape) = let none : (n - 1) * 0 ≡ 0 = omega arith in omega (arith, none, zeros_behind shape)

-- the fields of an array without gaps
pub record AreGapless (size : ℕ) (shape : List ℕ) : Type 0 where
  pub axes : length (strides_of size shape) ≡ length shape
  pub kept : kept_all (elements_of shape) shape (strides_of size shape) ≡ strides_of size shape
  pub low : before_of shape (strides_of size shape) ≡ 0
  pub high : behind_of shape (strides_of size shape) + size ≤ 2 ^ 64

pub gapless : (size : ℕ) (shape : List ℕ) → size ≤ 65536 → elements_of shape * size ≤ 2 ^ 27 → AreGapless size shape
gapless size shape small limit =
    elim (cases_lt 0 (elements_of shape)) [
      | inl some ↦ let test : (elements_of shape == 0) ≡ false = grind (arith, nat_tests) in
          let steps : strides_of size shape ≡ steps_of size shape = rw test refl in
          record {
            axes = rw steps (length-steps size shape);
            kept = rw steps (steps_kept (elements_of shape) size shape some);
            low = rw steps (steps_before size shape);
            high = rw steps (omega (arith, steps_behind size shape some));
          }
      | inr none ↦ let zero_of : elements_of shape ≡ 0 = omega arith in let test : (elements_of shape == 0) ≡ true = grind (arith, nat_tests) in
          let steps : strides_of size shape ≡ replicate (length shape) (pos 0) = rw test refl in
          record {
            axes = rw steps (length-replicate (length shape) (pos 0));
            kept = rw (steps, zero_of) (zeros_kept shape);
            low = rw steps (zeros_before shape);
            high = rw steps (omega (arith, zeros_behind shape));
          }
    ]

-- a new view
pub made : (t : ElementType) (shape lengths : List ℕ) (strides : List ℤ) → lengths ≡ shape → strides ≡ strides_of (item_size t) shape
    → ◌≡◌ {A = Geo} (record { element = t; shape = lengths; writable = true; places = places_by 0 strides lengths }) (contiguous t shape)
made t shape lengths strides same steps =
    let ps : places_by 0 strides lengths ≡ (contiguous t shape).places = rw (same, steps) (places_by-strides_of (item_size t) shape) in
    λ i. record { element = t; shape = same i; writable = true; places = ps i }
