-- The strides that a view keeps lead to the same places.
use Rattle.std.proofs.Common.{◌≡◌, ℕ, zero, suc, ◌-◌, ◌*◌, ◌<◌, ◌≤◌, ◌==◌, true, false, List, [], ◌∷◌, length, get_or, refl, sym, ap, ◌∙◌, inl, inr, arith}
use Rattle.std.specs.Prelude.{ℤ, pos, ◌+ℤ◌, ◌*ℤ◌, ◌||◌, nat_le, unsigned_abs, if◌then◌else◌}
use Rattle.std.proofs.lemmas.Bool.{cases_lt}
use Rattle.std.proofs.lemmas.Bool.Decides.{nat_tests}
use Rattle.std.proofs.lemmas.Int.{ints}
use Rattle.nd_model.specs.Arrays.Strides.{way_to, place_at, places_by}
use Rattle.nd_model.specs.Arrays.Tuple.{elements_of}
use Rattle.nd_view.specs.Indexes.{IsIndex}
use Rattle.nd_view.specs.Strides.{before, behind, before_of, behind_of, kept, kept_all}
use Rattle.nd_view.proofs.Indexed.{same_indexes}
use Rattle.nd_view.proofs.Tuples.{no_tuples}

-- a stride is kept, or 0 stands in its place
kept_is : (count n : ℕ) (s : ℤ) → (P : ℤ → Type 0) → P (pos 0) → P s → P (kept count n s)
kept_is count n s P none all = elim (nat_le n 1 || count == 0) as (λ b. P (if b then pos 0 else s)) [ true ↦ none | false ↦ all ]

pub kept_short : (count n : ℕ) (s : ℤ) → n ≤ 1 → kept count n s ≡ pos 0
kept_short count n s le = let test : nat_le n 1 ≡ true = grind (arith, nat_tests) in rw test refl

pub kept_long : (count n : ℕ) (s : ℤ) → 1 < n → 0 < count → kept count n s ≡ s
kept_long count n s lt some = let test : nat_le n 1 ≡ false = grind (arith, nat_tests) in let none : (count == 0) ≡ false = grind (arith, nat_tests) in rw (test, none) refl

pub kept_none : (n : ℕ) (s : ℤ) → kept 0 n s ≡ pos 0
kept_none n s = elim (nat_le n 1) as (λ b. (if b || 0 == 0 then pos 0 else s) ≡ pos 0) [ true ↦ refl | false ↦ refl ]

-- the stride that is kept of an axis of at most one element, or of none, is 0
pub short_stride : (count : ℕ) (shape : List ℕ) (strides : List ℤ) (m : ℕ) → kept_all count shape strides ≡ strides → get_or shape m 1 ≤ 1 → get_or strides m (pos 0) ≡ pos 0
short_stride count [] strides m e le = sym (ap (λ l. get_or l m (pos 0)) e)
short_stride count (n ∷ shape) [] m e le = refl
short_stride count (n ∷ shape) (s ∷ strides) zero e le = let first : kept count n s ≡ s = cc in sym first ∙ kept_short count n s le
short_stride count (n ∷ shape) (s ∷ strides) (suc m) e le = let rest : kept_all count shape strides ≡ strides = cc in short_stride count shape strides m rest le

before_kept : (count n : ℕ) (s : ℤ) → before n (kept count n s) ≤ before n s
before_kept count n s = kept_is count n s (λ z. before n z ≤ before n s) (omega arith) (omega arith)

behind_none : (n : ℕ) → (n - 1) * 0 ≡ 0
behind_none n = omega arith

behind_kept : (count n : ℕ) (s : ℤ) → behind n (kept count n s) ≤ behind n s
behind_kept count n s = kept_is count n s (λ z. behind n z ≤ behind n s) (omega (arith, behind_none n)) (omega arith)

pub before_of-kept : (count : ℕ) (shape : List ℕ) (strides : List ℤ) → before_of shape (kept_all count shape strides) ≤ before_of shape strides
before_of-kept count [] strides = omega arith
before_of-kept count (n ∷ shape) [] = omega arith
before_of-kept count (n ∷ shape) (s ∷ strides) = omega (arith, before_kept count n s, before_of-kept count shape strides)

pub behind_of-kept : (count : ℕ) (shape : List ℕ) (strides : List ℤ) → behind_of shape (kept_all count shape strides) ≤ behind_of shape strides
behind_of-kept count [] strides = omega arith
behind_of-kept count (n ∷ shape) [] = omega arith
behind_of-kept count (n ∷ shape) (s ∷ strides) = omega (arith, behind_kept count n s, behind_of-kept count shape strides)

-- without elements nothing reaches anywhere
pub nothing_before : (shape : List ℕ) (strides : List ℤ) → before_of shape (kept_all 0 shape strides) ≡ 0
nothing_before [] strides = refl
nothing_before (n ∷ shape) [] = refl
nothing_before (n ∷ shape) (s ∷ strides) = rw (kept_none n s) (omega (arith, nothing_before shape strides))

pub nothing_behind : (shape : List ℕ) (strides : List ℤ) → behind_of shape (kept_all 0 shape strides) ≡ 0
nothing_behind [] strides = refl
nothing_behind (n ∷ shape) [] = refl
nothing_behind (n ∷ shape) (s ∷ strides) = rw (kept_none n s) (omega (arith, behind_none n, nothing_behind shape strides))

pub length-kept : (count : ℕ) (shape : List ℕ) (strides : List ℤ) → length strides ≡ length shape → length (kept_all count shape strides) ≡ length shape
length-kept count [] strides same = refl
length-kept count (n ∷ shape) [] same = absurd (omega arith)
length-kept count (n ∷ shape) (s ∷ strides) same = ap suc (length-kept count shape strides (omega arith))

again : (count n : ℕ) (s : ℤ) → kept count n (kept count n s) ≡ kept count n s
again count n s = elim (nat_le n 1 || count == 0) as (λ b. (if b then pos 0 else (if b then pos 0 else s)) ≡ (if b then pos 0 else s)) [ true ↦ refl | false ↦ refl ]

pub kept_again : (count : ℕ) (shape : List ℕ) (strides : List ℤ) → kept_all count shape (kept_all count shape strides) ≡ kept_all count shape strides
kept_again count [] strides = refl
kept_again count (n ∷ shape) [] = refl
kept_again count (n ∷ shape) (s ∷ strides) = λ k. again count n s k ∷ kept_again count shape strides k

no_way : (s z : ℤ) → (pos 0 *ℤ pos 0) +ℤ z ≡ (pos 0 *ℤ s) +ℤ z
no_way s z = omega (arith, ints)

-- where there are elements
way_kept : (count : ℕ) (shape t : List ℕ) (strides : List ℤ) → 0 < count → IsIndex shape t → way_to t (kept_all count shape strides) ≡ way_to t strides
way_kept count [] [] strides some is = refl
way_kept count [] (i ∷ t) strides some is = absurd is
way_kept count (n ∷ shape) [] strides some is = absurd is
way_kept count (n ∷ shape) (i ∷ t) [] some is = refl
way_kept count (n ∷ shape) (i ∷ t) (s ∷ strides) some is =
    let rest = way_kept count shape t strides some is.1 in
    elim (cases_lt 1 n) [
      | inl long ↦ rw (kept_long count n s long some, rest) refl
      | inr short ↦ let first : i ≡ 0 = omega (arith, is.0) in
          (λ k. (pos (first k) *ℤ kept_short count n s short k) +ℤ rest k) ∙ no_way s (way_to t strides) ∙ (λ k. (pos (sym first k) *ℤ s) +ℤ way_to t strides)
    ]

pub places_kept : (offset : ℕ) (shape : List ℕ) (strides : List ℤ) → 0 < elements_of shape → places_by offset (kept_all (elements_of shape) shape strides) shape ≡ places_by offset strides shape
places_kept offset shape strides some =
    same_indexes (place_at offset (kept_all (elements_of shape) shape strides)) (place_at offset strides) shape
    (λ t is. ap (λ z. unsigned_abs (pos offset +ℤ z)) (way_kept (elements_of shape) shape t strides some is))

pub no_places : (offset : ℕ) (strides : List ℤ) (shape : List ℕ) → elements_of shape ≡ 0 → places_by offset strides shape ≡ []
no_places offset strides shape none = rw (no_tuples shape none) refl
