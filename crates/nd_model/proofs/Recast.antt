-- What is seen of a view as other numbers lies where the view lies.
use Rattle.std.proofs.Common.{◌≡◌, ℕ, zero, suc, ◌+◌, ◌-◌, ◌*◌, ◌/◌, ◌%◌, ◌<◌, ◌≤◌, Bool, true, ◌&&◌, eqb, not, List, [], ◌∷◌, map, length, Result, Ok, refl, sym, ap, subst, ◌∙◌, inl, inr, arith, eqb-true}
use Rattle.std.specs.Prelude.{◌==◌, None}
use Rattle.std.specs.List.{All, list_all, flat_map}
use Rattle.std.proofs.Math.Nat.{div-mul-le_self, mul-le-mul_right}
use Rattle.std.proofs.lemmas.Bool.{cases_Bool}
use Rattle.std.proofs.lemmas.Bool.Decides.{nat_tests}
use Rattle.std.proofs.lemmas.List.{length-map}
use Rattle.std.proofs.lemmas.List.Elements.{All-map, All-weaker}
use Rattle.std.proofs.lemmas.List.Folds.{list_all-append}
use Rattle.nd_model.specs.Arrays.Element.{Element, size_of}
use Rattle.nd_model.specs.Arrays.Tuple.{count_up, indices}
use Rattle.nd_model.specs.Arrays.Strides.{limit_fault}
use Rattle.nd_model.specs.Arrays.View.{Geo, One, item_size, place_of}
use Rattle.nd_model.specs.Cells.Fault.{Fault, View, ItemSizes}
use Rattle.nd_model.specs.Cells.Refusing.{when}
use Rattle.nd_model.specs.Arrays.Broadcast.{in_limits}
use Rattle.nd_model.specs.Making.Creation.{is_number_type}
use Rattle.nd_model.specs.Indexing.Recasting.{last_of, with_last, row_start, has_whole_rows, row_bytes, can_recast, recast_shape, recast_view, view_as}
use Rattle.nd_model.specs.Cells.Sound.{LiesIn}
use Rattle.nd_model.proofs.Tuples.{length-indices, IsTuple, all_tuples}
use Rattle.nd_model.proofs.Taking.{place_within}
use Rattle.nd_model.proofs.Transposed.{both, when_ok, ok_same}
use Rattle.nd_model.proofs.Stretched.{unless_ok}

-- ---- what is so of all tuples is so of each

all_first : {X : Type 0} (p : X → Bool) (xs ys : List X) → (list_all p xs && list_all p ys) ≡ true → (list_all p xs ≡ true) × (list_all p ys ≡ true)
all_first p xs ys e = both (list_all p xs) (list_all p ys) e

all_mapped : {X Y : Type 0} (p : Y → Bool) (f : X → Y) (xs : List X) → list_all p (map f xs) ≡ list_all (λ x. p (f x)) xs
all_mapped p f [] = refl
all_mapped p f (x ∷ xs) = ap (λ b. p (f x) && b) (all_mapped p f xs)

module _ {X : Type 0} (p : X → Bool) (g : ℕ → List X) where
  all_piece : (from n i : ℕ) → from ≤ i → i < from + n → list_all p (flat_map g (count_up from n)) ≡ true → list_all p (g i) ≡ true
  all_piece from zero i low high e = absurd (omega arith)
  all_piece from (suc n) i low high e =
      let parts = both (list_all p (g from)) (list_all p (flat_map g (count_up (from + 1) n))) (sym (list_all-append p (g from) (flat_map g (count_up (from + 1) n))) ∙ e) in
      elim (cases_Bool (eqb from i)) [
        | inl is ↦ let same : from ≡ i = eqb-true from i is in rw (← same) parts.0
        | inr other ↦ all_piece (from + 1) n i (grind (arith, nat_tests)) (omega arith) parts.1
      ]

pub at_each : (p : List ℕ → Bool) (shape t : List ℕ) → list_all p (indices shape) ≡ true → IsTuple shape t → p t ≡ true
at_each p [] [] e is = (both (p []) true e).0
at_each p [] (i ∷ t) e is = absurd is
at_each p (n ∷ shape) [] e is = absurd is
at_each p (n ∷ shape) (i ∷ t) e is =
    let row = all_piece p (λ k. map (λ u. k ∷ u) (indices shape)) 0 n i (omega arith) (omega (arith, is.0)) e in
    at_each (λ u. p (i ∷ u)) shape t (sym (all_mapped p (λ u. i ∷ u) (indices shape)) ∙ row) is.1

-- ---- the last axis

pub last_with : (t : List ℕ) (k : ℕ) → 0 < length t → last_of (with_last t k) ≡ k
last_with [] k some = absurd (omega arith)
last_with (i ∷ []) k some = refl
last_with (i ∷ j ∷ []) k some = refl
last_with (i ∷ j ∷ l ∷ t) k some = last_with (j ∷ l ∷ t) k (omega arith)

pub with_again : (t : List ℕ) (k m : ℕ) → with_last (with_last t k) m ≡ with_last t m
with_again [] k m = refl
with_again (i ∷ []) k m = refl
with_again (i ∷ j ∷ []) k m = refl
with_again (i ∷ j ∷ l ∷ t) k m = ap (λ u. i ∷ u) (with_again (j ∷ l ∷ t) k m)

pub length-with_last : (t : List ℕ) (k : ℕ) → length (with_last t k) ≡ length t
length-with_last [] k = refl
length-with_last (i ∷ []) k = refl
length-with_last (i ∷ j ∷ t) k = ap suc (length-with_last (j ∷ t) k)

-- another length of the last axis, and another index on it
pub last_tuple : (shape t : List ℕ) (k m : ℕ) → IsTuple (with_last shape k) t → m < last_of shape → IsTuple shape (with_last t m)
last_tuple [] t k m is lt = absurd (omega arith)
last_tuple (n ∷ []) [] k m is lt = absurd is
last_tuple (n ∷ []) (i ∷ []) k m is lt = (lt, tt)
last_tuple (n ∷ []) (i ∷ j ∷ t) k m is lt = absurd is.1
last_tuple (n ∷ o ∷ []) [] k m is lt = absurd is
last_tuple (n ∷ o ∷ []) (i ∷ []) k m is lt = absurd is.1
last_tuple (n ∷ o ∷ []) (i ∷ j ∷ t) k m is lt = (is.0, last_tuple (o ∷ []) (j ∷ t) k m is.1 lt)
last_tuple (n ∷ o ∷ p ∷ shape) [] k m is lt = absurd is
last_tuple (n ∷ o ∷ p ∷ shape) (i ∷ []) k m is lt = absurd is.1
last_tuple (n ∷ o ∷ p ∷ shape) (i ∷ j ∷ t) k m is lt = (is.0, last_tuple (o ∷ p ∷ shape) (j ∷ t) k m is.1 lt)

pub last_below : (shape t : List ℕ) → IsTuple shape t → 0 < length shape → (last_of t < last_of shape) × (0 < length t)
last_below [] t is some = absurd (omega arith)
last_below (n ∷ []) [] is some = absurd is
last_below (n ∷ []) (i ∷ []) is some = (is.0, omega arith)
last_below (n ∷ []) (i ∷ j ∷ t) is some = absurd is.1
last_below (n ∷ o ∷ shape) [] is some = absurd is
last_below (n ∷ o ∷ shape) (i ∷ []) is some = absurd is.1
last_below (n ∷ o ∷ shape) (i ∷ j ∷ t) is some = ((last_below (o ∷ shape) (j ∷ t) is.1 (omega arith)).0, omega arith)

-- ---- whole rows

pub some_axes : (n : ℕ) → not (n == 0) ≡ true → 0 < n
some_axes n e = grind (arith, nat_tests)

-- a row of n elements of s bytes has its first j + 1 elements of m bytes inside
inside_row : (n s m j k start len : ℕ) → k ≡ n * s / m → j < k → start + (n - 1) * s + s ≤ len → start + j * m + m ≤ len
inside_row zero s m j k start len e lt le = let none : 0 * s / m * m ≤ 0 * s = div-mul-le_self (0 * s) m in let some : suc j * m ≤ k * m = mul-le-mul_right m lt in omega (arith, none, some, e)
inside_row (suc n) s m j k start len e lt le =
    let whole : suc n * s / m * m ≤ suc n * s = div-mul-le_self (suc n * s) m in
    let some : suc j * m ≤ k * m = mul-le-mul_right m lt in
    let one : suc n - 1 ≡ n = omega arith in let le' : start + n * s + s ≤ len = rw one at le in
    let same : k * m ≡ suc n * s / m * m = ap (λ x. x * m) e in
    omega (arith, whole, some, same, le')

no_bytes : (n s m j : ℕ) → j < n * s / m → 0 < n
no_bytes zero s m j lt = let none : 0 * s / m * m ≤ 0 * s = div-mul-le_self (0 * s) m in absurd (zero_div m j lt)
  where
    zero_div : (m j : ℕ) → j < 0 * s / m → ⊥
    zero_div zero j lt = omega (arith, lt)
    zero_div (suc m) j lt = let none : 0 * s / suc m * suc m ≤ 0 * s = div-mul-le_self (0 * s) (suc m) in let some : suc j * suc m ≤ 0 * s / suc m * suc m = mul-le-mul_right (suc m) lt in omega (arith, none, some)
no_bytes (suc n) s m j lt = omega arith

module _ (e : Element) (g : Geo) (len : ℕ) (lies : LiesIn len g) (can : can_recast e g ≡ true) where
  parts : (not (length g.shape == 0) ≡ true) × ((has_whole_rows g && (row_bytes g % size_of e.kind == 0)) ≡ true)
  parts = both (not (length g.shape == 0)) (has_whole_rows g && (row_bytes g % size_of e.kind == 0)) can

  rows : has_whole_rows g ≡ true
  rows = (both (has_whole_rows g) (row_bytes g % size_of e.kind == 0) parts.1).0

  some : 0 < length g.shape
  some = some_axes (length g.shape) parts.0

  pub row_some : (t : List ℕ) → IsTuple (recast_shape e g) t → 0 < last_of g.shape
  row_some t is =
      let k : ℕ = row_bytes g / size_of e.kind in
      let low = last_below (recast_shape e g) t is (omega (arith, some, length-with_last g.shape k)) in
      no_bytes (last_of g.shape) (item_size g.element) (size_of e.kind) (last_of t) (omega (arith, low.0, last_with g.shape k some))

  pub element_inside : (t : List ℕ) → IsTuple (recast_shape e g) t → row_start g t + last_of t * size_of e.kind + size_of e.kind ≤ len
  element_inside t is =
      let n : ℕ = last_of g.shape in
      let k : ℕ = row_bytes g / size_of e.kind in
      let axes : 0 < length (recast_shape e g) = omega (arith, some, length-with_last g.shape k) in
      let low = last_below (recast_shape e g) t is axes in
      let below : last_of t < k = omega (arith, low.0, last_with g.shape k some) in
      let many : 0 < n = no_bytes n (item_size g.element) (size_of e.kind) (last_of t) below in
      let u : List ℕ = with_last t (n - 1) in
      let own : IsTuple g.shape u = last_tuple g.shape t k (n - 1) is (omega arith) in
      let within : place_of g u + item_size g.element ≤ len = place_within len g u lies own in
      let even : place_of g u ≡ row_start g u + last_of u * item_size g.element = eqb-true _ _ (at_each (λ t. place_of g t == row_start g t + last_of t * item_size g.element) g.shape u rows own) in
      let same : row_start g u ≡ row_start g t = ap (place_of g) (with_again t (n - 1) 0) in
      let last : last_of u * item_size g.element ≡ (n - 1) * item_size g.element = ap (λ i. i * item_size g.element) (last_with t (n - 1) low.1) in
      inside_row n (item_size g.element) (size_of e.kind) (last_of t) k (row_start g t) len refl below (omega (arith, within, even, same, last))

  recast_within : limit_fault (size_of e.kind) (recast_shape e g) ≡ None → LiesIn len (recast_view e g)
  recast_within limits = record {
    count = length-map (indices (recast_shape e g)) _ ∙ length-indices (recast_shape e g);
    limits = limits;
    inside = All-map (λ p. p + size_of e.kind ≤ len) (λ t. row_start g t + last_of t * size_of e.kind) (indices (recast_shape e g))
        (All-weaker (IsTuple (recast_shape e g)) (λ t. row_start g t + last_of t * size_of e.kind + size_of e.kind ≤ len) element_inside (indices (recast_shape e g)) (all_tuples (recast_shape e g)));
  }

same_size : (e : Element) (g : Geo) (len : ℕ) → item_size g.element ≡ size_of e.kind → LiesIn len g → LiesIn len (record g { element = One e })
same_size e g len same lies = record {
  count = lies.count;
  limits = ap (λ s. limit_fault s g.shape) (sym same) ∙ lies.limits;
  inside = subst (λ s. All (λ p. p + s ≤ len) g.places) same lies.inside;
}

pub recast_lies : (e : Element) (g h : Geo) (len : ℕ) → LiesIn len g → view_as e g ≡ Ok h → LiesIn len h
recast_lies e g h len lies made = elim (cases_Bool (item_size g.element == size_of e.kind)) [
  | inl is ↦ let made' : ◌≡◌ {A = Result Geo Fault} (Ok (record g { element = One e })) (Ok h) = rw is at made in
      subst (LiesIn len) (ok_same (record g { element = One e }) h made') (same_size e g len (eqb-true _ _ is) lies)
  | inr other ↦
      let made' : when (is_number_type g.element && can_recast e g) (View ItemSizes) (in_limits (One e) (recast_shape e g) (Ok (recast_view e g))) ≡ Ok h = rw other at made in
      let can = when_ok (is_number_type g.element && can_recast e g) (View ItemSizes) _ h made' in
      let limited = unless_ok (limit_fault (size_of e.kind) (recast_shape e g)) _ h can.1 in
      subst (LiesIn len) (ok_same (recast_view e g) h limited.1) (recast_within e g len lies (both (is_number_type g.element) (can_recast e g) can.0).1 limited.0)
]
