-- The length that is left of a number of elements.
use Rattle.std.proofs.Common.{◌≡◌, ℕ, zero, suc, ◌+◌, ◌*◌, ◌/◌, ◌%◌, ◌^◌, ◌<◌, ◌≤◌, Bool, true, false, not, ◌&&◌, ℤ, List, [], ◌∷◌, min, refl, sym, ap, ◌∙◌, inl, inr, arith, eqb-true}
use Rattle.std.specs.Prelude.{◌==◌, if◌then◌else◌, nat_lt, unsigned_abs, Ok, Err}
use Rattle.std.specs.List.{list_all}
use Rattle.std.proofs.Math.Nat.{div-eq_of_lt, mod-eq_of_lt}
use Rattle.std.proofs.lemmas.Nat.{div-add-mod'}
use Rattle.std.proofs.lemmas.Bool.{cases_Bool, cases_lt, cases_eq}
use Rattle.std.proofs.lemmas.Bool.Decides.{nat_tests}
use Rattle.nd_model.specs.Indexing.Reshaping.{is_unknown, is_length, unknowns, lengths_with, known_elements, is_left, shape_for}
use Rattle.nd_model.specs.Cells.Fault.{Shape}
use Rattle.nd_model.specs.Indexing.ShapeFault.{SizeMismatch}
use Rattle.nd_model.specs.Arrays.Tuple.{elements_of}
use Rattle.nd_shape.specs.Reshapes.{fills, IsLeft}

-- where no length is open none is filled in
pub closed : (x y : ℕ) (zs : List ℤ) → unknowns zs ≡ 0 → lengths_with x zs ≡ lengths_with y zs
closed x y [] none = refl
closed x y (z ∷ zs) none = elim (cases_Bool (is_unknown z)) [
  | inl is ↦ let more : 1 + unknowns zs ≡ 0 = rw is at none in absurd (omega arith)
  | inr other ↦ let rest : 0 + unknowns zs ≡ 0 = rw other at none in rw other (ap (λ ns. unsigned_abs z ∷ ns) (closed x y zs (omega arith)))
]

-- where one is open it is a factor
pub one_open : (x : ℕ) (zs : List ℤ) → unknowns zs ≡ 1 → elements_of (lengths_with x zs) ≡ x * known_elements zs
one_open x [] one = absurd (omega arith)
one_open x (z ∷ zs) one = elim (cases_Bool (is_unknown z)) [
  | inl is ↦
      let rest : 1 + unknowns zs ≡ 1 = rw is at one in
      rw is (ap (λ e. x * elements_of e) (closed x 1 zs (omega arith)) ∙ single x (elements_of (lengths_with 1 zs)))
  | inr other ↦ let rest : 0 + unknowns zs ≡ 1 = rw other at one in rw other (ap (λ e. unsigned_abs z * e) (one_open x zs (omega arith)) ∙ swap (unsigned_abs z) x (elements_of (lengths_with 1 zs)))
]
  where
    single : (x e : ℕ) → x * e ≡ x * (1 * e)
    single x e = omega arith

    swap : (a x e : ℕ) → a * (x * e) ≡ x * (a * e)
    swap a x e = omega arith

tested : (a b : Bool) → (a ≡ true → b ≡ true) → (b ≡ true → a ≡ true) → a ≡ b
tested a b to from = elim (cases_Bool a) [
  | inl is ↦ is ∙ sym (to is)
  | inr other ↦ elim (cases_Bool b) [ inl is ↦ from is ∙ sym is | inr neither ↦ other ∙ sym neither ]
]

same_true : (a b : ℕ) → a ≡ b → (a == b) ≡ true
same_true a b e = grind (arith, nat_tests)

divides : (count known : ℕ) → 0 < known → (count % known == 0) ≡ (count / known * known == count)
divides count known some = tested (count % known == 0) (count / known * known == count)
    (λ e. let none : count % known ≡ 0 = eqb-true _ _ e in same_true _ _ (omega (arith, none, div-add-mod' count known)))
    (λ e. let all : count / known * known ≡ count = eqb-true _ _ e in same_true _ _ (omega (arith, all, div-add-mod' count known)))

and_none : (b : Bool) → (false && b) ≡ false
and_none b = refl

-- the test is that of the definition
pub fills_is : (count : ℕ) (zs : List ℤ) → unknowns zs < 2 → fills count (unknowns zs) (known_elements zs) ≡ (is_left zs && (elements_of (lengths_with (count / known_elements zs) zs) == count))
fills_is count zs few = elim (cases_lt 0 (unknowns zs)) [
  | inr none ↦
      let zero_of : unknowns zs ≡ 0 = omega arith in
      let test : (unknowns zs == 0) ≡ true = same_true (unknowns zs) 0 zero_of in
      let same : elements_of (lengths_with (count / known_elements zs) zs) ≡ known_elements zs = ap elements_of (closed (count / known_elements zs) 1 zs zero_of) in
      rw (test, same) refl
  | inl some ↦
      let one : unknowns zs ≡ 1 = omega arith in
      let test : (unknowns zs == 0) ≡ false = not_zero (unknowns zs) some in
      let product : elements_of (lengths_with (count / known_elements zs) zs) ≡ count / known_elements zs * known_elements zs = one_open (count / known_elements zs) zs one in
      rw (test, product) (elim (cases_eq (known_elements zs) 0) [
        | inl gone ↦ rw (same_true (known_elements zs) 0 gone) refl
        | inr there ↦ ap (λ b. not (known_elements zs == 0) && b) (divides count (known_elements zs) (positive (known_elements zs) there))
      ])
]
  where
    not_zero : (n : ℕ) → 0 < n → (n == 0) ≡ false
    not_zero n some = grind (arith, nat_tests)

    positive : (n : ℕ) → (n ≡ 0 → ⊥) → 0 < n
    positive zero differ = absurd (differ refl)
    positive (suc n) differ = omega arith

-- a product that is too great for an array may be cut off
pub cut_off : (count u known : ℕ) → count ≤ 2 ^ 24 → fills count u (min known (2 ^ 24 + 1)) ≡ fills count u known
cut_off count u known few = elim (cases_lt known (2 ^ 24 + 1)) [
  | inl small ↦ ap (fills count u) (low known (2 ^ 24 + 1) small)
  | inr great ↦
      ap (fills count u) (high known (2 ^ 24 + 1) great)
      ∙ elim (u == 0) as (λ b. (if b then 2 ^ 24 + 1 == count else (not (2 ^ 24 + 1 == 0) && (count % (2 ^ 24 + 1) == 0))) ≡ (if b then known == count else (not (known == 0) && (count % known == 0)))) [
        | true ↦ differ (2 ^ 24 + 1) count (omega arith) ∙ sym (differ known count (omega arith))
        | false ↦ both_left count (2 ^ 24 + 1) (omega arith) ∙ sym (both_left count known (omega arith))
      ]
]
  where
    low : (a b : ℕ) → a < b → min a b ≡ a
    low a b lt = omega arith

    high : (a b : ℕ) → b ≤ a → min a b ≡ b
    high a b le = omega arith

    differ : (a b : ℕ) → b < a → (a == b) ≡ false
    differ a b lt = grind (arith, nat_tests)

    both_left : (c k : ℕ) → c < k → (not (k == 0) && (c % k == 0)) ≡ (c == 0)
    both_left c k lt = rw (differ k 0 (omega arith), mod-eq_of_lt lt) refl

pub cut_off_left : (count u known : ℕ) → count ≤ 2 ^ 24 → 0 < u → fills count u (min known (2 ^ 24 + 1)) ≡ true → count / min known (2 ^ 24 + 1) ≡ count / known
cut_off_left count u known few some e = elim (cases_lt known (2 ^ 24 + 1)) [
  | inl small ↦ ap (λ k. count / k) (low known (2 ^ 24 + 1) small)
  | inr great ↦ ap (λ k. count / k) (high known (2 ^ 24 + 1) great) ∙ div-eq_of_lt (less count (2 ^ 24 + 1) few') ∙ sym (div-eq_of_lt (less count known (omega arith)))
]
  where
    few' : count < 2 ^ 24 + 1
    few' = omega arith

    less : (a b : ℕ) → a < b → a < b
    less a b lt = lt

    low : (a b : ℕ) → a < b → min a b ≡ a
    low a b lt = omega arith

    high : (a b : ℕ) → b ≤ a → min a b ≡ b
    high a b le = omega arith

-- ---- the new shape

module _ (count : ℕ) (zs : List ℤ) (u : ℕ) (u_is : u ≡ unknowns zs) (few : u ≤ 1) (within : count ≤ 2 ^ 24) (all : list_all is_length zs ≡ true) (known : ℕ) (known_is : known ≡ min (known_elements zs) (2 ^ 24 + 1)) where
  two : nat_lt (unknowns zs) 2 ≡ true
  two = let lt : unknowns zs < 2 = omega (arith, u_is, few) in below (unknowns zs) 2 lt
    where
      below : (a b : ℕ) → a < b → nat_lt a b ≡ true
      below a b lt = grind (arith, nat_tests)

  own_test : fills count u known ≡ (is_left zs && (elements_of (lengths_with (count / known_elements zs) zs) == count))
  own_test = (λ i. fills count u (known_is i)) ∙ cut_off count u (known_elements zs) within ∙ ap (λ n. fills count n (known_elements zs)) u_is ∙ fills_is count zs (omega (arith, u_is, few))

  pub no_shape : fills count u known ≡ false → Err (Shape SizeMismatch) ≡ shape_for count zs
  no_shape e =
      let no_fit : (is_left zs && (elements_of (lengths_with (count / known_elements zs) zs) == count)) ≡ false = sym own_test ∙ e in
      rw (two, all, no_fit) refl

  pub own_shape : (left : ℕ) (items : List ℕ) → fills count u known ≡ true → IsLeft count u known left → items ≡ lengths_with left zs → Ok items ≡ shape_for count zs
  own_shape left items e is made =
      let fit : (is_left zs && (elements_of (lengths_with (count / known_elements zs) zs) == count)) ≡ true = sym own_test ∙ e in
      let same : lengths_with left zs ≡ lengths_with (count / known_elements zs) zs = elim (cases_lt 0 u) [
        | inr none ↦ closed left (count / known_elements zs) zs (omega (arith, u_is, none))
        | inl some ↦
            let e' : fills count u (min (known_elements zs) (2 ^ 24 + 1)) ≡ true = (λ i. fills count u (sym known_is i)) ∙ e in
            ap (λ n. lengths_with n zs) (is.1 some ∙ ap (λ k. count / k) known_is ∙ cut_off_left count u (known_elements zs) within some e')
      ] in
      rw (two, all, fit) (λ i. Ok ((made ∙ same) i))
