-- The common shape of two: both shapes broadcast to it, and its limits are the same for all numbers.
use Rattle.std.proofs.Common.{◌≡◌, ℕ, suc, ◌-◌, ◌*◌, ◌^◌, ◌≤◌, Bool, true, false, leb, List, [], ◌∷◌, ◌++◌, length, drop, reverse, Option, Some, None, refl, sym, ap, ◌∙◌, inl, inr, arith, eqb-true}
use Rattle.std.specs.Prelude.{◌&&◌, ◌||◌, ◌==◌, nat_lt}
use Rattle.std.specs.Option.{option_map}
use Rattle.std.specs.List.{list_any}
use Rattle.std.proofs.lemmas.Bool.{cases_Bool, cases_lt}
use Rattle.std.proofs.lemmas.Bool.Decides.{nat_tests}
use Rattle.std.proofs.lemmas.List.{drop_all, drop-append-le, reverse-append, reverse-reverse, length-reverse}
use Rattle.std.proofs.Math.Nat.{mul-le-mul_left}
use Rattle.nd_model.specs.Arrays.Broadcast.{common_length, and_axis, common_axes, broadcast, can_stretch, broadcasts_to}
use Rattle.nd_model.specs.Arrays.Element.{Kind, size_of}
use Rattle.nd_model.specs.Arrays.Strides.{limit_fault}
use Rattle.nd_model.specs.Arrays.Tuple.{elements_of}
use Rattle.nd_model.proofs.Transposed.{both}
use Rattle.nd_model.proofs.Values.{few_bytes}

-- ---- axes, the last one first

-- each axis of the first is that of the second, or 1
abbrev fit : List ℕ → List ℕ → Bool
fit [] t = true
fit (m ∷ s) [] = false
fit (m ∷ s) (n ∷ t) = (m == n || m == 1) && fit s t

joins : (m n l : ℕ) → common_length m n ≡ Some l → ((m == l || m == 1) ≡ true) × ((n == l || n == 1) ≡ true)
joins m n l e = elim (cases_Bool (m == n)) [
  | inl same ↦ let is : m ≡ n = eqb-true m n same in let f : Some m ≡ Some l = rw same at e in let g : m ≡ l = cc in grind (arith, nat_tests)
  | inr differ ↦ elim (cases_Bool (m == 1)) [
    | inl one ↦ let is : m ≡ 1 = eqb-true m 1 one in let f : Some n ≡ Some l = rw (differ, one) at e in let g : n ≡ l = cc in grind (arith, nat_tests)
    | inr other ↦ elim (cases_Bool (n == 1)) [
      | inl one ↦ let is : n ≡ 1 = eqb-true n 1 one in let f : Some m ≡ Some l = rw (differ, other, one) at e in let g : m ≡ l = cc in grind (arith, nat_tests)
      | inr neither ↦ let f : None ≡ Some l = rw (differ, other, neither) at e in absurd (cc)
    ]
  ]
]

itself : (s : List ℕ) → fit s s ≡ true
itself [] = refl
itself (m ∷ s) = let e : (m == m) ≡ true = grind (arith, nat_tests) in rw (e, itself s) refl

-- what is pushed on
popped : (j : Option ℕ) (rest : Option (List ℕ)) (s : List ℕ) → and_axis j rest ≡ Some s → (l : ℕ) × (r : List ℕ) × (j ≡ Some l) × (rest ≡ Some r) × (s ≡ l ∷ r)
popped None rest s e = absurd (cc)
popped (Some l) None s e = absurd (cc)
popped (Some l) (Some r) s e = (l, r, refl, refl, cc)

fit_common : (s t r : List ℕ) → common_axes s t ≡ Some r → (fit s r ≡ true) × (fit t r ≡ true)
fit_common [] t r e = let f : t ≡ r = cc in (refl, ap (fit t) (sym f) ∙ itself t)
fit_common (m ∷ s) [] r e = let f : m ∷ s ≡ r = cc in (ap (fit (m ∷ s)) (sym f) ∙ itself (m ∷ s), refl)
fit_common (m ∷ s) (n ∷ t) r e =
    let p = popped (common_length m n) (common_axes s t) r e in
    let first = joins m n p.0 p.2 in let rest = fit_common s t p.1 p.3 in
    (ap (fit (m ∷ s)) p.4 ∙ (λ i. first.0 i && rest.0 i), ap (fit (n ∷ t)) p.4 ∙ (λ i. first.1 i && rest.1 i))

-- ---- axes in their order

stretch-append : (s t : List ℕ) (m n : ℕ) → can_stretch s t ≡ true → (m == n || m == 1) ≡ true → can_stretch (s ++ m ∷ []) (t ++ n ∷ []) ≡ true
stretch-append [] [] m n e f = ap (λ b. b && true) f
stretch-append [] (y ∷ t) m n e f = absurd (cc)
stretch-append (x ∷ s) [] m n e f = absurd (cc)
stretch-append (x ∷ s) (y ∷ t) m n e f =
    let parts = both (x == y || x == 1) (can_stretch s t) e in (λ i. parts.0 i && stretch-append s t m n parts.1 f i)

in_order : (s r : List ℕ) → fit s r ≡ true → (length s ≤ length r) × (can_stretch (reverse s) (drop (length r - length s) (reverse r)) ≡ true)
in_order [] r e = (omega arith, ap (can_stretch []) (drop_all (length r - 0) (reverse r) (omega (arith, length-reverse r))))
in_order (m ∷ s) [] e = absurd (cc)
in_order (m ∷ s) (n ∷ r) e =
    let parts = both (m == n || m == 1) (fit s r) e in let rest = in_order s r parts.1 in
    let k : ℕ = length r - length s in
    let less : k ≤ length (reverse r) = omega (arith, length-reverse r) in
    let same : suc (length r) - suc (length s) ≡ k = omega arith in (
      omega (arith, rest.0),
      (λ i. can_stretch (reverse-append (m ∷ []) s i) (drop (same i) (reverse-append (n ∷ []) r i)))
          ∙ ap (can_stretch (reverse s ++ m ∷ [])) (drop-append-le k (reverse r) (n ∷ []) less)
          ∙ stretch-append (reverse s) (drop k (reverse r)) m n rest.1 parts.0,
    )

fits_by : (s u r : List ℕ) → u ≡ reverse r → fit (reverse s) r ≡ true → broadcasts_to s u ≡ true
fits_by s u r is e =
    let o = in_order (reverse s) r e in
    let front : length (reverse s) ≡ length s = length-reverse s in
    let long : length r ≡ length u = sym (ap length is ∙ length-reverse r) in
    let le : leb (length s) (length u) ≡ true = let f = o.0 in grind (arith, nat_tests) in
    let stretch : can_stretch s (drop (length u - length s) u) ≡ true
    = (λ i. can_stretch (sym (reverse-reverse s) i) (drop (sym long i - sym front i) (is i))) ∙ o.1 in
    (λ i. le i && stretch i)

of_some : (o : Option (List ℕ)) (u : List ℕ) → option_map reverse o ≡ Some u → (r : List ℕ) × (o ≡ Some r) × (u ≡ reverse r)
of_some None u e = absurd (cc)
of_some (Some r) u e = (r, refl, cc)

pub broadcast_fits : (s t u : List ℕ) → broadcast s t ≡ Some u → (broadcasts_to s u ≡ true) × (broadcasts_to t u ≡ true)
broadcast_fits s t u e =
    let p = of_some (common_axes (reverse s) (reverse t)) u e in
    let f = fit_common (reverse s) (reverse t) p.0 p.1 in
    (fits_by s u p.0 p.2 f.0, fits_by t u p.0 p.2 f.1)

-- and each shape to itself
pub fits_itself : (s : List ℕ) → broadcasts_to s s ≡ true
fits_itself s = fits_by s s (reverse s) (sym (reverse-reverse s)) (itself (reverse s))

-- ---- limits

-- a shape that is within the limits of one kind is within those of another
pub limits_alike : (j k : Kind) (shape : List ℕ) → limit_fault (size_of j) shape ≡ None → limit_fault (size_of k) shape ≡ None
limits_alike j k shape e = elim (cases_Bool (nat_lt 32 (length shape))) [
  | inl many ↦ let f = rw many at e in absurd (cc)
  | inr few ↦ elim (cases_Bool (list_any (nat_lt (2 ^ 32)) shape)) [
    | inl wide ↦ let f = rw (few, wide) at e in absurd (cc)
    | inr narrow ↦ elim (cases_lt (2 ^ 24) (elements_of shape)) [
      | inl lt ↦ let test : nat_lt (2 ^ 24) (elements_of shape) ≡ true = grind (arith, nat_tests) in let f = rw (few, narrow, test) at e in absurd (cc)
      | inr le ↦
          let test : nat_lt (2 ^ 24) (elements_of shape) ≡ false = grind (arith, nat_tests) in
          let most : elements_of shape * size_of k ≤ elements_of shape * 8 = mul-le-mul_left (elements_of shape) (few_bytes k) in
          let room : nat_lt (2 ^ 27) (elements_of shape * size_of k) ≡ false = grind (arith, nat_tests) in
          rw (few, narrow, test, room) refl
    ]
  ]
]
