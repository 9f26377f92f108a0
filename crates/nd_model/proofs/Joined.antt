-- The common shape of some: each of the shapes broadcasts to it.
use Rattle.std.proofs.Common.{◌≡◌, ℕ, suc, ◌-◌, ◌≤◌, Bool, true, false, leb, List, [], ◌∷◌, ◌++◌, length, drop, reverse, Option, Some, None, refl, sym, ap, ◌∙◌, inl, inr, arith, eqb-true}
use Rattle.std.specs.Prelude.{◌&&◌, ◌||◌, ◌==◌}
use Rattle.std.specs.Option.{option_map}
use Rattle.std.proofs.lemmas.Bool.{cases_Bool, or_cases}
use Rattle.std.proofs.lemmas.Bool.Decides.{nat_tests}
use Rattle.std.proofs.lemmas.List.{drop_all, drop-append-le, reverse-append, reverse-reverse, length-reverse}
use Rattle.nd_model.specs.Arrays.Broadcast.{common_length, and_axis, common_axes, broadcast, can_stretch, broadcasts_to}
use Rattle.nd_model.proofs.Transposed.{both}

-- ---- axes, the last one first

-- each axis of the first is that of the second, or 1
abbrev pub fit : List ℕ → List ℕ → Bool
fit [] t = true
fit (m ∷ s) [] = false
fit (m ∷ s) (n ∷ t) = (m == n || m == 1) && fit s t

joins : (m n l : ℕ) → common_length m n ≡ Some l → ((m == l || m == 1) ≡ true) × ((n == l || n == 1) ≡ true)
joins m n l e = elim (cases_Bool (m == n)) [
  | inl same ↦ let is : m ≡ n = eqb-true m n same in let f : Some m ≡ Some l = rw same at e in let g : m ≡ l = cc in grind (arith, nat_tests)
  | inr differ ↦ elim (cases_Bool (m == 1)) [
    | inl one ↦ let is : m ≡ 1 = eqb-true m 1 one in let f : Some n ≡ Some l = rw (differ, one) at e in let g : n ≡ l = cc in grind (arith, nat_tests)
    | inr other ↦ elim (cases_Bool (n == 1)) [
      | inl one ↦ let is : n ≡ 1 = eqb-true n 1 one in let f : Some m ≡ Some l = rw (differ, other, one) at e in let g : m ≡ l = cc in grind (arith, nat_tests)
      | inr neither ↦ let f : None ≡ Some l = rw (differ, other, neither) at e in absurd (cc)
    ]
  ]
]

pub fit_itself : (s : List ℕ) → fit s s ≡ true
fit_itself [] = refl
fit_itself (m ∷ s) = let e : (m == m) ≡ true = grind (arith, nat_tests) in rw (e, fit_itself s) refl

through : (m n l : ℕ) → (m == n || m == 1) ≡ true → (n == l || n == 1) ≡ true → (m == l || m == 1) ≡ true
through m n l e f = elim (or_cases (m == n) (m == 1) e) [
  | inl same ↦ let is : m ≡ n = eqb-true m n same in rw is f
  | inr one ↦ let is : m ≡ 1 = eqb-true m 1 one in grind (arith, nat_tests)
]

pub fit_through : (s t u : List ℕ) → fit s t ≡ true → fit t u ≡ true → fit s u ≡ true
fit_through [] t u e f = refl
fit_through (m ∷ s) [] u e f = absurd (cc)
fit_through (m ∷ s) (n ∷ t) [] e f = absurd (cc)
fit_through (m ∷ s) (n ∷ t) (l ∷ u) e f =
    let one = both (m == n || m == 1) (fit s t) e in let two = both (n == l || n == 1) (fit t u) f in
    (λ i. through m n l one.0 two.0 i && fit_through s t u one.1 two.1 i)

-- what is pushed on
popped : (j : Option ℕ) (rest : Option (List ℕ)) (s : List ℕ) → and_axis j rest ≡ Some s → (l : ℕ) × (r : List ℕ) × (j ≡ Some l) × (rest ≡ Some r) × (s ≡ l ∷ r)
popped None rest s e = absurd (cc)
popped (Some l) None s e = absurd (cc)
popped (Some l) (Some r) s e = (l, r, refl, refl, cc)

fit_common : (s t r : List ℕ) → common_axes s t ≡ Some r → (fit s r ≡ true) × (fit t r ≡ true)
fit_common [] t r e = let f : t ≡ r = cc in (refl, ap (fit t) (sym f) ∙ fit_itself t)
fit_common (m ∷ s) [] r e = let f : m ∷ s ≡ r = cc in (ap (fit (m ∷ s)) (sym f) ∙ fit_itself (m ∷ s), refl)
fit_common (m ∷ s) (n ∷ t) r e =
    let p = popped (common_length m n) (common_axes s t) r e in
    let first = joins m n p.0 p.2 in let rest = fit_common s t p.1 p.3 in
    (ap (fit (m ∷ s)) p.4 ∙ (λ i. first.0 i && rest.0 i), ap (fit (n ∷ t)) p.4 ∙ (λ i. first.1 i && rest.1 i))

of_some : (o : Option (List ℕ)) (u : List ℕ) → option_map reverse o ≡ Some u → (r : List ℕ) × (o ≡ Some r) × (u ≡ reverse r)
of_some None u e = absurd (cc)
of_some (Some r) u e = (r, refl, cc)

-- both of two that have a common shape
pub fit_broadcast : (s t u : List ℕ) → broadcast s t ≡ Some u → (fit (reverse s) (reverse u) ≡ true) × (fit (reverse t) (reverse u) ≡ true)
fit_broadcast s t u e =
    let p = of_some (common_axes (reverse s) (reverse t)) u e in
    let f = fit_common (reverse s) (reverse t) p.0 p.1 in
    let back : reverse u ≡ p.0 = ap reverse p.2 ∙ reverse-reverse p.0 in
    (ap (fit (reverse s)) back ∙ f.0, ap (fit (reverse t)) back ∙ f.1)

-- ---- axes in their order

stretch-append : (s t : List ℕ) (m n : ℕ) → can_stretch s t ≡ true → (m == n || m == 1) ≡ true → can_stretch (s ++ m ∷ []) (t ++ n ∷ []) ≡ true
stretch-append [] [] m n e f = ap (λ b. b && true) f
stretch-append [] (y ∷ t) m n e f = absurd (cc)
stretch-append (x ∷ s) [] m n e f = absurd (cc)
stretch-append (x ∷ s) (y ∷ t) m n e f =
    let parts = both (x == y || x == 1) (can_stretch s t) e in (λ i. parts.0 i && stretch-append s t m n parts.1 f i)

in_order : (s r : List ℕ) → fit s r ≡ true → (length s ≤ length r) × (can_stretch (reverse s) (drop (length r - length s) (reverse r)) ≡ true)
in_order [] r e = (omega arith, ap (can_stretch []) (drop_all (length r - 0) (reverse r) (omega (arith, length-reverse r))))
in_order (m ∷ s) [] e = absurd (cc)
in_order (m ∷ s) (n ∷ r) e =
    let parts = both (m == n || m == 1) (fit s r) e in let rest = in_order s r parts.1 in
    let k : ℕ = length r - length s in
    let less : k ≤ length (reverse r) = omega (arith, length-reverse r) in
    let same : suc (length r) - suc (length s) ≡ k = omega arith in (
      omega (arith, rest.0),
      (λ i. can_stretch (reverse-append (m ∷ []) s i) (drop (same i) (reverse-append (n ∷ []) r i)))
          ∙ ap (can_stretch (reverse s ++ m ∷ [])) (drop-append-le k (reverse r) (n ∷ []) less)
          ∙ stretch-append (reverse s) (drop k (reverse r)) m n rest.1 parts.0,
    )

pub broadcasts_by : (s u : List ℕ) → fit (reverse s) (reverse u) ≡ true → broadcasts_to s u ≡ true
broadcasts_by s u e =
    let o = in_order (reverse s) (reverse u) e in
    let front : length (reverse s) ≡ length s = length-reverse s in
    let long : length (reverse u) ≡ length u = length-reverse u in
    let le : leb (length s) (length u) ≡ true = let f = o.0 in grind (arith, nat_tests) in
    let stretch : can_stretch s (drop (length u - length s) u) ≡ true
    = (λ i. can_stretch (sym (reverse-reverse s) i) (drop (sym long i - sym front i) (sym (reverse-reverse u) i))) ∙ o.1 in
    (λ i. le i && stretch i)
