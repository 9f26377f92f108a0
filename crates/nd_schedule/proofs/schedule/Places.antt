-- Places in order, each once.
use Rattle.std.proofs.Common.{◌≡◌, ℕ, zero, suc, ◌+◌, ◌<◌, ◌≤◌, ◌⊎◌, List, [], ◌∷◌, ◌++◌, refl, sym, subst, inl, inr, arith}
use Rattle.std.specs.Prelude.{Contains}
use Rattle.std.proofs.lemmas.Bool.{cases_eq}
use Rattle.std.proofs.lemmas.List.Elements.{Contains-append_cases, Contains-append_right}
use Rattle.nd_schedule.specs.Schedule.Ran.{AreBetween}

pub between_wide : (low high more : ℕ) (ps : List ℕ) → high ≤ more → AreBetween low high ps → AreBetween low more ps
between_wide low high more [] le h = tt
between_wide low high more (p ∷ ps) le h = (h.0, omega (arith, h.1), between_wide (p + 1) high more ps le h.2)

pub between_from : (less low high : ℕ) (ps : List ℕ) → less ≤ low → AreBetween low high ps → AreBetween less high ps
between_from less low high [] le h = tt
between_from less low high (p ∷ ps) le h = (omega (arith, h.0), h.1, h.2)

pub between_append : (low mid high : ℕ) (ps qs : List ℕ) → low ≤ mid → mid ≤ high → AreBetween low mid ps → AreBetween mid high qs → AreBetween low high (ps ++ qs)
between_append low mid high [] qs le le' h k = between_from low mid high qs le k
between_append low mid high (p ∷ ps) qs le le' h k = (h.0, omega (arith, h.1), between_append (p + 1) mid high ps qs (omega (arith, h.1)) le' h.2 k)

pub is_one : {X : Type 0} (x y : X) → Contains (x ∷ []) y → y ≡ x
is_one x y (zero, lt, is) = sym is
is_one x y (suc k, lt, is) = absurd (omega (arith, lt))

pub first_of : {X : Type 0} (x : X) (xs : List X) → Contains (x ∷ xs) x
first_of x xs = (0, omega arith, refl)

pub first_or : {X : Type 0} (x : X) (xs : List X) (y : X) → Contains (x ∷ xs) y → (y ≡ x) ⊎ Contains xs y
first_or x xs y h = either (Contains-append_cases (x ∷ []) xs y h)
  where
    either : Contains (x ∷ []) y ⊎ Contains xs y → (y ≡ x) ⊎ Contains xs y
    either (inl here) = inl (is_one x y here)
    either (inr there) = inr there

pub within : (low high : ℕ) (ps : List ℕ) (p : ℕ) → AreBetween low high ps → Contains ps p → (low ≤ p) × (p < high)
within low high [] p h c = absurd (omega (arith, c.1))
within low high (q ∷ ps) p h c = elim (first_or q ps p c) [
  | inl is ↦ (omega (arith, h.0, is), omega (arith, h.1, is))
  | inr there ↦ let rest : (q + 1 ≤ p) × (p < high) = within (q + 1) high ps p h.2 there in (omega (arith, h.0, rest.0), rest.1)
]

pub is_in : (ps : List ℕ) (p : ℕ) → Contains ps p ⊎ (¬ Contains ps p)
is_in [] p = inr (λ c. absurd (omega (arith, c.1)))
is_in (q ∷ ps) p = elim (cases_eq p q) [
  | inl is ↦ inl (subst (Contains (q ∷ ps)) (sym is) (first_of q ps))
  | inr other ↦ elim (is_in ps p) [
    | inl there ↦ inl (Contains-append_right (q ∷ []) ps p there)
    | inr out ↦ inr (λ c. elim (first_or q ps p c) [
      | inl is ↦ absurd (other is)
      | inr there ↦ absurd (out there)
    ])
  ]
]
