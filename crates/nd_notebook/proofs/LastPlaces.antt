-- The last place in front of another: found by going back, and there is but one.
use Rattle.std.proofs.Common.{◌≡◌, ℕ, ◌-◌, ◌<◌, ◌≤◌, Option, Some, None, arith, refl, ap, subst, inl, inr}
use Rattle.std.proofs.lemmas.Bool.{cases_eq, cases_order}
use Rattle.nd_notebook.specs.Readers.{IsLast}

-- P holds at no place from one on and in front of another
abbrev pub HoldsNowhere : (ℕ → Type 0) → (from at : ℕ) → Type 0
HoldsNowhere P from at = (k : ℕ) → from ≤ k → k < at → ¬ P k

pub nowhere_at_end : (P : ℕ → Type 0) (at : ℕ) → HoldsNowhere P at at
nowhere_at_end P at k le lt = absurd (omega arith)

pub nowhere_more : (P : ℕ → Type 0) (i at : ℕ) → 0 < i → ¬ P (i - 1) → HoldsNowhere P i at → HoldsNowhere P (i - 1) at
nowhere_more P i at gt lacks none k le lt = elim (cases_eq k (i - 1)) [
  | inl is ↦ λ p. lacks (subst P is p)
  | inr other ↦ none k (omega arith) lt
]

pub last_found : (P : ℕ → Type 0) (i at : ℕ) → 0 < i → i ≤ at → P (i - 1) → HoldsNowhere P i at → IsLast P at (Some (i - 1))
last_found P i at gt le here none = (omega arith, here, λ m above lt. none m (omega arith) lt)

pub found_nowhere : (P : ℕ → Type 0) (i at : ℕ) → i ≤ 0 → HoldsNowhere P i at → IsLast P at None
found_nowhere P i at le none = λ k lt. none k (omega arith) lt

pub last_is_one : (P : ℕ → Type 0) (at : ℕ) (x y : Option ℕ) → IsLast P at x → IsLast P at y → x ≡ y
last_is_one P at None None p q = refl
last_is_one P at None (Some k) p q = absurd (p k q.0 q.1)
last_is_one P at (Some j) None p q = absurd (q j p.0 p.1)
last_is_one P at (Some j) (Some k) p q = elim (cases_order j k) [
  | inl same ↦ ap Some same
  | inr apart ↦ elim apart [ inl below ↦ absurd (p.2 k below q.0 q.1) | inr above ↦ absurd (q.2 j above p.0 p.1) ]
]
