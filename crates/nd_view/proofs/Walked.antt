-- The strides of an array without gaps, axis by axis.
use Rattle.std.proofs.Common.{◌≡◌, ℕ, zero, suc, ◌+◌, ◌*◌, ◌/◌, ◌<◌, ◌==◌, true, false, List, [], ◌∷◌, ◌++◌, length, replicate, get_or, drop, refl, ap, ◌∙◌, arith, add-one, drop-cons, inl, inr, append_assoc}
use Rattle.std.specs.Prelude.{ℤ, pos, nat_le, if◌then◌else◌}
use Rattle.std.proofs.lemmas.Bool.{cases_lt}
use Rattle.std.proofs.lemmas.Bool.Decides.{nat_tests}
use Rattle.std.proofs.Math.Nat.{mul-div_cancel_left, zero-div}
use Rattle.nd_model.specs.Arrays.Tuple.{elements_of}
use Rattle.nd_view.specs.Strides.{steps_of, strides_of}
use Rattle.nd_view.proofs.Counts.{rest_some}

-- the stride of an axis of length n, where all elements from it on have `step` bytes
abbrev pub stride_of : ℕ → ℕ → ℤ
stride_of step n = if nat_le n 1 then pos 0 else pos (step / n)

abbrev pub walked : ℕ → List ℕ → List ℤ
walked step [] = []
walked step (n ∷ shape) = stride_of step n ∷ walked (step / n) shape

walked-steps : (size : ℕ) (shape : List ℕ) → 0 < elements_of shape → walked (elements_of shape * size) shape ≡ steps_of size shape
walked-steps size [] some = refl
walked-steps size (zero ∷ shape) some = absurd (omega arith)
walked-steps size (suc n ∷ shape) some =
    let group : (suc n * elements_of shape) * size ≡ suc n * (elements_of shape * size) = omega arith in
    let rest : ((suc n * elements_of shape) * size) / suc n ≡ elements_of shape * size = ap (λ k. k / suc n) group ∙ mul-div_cancel_left (elements_of shape * size) {n = suc n} (omega arith) in
    rw rest (ap (λ zs. (if nat_le (suc n) 1 then pos 0 else pos (elements_of shape * size)) ∷ zs) (walked-steps size shape (rest_some (suc n) (elements_of shape) some)))

if_same : (n : ℕ) (zs ys : List ℤ) → zs ≡ ys → (if nat_le n 1 then pos 0 else pos 0) ∷ zs ≡ pos 0 ∷ ys
if_same n zs ys e = elim (nat_le n 1) as (λ b. (if b then pos 0 else pos 0) ∷ zs ≡ pos 0 ∷ ys) [ true ↦ ap (λ l. pos 0 ∷ l) e | false ↦ ap (λ l. pos 0 ∷ l) e ]

walked-zero : (shape : List ℕ) → walked 0 shape ≡ replicate (length shape) (pos 0)
walked-zero [] = refl
walked-zero (n ∷ shape) = let none : 0 / n ≡ 0 = zero-div n in rw none (if_same n (walked 0 shape) (replicate (length shape) (pos 0)) (walked-zero shape))

pub walked-strides : (size : ℕ) (shape : List ℕ) → walked (elements_of shape * size) shape ≡ strides_of size shape
walked-strides size shape =
    elim (cases_lt 0 (elements_of shape)) [
      | inl some ↦ let test : (elements_of shape == 0) ≡ false = grind (arith, nat_tests) in rw test (walked-steps size shape some)
      | inr none ↦ let zero_of : elements_of shape ≡ 0 = omega arith in
          let start : elements_of shape * size ≡ 0 = rw zero_of (omega arith) in
          let test : (elements_of shape == 0) ≡ true = grind (arith, nat_tests) in rw (start, test) (walked-zero shape)
    ]

-- one axis more
pub walked_more : (done : List ℤ) (step : ℕ) (shape : List ℕ) (i : ℕ) → i < length shape
    → (done ++ stride_of step (get_or shape i 0) ∷ []) ++ walked (step / get_or shape i 0) (drop (i + 1) shape) ≡ done ++ walked step (drop i shape)
walked_more done step shape i lt =
    append_assoc done (stride_of step (get_or shape i 0) ∷ []) (walked (step / get_or shape i 0) (drop (i + 1) shape)) ∙ rw (add-one, drop-cons shape i 0) refl
