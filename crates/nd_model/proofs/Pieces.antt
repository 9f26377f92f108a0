-- Lists in pieces of one length.
use Rattle.std.proofs.Common.{◌≡◌, ℕ, zero, suc, ◌-◌, ◌*◌, ◌/◌, ◌<◌, ◌≤◌, List, [], ◌∷◌, ◌++◌, length, take, drop, refl, ap, ◌∙◌, arith, length-drop}
use Rattle.std.specs.List.{concat}
use Rattle.std.proofs.Math.Nat.{zero-div, div-eq-sub-div, mul-div_cancel}
use Rattle.std.proofs.lemmas.List.{take-append-drop}
use Rattle.nd_model.specs.Arrays.Runs.{pieces, in_pieces}

-- the empty list has none
pub no_pieces : (n : ℕ) → in_pieces n [] ≡ []
no_pieces n = ap (λ k. pieces n k []) (zero-div n)

-- a list that is long enough begins with one
pub first_piece : (n : ℕ) (ps : List ℕ) → 0 < n → n ≤ length ps → in_pieces n ps ≡ take n ps ∷ in_pieces n (drop n ps)
first_piece n ps some le =
    let rest : length (drop n ps) / n ≡ (length ps - n) / n = ap (λ k. k / n) (length-drop n ps) in
    let count : length ps / n ≡ suc (length (drop n ps) / n) = omega (arith, div-eq-sub-div {m = n} {n = length ps} some le, rest) in
    ap (λ k. pieces n k ps) count

-- so many pieces are the list
joined_all : (n count : ℕ) (ps : List ℕ) → length ps ≡ count * n → concat (pieces n count ps) ≡ ps
joined_all n zero [] e = refl
joined_all n zero (p ∷ ps) e = absurd (omega arith)
joined_all n (suc count) ps e =
    let rest : length (drop n ps) ≡ count * n = simp length-drop (omega arith) in
    ap (λ l. take n ps ++ l) (joined_all n count (drop n ps) rest) ∙ take-append-drop n ps

-- a list that n divides is its pieces, joined
pub joined : (n count : ℕ) (ps : List ℕ) → length ps ≡ count * n → concat (in_pieces n ps) ≡ ps
joined zero count [] e = ap concat (no_pieces 0)
joined zero count (p ∷ ps) e = absurd (omega arith)
joined (suc m) count ps e =
    let all : length ps / suc m ≡ count = ap (λ k. k / suc m) e ∙ mul-div_cancel count {n = suc m} (omega arith) in
    ap (λ k. concat (pieces (suc m) k ps)) all ∙ joined_all (suc m) count ps e
