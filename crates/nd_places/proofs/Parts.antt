-- Parts of rows of places.
use Rattle.std.proofs.Common.{◌≡◌, ℕ, ◌+◌, ◌<◌, ◌≤◌, List, ◌++◌, map, length, take, drop, get_or, sym, ap, ◌∙◌, arith}
use Rattle.std.specs.Prelude.{ℤ, pos, ◌+ℤ◌}
use Rattle.std.proofs.Math.Seq.{drop-append_seam}
use Rattle.std.proofs.lemmas.List.{take-append-drop, take-append-le, drop-drop, drop-append-le, drop-map, take-map, length-map, length-drop}
use Rattle.nd_places.specs.Near.{place_on, rows_places}
use Rattle.nd_places.proofs.Fronts.{drop_one}

abbrev pub row_at : List ℤ → ℕ → List ℤ → List ℕ
row_at starts k ways = map (λ z. place_on (get_or starts k (pos 0) +ℤ z)) ways

-- the first row of those that are left
first_row : (starts ways : List ℤ) (k : ℕ) → k < length starts → rows_places (drop k starts) ways ≡ row_at starts k ways ++ rows_places (drop (k + 1) starts) ways
first_row starts ways k lt = ap (λ ss. rows_places ss ways) (drop_one starts k (pos 0) lt)

-- the next elements of it
pub row_next : (starts ways : List ℤ) (k within n : ℕ) → k < length starts → within + n ≤ length ways
    → drop within (rows_places (drop k starts) ways) ≡ row_at starts k (take n (drop within ways)) ++ drop (within + n) (rows_places (drop k starts) ways)
row_next starts ways k within n lt le =
    let place : ℤ → ℕ = λ z. place_on (get_or starts k (pos 0) +ℤ z) in
    let row : List ℕ = map place ways in let rest : List ℕ = rows_places (drop (k + 1) starts) ways in
    let long : length row ≡ length ways = length-map ways place in
    let all : List ℕ = rows_places (drop k starts) ways in
    let inside : within ≤ length row = omega (arith, le, long) in
    let left : n ≤ length (drop within row) = omega (arith, le, long, length-drop within row) in
    let part : take n (drop within all) ≡ row_at starts k (take n (drop within ways)) =
    ap (λ l. take n (drop within l)) (first_row starts ways k lt) ∙ ap (take n) (drop-append-le within row rest inside)
    ∙ take-append-le n (drop within row) rest left ∙ ap (take n) (drop-map place within ways) ∙ take-map place n (drop within ways) in
    sym (take-append-drop n (drop within all)) ∙ (λ i. part i ++ drop-drop n within all i)

-- behind a whole row comes the next one
pub row_end : (starts ways : List ℤ) (k : ℕ) → k < length starts → drop (length ways) (rows_places (drop k starts) ways) ≡ rows_places (drop (k + 1) starts) ways
row_end starts ways k lt =
    let place : ℤ → ℕ = λ z. place_on (get_or starts k (pos 0) +ℤ z) in
    let row : List ℕ = map place ways in let rest : List ℕ = rows_places (drop (k + 1) starts) ways in
    ap (drop (length ways)) (first_row starts ways k lt) ∙ ap (λ n. drop n (row ++ rest)) (sym (length-map ways place)) ∙ drop-append_seam row rest
