-- Ways one more, and what is made of them.
use Rattle.std.proofs.Common.{◌≡◌, ℕ, zero, suc, ◌+◌, ◌^◌, ◌<◌, ◌≤◌, List, [], ◌∷◌, ◌++◌, map, length, take, drop, get_or, refl, sym, ap, ◌∙◌, arith, append_assoc}
use Rattle.std.specs.Prelude.{ℤ, pos, ◌+ℤ◌, unsigned_abs}
use Rattle.std.specs.List.{flat_map}
use Rattle.nd_index.specs.Offsets.Ways.{AreNear, sums_at, sums_of}
use Rattle.nd_places.specs.Near.{place_on}
use Rattle.nd_places.proofs.Fronts.{drop_one}
use Rattle.nd_index.proofs.offsets.Pushed.{mapped_again, joined_again}

-- one place more
pub place_again : (ways : List ℤ) (k : ℕ) (s x : ℤ) (first old new : List ℕ) (y : ℕ) → k < length ways → new ≡ old ++ y ∷ [] → y ≡ place_on x → x ≡ s +ℤ get_or ways k (pos 0)
    → old ≡ first ++ map (λ z. place_on (s +ℤ z)) (take k ways) → new ≡ first ++ map (λ z. place_on (s +ℤ z)) (take (k + 1) ways)
place_again ways k s x first old new y lt is here at so_far =
    mapped_again (λ z. place_on (s +ℤ z)) ways k (pos 0) first old new y lt is (here ∙ ap place_on at) so_far

-- the places for one way of the arrays more
pub row_again : (ways arrays : List ℤ) (k : ℕ) (s x : ℤ) (first old new : List ℕ) → k < length arrays → new ≡ old ++ map (λ z. place_on (x +ℤ z)) ways → x ≡ s +ℤ get_or arrays k (pos 0)
    → old ≡ first ++ flat_map (λ a. map (λ z. place_on ((s +ℤ a) +ℤ z)) ways) (take k arrays) → new ≡ first ++ flat_map (λ a. map (λ z. place_on ((s +ℤ a) +ℤ z)) ways) (take (k + 1) arrays)
row_again ways arrays k s x first old new lt is at so_far =
    joined_again (λ a. map (λ z. place_on ((s +ℤ a) +ℤ z)) ways) arrays k (pos 0) first old new (map (λ z. place_on (x +ℤ z)) ways) lt is (ap (λ w. map (λ z. place_on (w +ℤ z)) ways) at) so_far

-- those for one way of the axes before the arrays more
pub block_again : (ways arrays before : List ℤ) (k : ℕ) (s x : ℤ) (old new : List ℕ) → k < length before → new ≡ old ++ flat_map (λ a. map (λ z. place_on ((x +ℤ a) +ℤ z)) ways) arrays
    → x ≡ s +ℤ get_or before k (pos 0) → old ≡ flat_map (λ b. flat_map (λ a. map (λ z. place_on (((s +ℤ b) +ℤ a) +ℤ z)) ways) arrays) (take k before)
    → new ≡ flat_map (λ b. flat_map (λ a. map (λ z. place_on (((s +ℤ b) +ℤ a) +ℤ z)) ways) arrays) (take (k + 1) before)
block_again ways arrays before k s x old new lt is at so_far =
    joined_again (λ b. flat_map (λ a. map (λ z. place_on (((s +ℤ b) +ℤ a) +ℤ z)) ways) arrays) before k (pos 0) [] old new
    (flat_map (λ a. map (λ z. place_on ((x +ℤ a) +ℤ z)) ways) arrays) lt is (ap (λ w. flat_map (λ a. map (λ z. place_on ((w +ℤ a) +ℤ z)) ways) arrays) at) so_far

added_next : (own ways numbers : List ℤ) (k : ℕ) → k < length ways → k < length numbers
    → sums_at own (drop k ways) (drop k numbers) ≡ (get_or ways k (pos 0) +ℤ get_or own (unsigned_abs (get_or numbers k (pos 0))) (pos 0)) ∷ sums_at own (drop (k + 1) ways) (drop (k + 1) numbers)
added_next own ways numbers k lt lt' = λ i. sums_at own (drop_one ways k (pos 0) lt i) (drop_one numbers k (pos 0) lt' i)

-- a way and what is added to it
pub added_again : (own ways numbers : List ℤ) (k : ℕ) (old new all : List ℤ) (y : ℤ) → k < length ways → k < length numbers → new ≡ old ++ y ∷ []
    → y ≡ get_or ways k (pos 0) +ℤ get_or own (unsigned_abs (get_or numbers k (pos 0))) (pos 0)
    → old ++ sums_at own (drop k ways) (drop k numbers) ≡ all → new ++ sums_at own (drop (k + 1) ways) (drop (k + 1) numbers) ≡ all
added_again own ways numbers k old new all y lt lt' is here so_far =
    let rest : List ℤ = sums_at own (drop (k + 1) ways) (drop (k + 1) numbers) in
    ap (λ l. l ++ rest) is ∙ append_assoc old (y ∷ []) rest ∙ ap (λ w. old ++ w ∷ rest) here
    ∙ ap (λ l. old ++ l) (sym (added_next own ways numbers k lt lt')) ∙ so_far

pub near_at : (ways : List ℤ) (k : ℕ) → AreNear ways → unsigned_abs (get_or ways k (pos 0)) ≤ 2 ^ 112
near_at [] zero near = omega arith
near_at [] (suc k) near = omega arith
near_at (w ∷ ways) zero near = near 0 (pos 0) (omega arith)
near_at (w ∷ ways) (suc k) near = near_at ways k (λ j d lt. near (suc j) d (omega arith))

-- two ways more
pub summed_again : (ways own : List ℤ) (k : ℕ) (old new all : List ℤ) (y : ℤ) → k < length ways → k < length own → new ≡ old ++ y ∷ [] → y ≡ get_or ways k (pos 0) +ℤ get_or own k (pos 0)
    → old ++ sums_of (drop k ways) (drop k own) ≡ all → new ++ sums_of (drop (k + 1) ways) (drop (k + 1) own) ≡ all
summed_again ways own k old new all y lt lt' is here so_far =
    let rest : List ℤ = sums_of (drop (k + 1) ways) (drop (k + 1) own) in
    ap (λ l. l ++ rest) is ∙ append_assoc old (y ∷ []) rest ∙ ap (λ w. old ++ w ∷ rest) here
    ∙ ap (λ l. old ++ l) (sym (λ i. sums_of (drop_one ways k (pos 0) lt i) (drop_one own k (pos 0) lt' i))) ∙ so_far

pub alone : (f : ℤ → ℕ) (ways : List ℤ) → length ways ≡ 1 → map f ways ≡ f (get_or ways 0 (pos 0)) ∷ []
alone f [] one = absurd (omega (arith, one))
alone f (w ∷ []) one = refl
alone f (w ∷ v ∷ ways) one = absurd (omega (arith, one))

-- the place of a row of one element
pub single : (ways : List ℤ) (s x : ℤ) (old new : List ℕ) (y : ℕ) → length ways ≡ 1 → new ≡ old ++ y ∷ [] → y ≡ place_on x → x ≡ s +ℤ get_or ways 0 (pos 0)
    → new ≡ old ++ map (λ z. place_on (s +ℤ z)) ways
single ways s x old new y one is here at =
    is ∙ ap (λ k. old ++ k ∷ []) (here ∙ ap place_on at) ∙ ap (λ l. old ++ l) (sym (alone (λ z. place_on (s +ℤ z)) ways one))
