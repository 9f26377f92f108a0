-- Runs of places, piece by piece.
use Rattle.std.proofs.Common.{◌≡◌, ℕ, ℤ, pos, zero, suc, ◌+◌, ◌<◌, ◌≤◌, ◌≤ℤ◌, List, [], ◌∷◌, ◌++◌, ◌-◌, ◌*◌, ◌+ℤ◌, neg_ℤ, negsuc, length, take, drop, replicate, get_or, append_assoc, refl, sym, ap, ◌∙◌, subst, arith, length-append, length-take, length-drop}
use Rattle.std.specs.List.{All, flat_map}
use Rattle.std.specs.Prelude.{unsigned_abs}
use Rattle.std.proofs.lemmas.List.{length-map, get_or-map, same_lists, drop-drop, drop-replicate, take-replicate}
use Rattle.std.proofs.lemmas.Slice.{take-put_mid}
use Rattle.std.proofs.lemmas.Grind.{flat_map-append}
use Rattle.std.proofs.Math.Nat.{mul-le-mul_right}
use Rattle.std.proofs.lemmas.Int.{ints}
use Rattle.nd_model.specs.Arrays.Runs.{place_at, spot_at, run_places, AreWithin}
use borrow.Rule.Slice.PartMut.{put_mid}
use Rattle.nd_model.specs.Arrays.Tuple.{count_up}
use Rattle.nd_view.proofs.Tuples.{length-count_up, get_or-count_up}

low : (n : ℕ) → pos 0 ≤ℤ pos n
low n = omega (arith, ints)

at_default : (xs : List ℕ) (k d e : ℕ) → k < length xs → get_or xs k d ≡ get_or xs k e
at_default [] k d e lt = absurd (omega arith)
at_default (x ∷ xs) zero d e lt = refl
at_default (x ∷ xs) (suc k) d e lt = at_default xs k d e (omega arith)

-- a step forwards leads up to the last place, and a step backwards down from the first one
before : (x m p : ℕ) → pos x +ℤ neg_ℤ (pos m) ≡ pos p → p ≤ x
before x m p e = omega (arith, ints, e)

between : (first : ℕ) (step : ℤ) (k j p q most : ℕ) → k ≤ j → place_at first step k ≡ pos p → place_at first step j ≡ pos q → first ≤ most → q ≤ most → p ≤ most
between first (pos s) k j p q most le here last low high =
    let at : first + k * s ≡ p = omega (arith, ints, here) in let end : first + j * s ≡ q = omega (arith, ints, last) in
    omega (arith, mul-le-mul_right s le)
between first (negsuc s) k j p q most le here last low high = omega (arith, before first (k * suc s) p here)

module _ (ps : List ℕ) (start : ℕ) (step : ℤ) (places : (k : ℕ) → k < length ps → place_at start step k ≡ pos (get_or ps k 0)) where
  spot : (k : ℕ) → k < length ps → spot_at start step k ≡ get_or ps k 0
  spot k lt = ap unsigned_abs (places k lt)

  -- a start and a step give the places of a run
  pub run_is : run_places start step (length ps) ≡ ps
  run_is =
      let long : length (run_places start step (length ps)) ≡ length ps = length-map (count_up 0 (length ps)) (spot_at start step) ∙ length-count_up 0 (length ps) in
      same_lists (run_places start step (length ps)) ps long (λ k d lt.
      let few : k < length ps = omega arith in
      let in_order : k < length (count_up 0 (length ps)) = omega (arith, length-count_up 0 (length ps)) in
      get_or-map (spot_at start step) (count_up 0 (length ps)) k 0 d in_order
      ∙ ap (spot_at start step) (get_or-count_up 0 (length ps) k 0 few ∙ omega arith) ∙ spot k few ∙ at_default ps k 0 d few)

  -- the elements of the run lie within len bytes where its places do
  pub within : (size len : ℕ) → All (λ p. p + size ≤ len) ps → AreWithin start step size (length ps) len
  within size len all k lt =
      let end : get_or ps k 0 + size ≤ len = all k 0 lt in
      (subst (λ z. pos 0 ≤ℤ z) (sym (places k lt)) (low (get_or ps k 0)), subst (λ n. n + size ≤ len) (sym (spot k lt)) end)

-- all places of a run are below what the first and the last one are
pub all_between : (ps : List ℕ) (step : ℤ) (size len most : ℕ) → ((k : ℕ) → k < length ps → place_at (get_or ps 0 0) step k ≡ pos (get_or ps k 0)) → most + size ≤ len
    → get_or ps 0 0 ≤ most → get_or ps (length ps - 1) 0 ≤ most → All (λ p. p + size ≤ len) ps
all_between ps step size len most places room low high k d lt =
    let here : get_or ps k 0 ≤ most
    = between (get_or ps 0 0) step k (length ps - 1) (get_or ps k 0) (get_or ps (length ps - 1) 0) most (omega arith) (places k lt) (places (length ps - 1) (omega arith)) low high in
    omega (arith, at_default ps k d 0 lt)

-- a run more is written, where what was written and what the places that are left give is all
pub run_more : (F : ℕ → List ℕ) (out part : List ℕ) (at k next : ℕ) (run rest runs : List ℕ) (all : List ℕ) → next ≡ at + length part → at ≤ length out → part ≡ flat_map F run
    → runs ≡ run ++ rest → take at out ++ flat_map F runs ≡ all → take next (put_mid at k out part) ++ flat_map F rest ≡ all
run_more F out part at k next run rest runs all end inside is split done =
    ap (λ l. l ++ flat_map F rest) (take-put_mid at k out part next end inside) ∙ append_assoc (take at out) part (flat_map F rest)
    ∙ ap (λ l. take at out ++ l) (ap (λ l. l ++ flat_map F rest) is ∙ sym (flat_map-append F run rest) ∙ ap (flat_map F) (sym split)) ∙ done

-- what is not changed from a place on is not further on
pub same_further : (first out : List ℕ) (at m next : ℕ) → next ≡ at + m → drop at out ≡ drop at first → drop next out ≡ drop next first
same_further first out at m next end same =
    ap (λ n. drop n out) end ∙ sym (drop-drop m at out) ∙ ap (drop m) same ∙ drop-drop m at first ∙ ap (λ n. drop n first) (sym end)

-- of zeros, those that are not written yet
pub zeros_left : (first out : List ℕ) (at m n all : ℕ) → first ≡ replicate all 0 → drop at out ≡ drop at first → n ≡ m → at + m ≤ all → take n (drop at out) ≡ replicate m 0
zeros_left first out at m n all zeros same is room =
    ap (take n) (same ∙ ap (drop at) zeros ∙ drop-replicate at all 0) ∙ ap (λ j. take j (replicate (all - at) 0)) is ∙ take-replicate m (all - at) 0 (omega arith)

-- a part that is written has as many bytes as before
pub length-put_mid : {X : Type 0} (a k : ℕ) (xs ys : List X) → a + k ≤ length xs → length ys ≡ k → length (put_mid a k xs ys) ≡ length xs
length-put_mid a k xs ys le long =
    omega (arith, length-append (take a xs) (ys ++ drop k (drop a xs)), length-append ys (drop k (drop a xs)), length-take a xs, length-drop k (drop a xs), length-drop a xs)
