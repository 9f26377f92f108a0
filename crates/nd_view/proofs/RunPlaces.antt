-- What the fields of a run say of its places.
use Rattle.std.proofs.Common.{◌≡◌, ℕ, ◌<◌, ◌^◌, List, length, get_or, sym, ap, ◌∙◌, arith}
use Rattle.std.specs.Prelude.{ℤ, pos, ◌+ℤ◌, ◌*ℤ◌, ◌≤ℤ◌, ◌<ℤ◌, unsigned_abs}
use Rattle.std.proofs.lemmas.Int.{ints}
use Rattle.std.proofs.lemmas.List.{length-map, get_or-map}
use Rattle.nd_model.specs.Arrays.Runs.{place_at, spot_at}
use Rattle.nd_model.specs.Arrays.Tuple.{count_up}
use Rattle.nd_view.specs.Walks.{places_of, IsRun}
use Rattle.nd_view.specs.declared.runs.Run.TheInside.{Inside}
use Rattle.nd_view.proofs.Split.{of_low}
use Rattle.nd_view.proofs.Tuples.{length-count_up, get_or-count_up}

module _ (r : Inside) (is : IsRun r) (ps : List ℕ) (e : places_of r ≡ ps) where
  pub count_of : r.count ≡ length ps
  count_of = sym (length-map (count_up 0 r.count) (spot_at r.start r.step) ∙ length-count_up 0 r.count) ∙ ap length e

  pub spot : (k : ℕ) → k < length ps → get_or ps k 0 ≡ spot_at r.start r.step k
  spot k lt =
      let few : k < r.count = omega (arith, count_of) in let in_order : k < length (count_up 0 r.count) = omega (arith, length-count_up 0 r.count) in
      sym (ap (λ l. get_or l k 0) e) ∙ get_or-map (spot_at r.start r.step) (count_up 0 r.count) k 0 0 in_order
      ∙ ap (spot_at r.start r.step) (get_or-count_up 0 r.count k 0 few ∙ omega arith)

  pub way : (k : ℕ) → k < length ps → place_at r.start r.step k ≡ pos (get_or ps k 0)
  way k lt = of_low (place_at r.start r.step k) (is.places k (omega (arith, count_of))).0 ∙ ap pos (sym (spot k lt))

  pub start_of : r.start ≡ get_or ps 0 0
  start_of = let here : spot_at r.start r.step 0 ≡ r.start = ap unsigned_abs (none r.start r.step) in sym (spot 0 (omega (arith, count_of, is.some)) ∙ here)
    where
      none : (n : ℕ) (s : ℤ) → pos n +ℤ (pos 0 *ℤ s) ≡ pos n
      none n s = omega (arith, ints)

  pub low : (k : ℕ) → k < length ps → pos 0 ≤ℤ place_at r.start r.step k
  low k lt = (is.places k (omega (arith, count_of))).0

  pub high : (k : ℕ) → k < length ps → place_at r.start r.step k <ℤ pos (2 ^ 64)
  high k lt =
      let below : spot_at r.start r.step k < 2 ^ 64 = (is.places k (omega (arith, count_of))).1 in
      rw (of_low (place_at r.start r.step k) (low k lt)) (omega (arith, ints, below))

  pub place_is : (k z : ℕ) → k < length ps → pos z ≡ place_at r.start r.step k → z ≡ get_or ps k 0
  place_is k z lt same = let both : pos z ≡ pos (get_or ps k 0) = same ∙ way k lt in omega (arith, ints, both)
