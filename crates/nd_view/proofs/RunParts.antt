-- A part of a run is a run.
use Rattle.std.proofs.Common.{◌≡◌, ℕ, zero, suc, ◌+◌, ◌<◌, ◌≤◌, ◌^◌, List, [], ◌∷◌, length, take, drop, get_or, refl, sym, ap, ◌∙◌, subst, arith, length-take, length-drop}
use Rattle.std.specs.Prelude.{ℤ, pos, ◌+ℤ◌, ◌*ℤ◌, ◌≤ℤ◌, unsigned_abs}
use Rattle.std.proofs.lemmas.Int.{ints}
use Rattle.std.proofs.lemmas.List.{length-map, get_or-map, get_or-take, get_or-drop, same_lists}
use Rattle.nd_model.specs.Arrays.Runs.{place_at, spot_at, run_places}
use Rattle.nd_model.specs.Arrays.Tuple.{count_up}
use Rattle.nd_view.specs.Walks.{places_of, IsRun}
use Rattle.nd_view.specs.declared.runs.Run.TheInside.{Inside}
use Rattle.nd_view.proofs.RunPlaces.{count_of, way, spot}
use Rattle.nd_view.proofs.Tuples.{length-count_up, get_or-count_up}

at_default : (xs : List ℕ) (k d e : ℕ) → k < length xs → get_or xs k d ≡ get_or xs k e
at_default [] k d e lt = absurd (omega arith)
at_default (x ∷ xs) zero d e lt = refl
at_default (x ∷ xs) (suc k) d e lt = at_default xs k d e (omega arith)

-- places that are those of a part, one by one
pub part_is : (ps : List ℕ) (from : ℕ) (step : ℤ) (at n : ℕ) → at + n ≤ length ps → ((k : ℕ) → k < n → place_at from step k ≡ pos (get_or ps (at + k) 0)) → run_places from step n ≡ take n (drop at ps)
part_is ps from step at n inside each =
    let here : length (run_places from step n) ≡ n = length-map (count_up 0 n) (spot_at from step) ∙ length-count_up 0 n in
    let there : length (take n (drop at ps)) ≡ n = omega (arith, length-take n (drop at ps), length-drop at ps) in
    same_lists (run_places from step n) (take n (drop at ps)) (here ∙ sym there) (λ k d lt.
    let few : k < n = omega (arith, here) in
    let in_order : k < length (count_up 0 n) = omega (arith, length-count_up 0 n) in
    get_or-map (spot_at from step) (count_up 0 n) k 0 d in_order
    ∙ ap (spot_at from step) (get_or-count_up 0 n k 0 few ∙ omega arith) ∙ ap unsigned_abs (each k few)
    ∙ at_default ps (at + k) 0 d (omega arith) ∙ sym (get_or-take n (drop at ps) k d few ∙ get_or-drop at ps k d))

-- the part of one element
pub one_is : (ps : List ℕ) (from at n k : ℕ) → from ≡ get_or ps at 0 → n ≡ 1 → k < n → place_at from (pos 0) k ≡ pos (get_or ps (at + k) 0)
one_is ps from at n k is one lt =
    let first : at ≡ at + k = omega arith in
    none from k ∙ ap pos (is ∙ ap (λ j. get_or ps j 0) first)
  where
    none : (x y : ℕ) → pos x +ℤ (pos y *ℤ pos 0) ≡ pos x
    none x y = omega (arith, ints)

module _ (r : Inside) (is : IsRun r) (ps : List ℕ) (e : places_of r ≡ ps) (from at n : ℕ) (inside : at + n ≤ length ps) (begin : from ≡ get_or ps at 0) where
  further : (x y : ℤ) (k : ℕ) → x ≡ y +ℤ (pos at *ℤ r.step) → x +ℤ (pos k *ℤ r.step) ≡ y +ℤ (pos (at + k) *ℤ r.step)
  further x y k is = omega (arith, ints, is)

  pub each_is : (k : ℕ) → k < n → place_at from r.step k ≡ pos (get_or ps (at + k) 0)
  each_is k lt =
      let here : pos from ≡ place_at r.start r.step at = ap pos begin ∙ sym (way r is ps e at (omega arith)) in
      further (pos from) (pos r.start) k here ∙ way r is ps e (at + k) (omega arith)

  pub each_low : (k : ℕ) (step : ℤ) → k < n → place_at from step k ≡ pos (get_or ps (at + k) 0) → (pos 0 ≤ℤ place_at from step k) × (spot_at from step k < 2 ^ 64)
  each_low k step lt same =
      let below : spot_at r.start r.step (at + k) < 2 ^ 64 = (is.places (at + k) (omega (arith, count_of r is ps e))).1 in
      let end : get_or ps (at + k) 0 < 2 ^ 64 = omega (arith, spot r is ps e (at + k) (omega arith), below) in
      (subst (λ z. pos 0 ≤ℤ z) (sym same) (low (get_or ps (at + k) 0)), subst (λ z. unsigned_abs z < 2 ^ 64) (sym same) end)
    where
      low : (m : ℕ) → pos 0 ≤ℤ pos m
      low m = omega (arith, ints)
