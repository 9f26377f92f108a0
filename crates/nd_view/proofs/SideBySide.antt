-- Contiguous elements, by the byte offset of each.
use Rattle.std.proofs.Common.{◌≡◌, ℕ, ℤ, pos, zero, suc, ◌+◌, ◌*◌, ◌<◌, List, length, get_or, sym, ap, ◌∙◌, arith}
use Rattle.std.proofs.lemmas.Grind.{same_number_lists}
use Rattle.std.proofs.lemmas.Int.{ints}
use Rattle.std.proofs.lemmas.List.{length-map, get_or-map}
use Rattle.nd_model.specs.Arrays.Runs.{place_at}
use Rattle.nd_model.specs.Arrays.Tuple.{count_up}
use Rattle.nd_view.specs.SideBySide.{side_by_side}
use Rattle.nd_view.proofs.Tuples.{length-count_up, get_or-count_up}

-- the byte offset of one of them
pub side_at : (size first n k : ℕ) → k < n → get_or (side_by_side size first n) k 0 ≡ first + k * size
side_at size first n k lt =
    let in_order : k < length (count_up 0 n) = omega (arith, length-count_up 0 n) in
    get_or-map (λ j. first + j * size) (count_up 0 n) k 0 0 in_order ∙ ap (λ j. first + j * size) (get_or-count_up 0 n k 0 lt ∙ omega arith)

-- the byte offset of each says that all are contiguous, and the other way round
pub side_of_each : (ps : List ℕ) (size : ℕ) → ((k : ℕ) → k < length ps → get_or ps k 0 ≡ get_or ps 0 0 + k * size) → ps ≡ side_by_side size (get_or ps 0 0) (length ps)
side_of_each ps size each =
    let n = length ps in
    let long : length (side_by_side size (get_or ps 0 0) n) ≡ n = length-map (count_up 0 n) (λ k. get_or ps 0 0 + k * size) ∙ length-count_up 0 n in
    same_number_lists ps (side_by_side size (get_or ps 0 0) n) (sym long) (λ k lt. each k lt ∙ sym (side_at size (get_or ps 0 0) n k lt))

pub each_of_side : (ps : List ℕ) (size : ℕ) → ps ≡ side_by_side size (get_or ps 0 0) (length ps) → (k : ℕ) → k < length ps → get_or ps k 0 ≡ get_or ps 0 0 + k * size
each_of_side ps size are k lt = ap (λ l. get_or l k 0) are ∙ side_at size (get_or ps 0 0) (length ps) k lt

-- the step between them is their size
pub steps_of_side : (ps : List ℕ) (size : ℕ) → ps ≡ side_by_side size (get_or ps 0 0) (length ps) → (k : ℕ) → k < length ps → place_at (get_or ps 0 0) (pos size) k ≡ pos (get_or ps k 0)
steps_of_side ps size are k lt = let at : get_or ps k 0 ≡ get_or ps 0 0 + k * size = each_of_side ps size are k lt in omega (arith, ints, at)

-- a run with the step of its elements' size
pub by_step : (ps : List ℕ) (step : ℤ) (size : ℕ) → ((k : ℕ) → k < length ps → place_at (get_or ps 0 0) step k ≡ pos (get_or ps k 0)) → step ≡ pos size
    → ps ≡ side_by_side size (get_or ps 0 0) (length ps)
by_step ps step size places is = side_of_each ps size (λ k lt. at k (places k lt))
  where
    at : (k : ℕ) → place_at (get_or ps 0 0) step k ≡ pos (get_or ps k 0) → get_or ps k 0 ≡ get_or ps 0 0 + k * size
    at k there = let here : pos (get_or ps 0 0 + k * size) ≡ pos (get_or ps k 0) = ap (λ s. place_at (get_or ps 0 0) s k) (sym is) ∙ there in cc

-- one element is contiguous
pub alone : (ps : List ℕ) (size : ℕ) → length ps ≡ 1 → ps ≡ side_by_side size (get_or ps 0 0) (length ps)
alone ps size one = side_of_each ps size first
  where
    first : (k : ℕ) → k < length ps → get_or ps k 0 ≡ get_or ps 0 0 + k * size
    first zero lt = omega arith
    first (suc k) lt = absurd (omega (arith, one, lt))

-- the step of several contiguous elements is their size
pub step_is : (ps : List ℕ) (step : ℤ) (size : ℕ) → 1 < length ps → ((k : ℕ) → k < length ps → place_at (get_or ps 0 0) step k ≡ pos (get_or ps k 0))
    → ps ≡ side_by_side size (get_or ps 0 0) (length ps) → step ≡ pos size
step_is ps step size two places are =
    let next : get_or ps 1 0 ≡ get_or ps 0 0 + 1 * size = each_of_side ps size are 1 two in
    let there : place_at (get_or ps 0 0) step 1 ≡ pos (get_or ps 1 0) = places 1 two in
    omega (arith, ints, next, there)
