-- Views in a part of a block, and how far a view reaches.
use Rattle.std.proofs.Common.{◌≡◌, ℕ, ℤ, pos, zero, suc, ◌+◌, ◌-◌, ◌*◌, ◌<◌, ◌≤◌, ◌^◌, true, List, [], ◌∷◌, ◌++◌, map, length, get_or, refl, sym, ap, ◌∙◌, subst, arith, append_assoc, append-nil}
use Rattle.std.specs.Prelude.{◌+ℤ◌, ◌≤ℤ◌, unsigned_abs, neg_ℤ, negsuc, None}
use Rattle.std.specs.List.{All}
use Rattle.std.proofs.lemmas.Int.{ints}
use Rattle.std.proofs.lemmas.List.Elements.{All-nil, All-append, All-weaker}
use Rattle.std.proofs.Math.Nat.{mul-le-mul_right}
use Rattle.nd_model.specs.Arrays.Runs as runs
use Rattle.nd_model.specs.Arrays.Strides.{way_to, begins_at, place_at, places_by, is_held, are_held, parts_fault}
use Rattle.nd_model.specs.Arrays.Tuple.{elements_of, indices, number}
use Rattle.nd_view.specs.Indexes.{IsIndex}
use Rattle.nd_view.proofs.Extents.{bounds, held_by}
use Rattle.nd_view.proofs.Indexed.{all_indexes, of_all, same_indexes}
use Rattle.nd_view.proofs.Made.{facts, axes, no_fault}
use Rattle.nd_view.proofs.Numbered.{at_tuple, length-places_by}
use Rattle.nd_view.proofs.Steps.{number-below}
use Rattle.nd_view.proofs.Tuples.{map-map}

-- ---- the view in a block that begins further on

module _ (size by offset : ℕ) (shape : List ℕ) (strides : List ℤ) (none : parts_fault size shape strides offset (2 ^ 64) ≡ None)
    (places : List ℕ) (are : places ≡ places_by offset strides shape) (first : offset ≡ get_or places 0 0) (low : All (λ p. by ≤ p) places) where
  all : are_held size (2 ^ 64) offset strides shape ≡ true
  all = (facts size shape strides offset (2 ^ 64) none).2

  same : length strides ≡ length shape
  same = axes size shape strides offset (2 ^ 64) none

  count : length places ≡ elements_of shape
  count = ap length are ∙ length-places_by offset strides shape

  at_place : (t : List ℕ) → IsIndex shape t → get_or places (number shape t) 0 ≡ place_at offset strides t
  at_place t is = ap (λ ps. get_or ps (number shape t) 0) are ∙ at_tuple offset strides shape t is

  shifted : (o : ℕ) (z w : ℤ) → by ≤ o → pos o +ℤ z ≡ w → pos (o - by) +ℤ z ≡ w +ℤ neg_ℤ (pos by)
  shifted o z w le e = omega (arith, ints, le, e)

  -- the element of a tuple begins `by` bytes nearer to the front
  nearer : (z : ℤ) → pos 0 ≤ℤ z → by ≤ unsigned_abs z → (pos 0 ≤ℤ (z +ℤ neg_ℤ (pos by))) × (unsigned_abs (z +ℤ neg_ℤ (pos by)) ≡ unsigned_abs z - by)
  nearer z above le = (omega (arith, ints, above, le), omega (arith, ints, above, le))

  begins : (t : List ℕ) → IsIndex shape t → begins_at (offset - by) strides t ≡ begins_at offset strides t +ℤ neg_ℤ (pos by)
  begins t is =
      let lt : number shape t < length places = omega (arith, number-below shape t is, count) in
      let le : by ≤ offset = subst (λ o. by ≤ o) (sym first) (low 0 0 (omega (arith, lt))) in
      shifted offset (way_to t strides) (begins_at offset strides t) le refl

  inside : (t : List ℕ) → IsIndex shape t → (pos 0 ≤ℤ begins_at offset strides t) × (unsigned_abs (begins_at offset strides t) + size ≤ 2 ^ 64)
  inside t is = bounds size (2 ^ 64) (begins_at offset strides t) (of_all (is_held size (2 ^ 64)) (begins_at offset strides) shape t all is)

  above : (t : List ℕ) → IsIndex shape t → by ≤ place_at offset strides t
  above t is = subst (λ p. by ≤ p) (at_place t is) (low (number shape t) 0 (omega (arith, number-below shape t is, count)))

  moved_held : are_held size (2 ^ 64) (offset - by) strides shape ≡ true
  moved_held = all_indexes (is_held size (2 ^ 64)) (begins_at (offset - by) strides) shape
      (λ t is. let b = inside t is in let n = nearer (begins_at offset strides t) b.0 (above t is) in
      rw (begins t is) (held_by size (2 ^ 64) (begins_at offset strides t +ℤ neg_ℤ (pos by)) n.0 (omega (arith, n.1, b.1))))

  pub moved_fault : parts_fault size shape strides (offset - by) (2 ^ 64) ≡ None
  moved_fault = no_fault size (2 ^ 64) (offset - by) shape strides (facts size shape strides offset (2 ^ 64) none).1 same moved_held

  pub moved_places : places_by (offset - by) strides shape ≡ map (λ p. p - by) places
  moved_places = same_indexes (place_at (offset - by) strides) (λ t. place_at offset strides t - by) shape
      (λ t is. ap unsigned_abs (begins t is) ∙ (nearer (begins_at offset strides t) (inside t is).0 (above t is)).1)
      ∙ sym (map-map (λ p. p - by) (place_at offset strides) (indices shape)) ∙ ap (map (λ p. p - by)) (sym are)

-- ---- how far a view reaches

-- the places before those that are left are not outside
pub record SoFar (places left : List ℕ) (first last : ℕ) : Type 0 where
  pub done : List ℕ
  pub split : places ≡ done ++ left
  pub low : All (λ p. first ≤ p) done
  pub high : All (λ p. p ≤ last) done

between : (first : ℕ) (step : ℤ) (k j p q : ℕ) → k ≤ j → runs.place_at first step k ≡ pos p → runs.place_at first step j ≡ pos q
    → ((low : ℕ) → low ≤ first → low ≤ q → low ≤ p) × ((high : ℕ) → first ≤ high → q ≤ high → p ≤ high)
between first (pos s) k j p q le here last =
    let at : first + k * s ≡ p = omega (arith, ints, here) in let end : first + j * s ≡ q = omega (arith, ints, last) in
    let far : k * s ≤ j * s = mul-le-mul_right s le in
    ((λ low l m. omega (arith, at, l)), (λ high l m. omega (arith, at, end, far, m)))
between first (negsuc s) k j p q le here last =
    let far : k * suc s ≤ j * suc s = mul-le-mul_right (suc s) le in
    let at : p + k * suc s ≡ first = back first (k * suc s) p here in let end : q + j * suc s ≡ first = back first (j * suc s) q last in
    ((λ low l m. omega (arith, at, end, far, m)), (λ high l m. omega (arith, at, l)))
  where
    back : (x m y : ℕ) → pos x +ℤ neg_ℤ (pos m) ≡ pos y → y + m ≡ x
    back x m y e = omega (arith, ints, e)

-- a run more
pub further : (places run left whole : List ℕ) (step : ℤ) (first last low high : ℕ) → 0 < length run → ((k : ℕ) → k < length run → runs.place_at (get_or run 0 0) step k ≡ pos (get_or run k 0))
    → low ≤ first → low ≤ get_or run 0 0 → low ≤ get_or run (length run - 1) 0 → last ≤ high → get_or run 0 0 ≤ high → get_or run (length run - 1) 0 ≤ high
    → whole ≡ run ++ left → SoFar places whole first last → SoFar places left low high
further places run left whole step first last low high some steps low0 low1 low2 high0 high1 high2 e so =
    let each : (k d : ℕ) → k < length run → (low ≤ get_or run k d) × (get_or run k d ≤ high) = λ k d lt.
    let b = between (get_or run 0 0) step k (length run - 1) (get_or run k 0) (get_or run (length run - 1) 0) (omega (arith, lt)) (steps k lt) (steps (length run - 1) (omega (arith, some))) in
    subst (λ p. (low ≤ p) × (p ≤ high)) (any_default run k 0 d lt) (b.0 low low1 low2, b.1 high high1 high2) in
    record {
      done = so.done ++ run;
      split = so.split ∙ ap (λ l. so.done ++ l) e ∙ sym (append_assoc so.done run left);
      low = All-append (λ p. low ≤ p) so.done run (All-weaker (λ p. first ≤ p) (λ p. low ≤ p) (λ p le. omega (arith, le, low0)) so.done so.low) (λ k d lt. (each k d lt).0);
      high = All-append (λ p. p ≤ high) so.done run (All-weaker (λ p. p ≤ last) (λ p. p ≤ high) (λ p le. omega (arith, le, high0)) so.done so.high) (λ k d lt. (each k d lt).1);
    }
  where
    any_default : (xs : List ℕ) (k d e : ℕ) → k < length xs → get_or xs k d ≡ get_or xs k e
    any_default [] k d e lt = absurd (omega arith)
    any_default (x ∷ xs) zero d e lt = refl
    any_default (x ∷ xs) (suc k) d e lt = any_default xs k d e (omega arith)

pub begun : (places left : List ℕ) (first last : ℕ) → left ≡ places → SoFar places left first last
begun places left first last e = record { done = []; split = sym e; low = All-nil (λ p. first ≤ p); high = All-nil (λ p. p ≤ last) }

-- no place is left
pub ended : (places left : List ℕ) (first last : ℕ) → left ≡ [] → SoFar places left first last → All (λ p. first ≤ p) places × All (λ p. p ≤ last) places
ended places left first last none so =
    let all : places ≡ so.done = so.split ∙ ap (λ l. so.done ++ l) none ∙ append-nil so.done in
    (subst (All (λ p. first ≤ p)) (sym all) so.low, subst (All (λ p. p ≤ last)) (sym all) so.high)
