-- The numbers of a run, side by side in other bytes.
use Rattle.std.proofs.Common.{◌≡◌, ℕ, ℤ, pos, zero, suc, ◌+◌, ◌-◌, ◌*◌, ◌<◌, ◌≤◌, List, [], ◌∷◌, ◌++◌, map, length, take, drop, get_or, refl, sym, ap, ◌∙◌, arith, append_assoc, length-append}
use Rattle.std.specs.List.{flat_map}
use Rattle.std.specs.Prelude.{unsigned_abs}
use Rattle.std.proofs.Math.Nat.{mul-le-mul_right}
use Rattle.std.proofs.lemmas.Int.{ints}
use Rattle.std.proofs.lemmas.List.{drop-take, drop-drop, take-take, take_at, drop_at}
use Rattle.nd_model.specs.Arrays.Content.{number_at}
use Rattle.nd_model.specs.Arrays.Element.{Element, IsValue, size_of, bytes_at, bytes_of, value_of, wrap}
use Rattle.nd_model.specs.Arrays.Runs.{place_at, spot_at}
use Rattle.nd_model.specs.Arrays.Tuple.{count_up}
use Rattle.nd_model.proofs.Values.{round_trip, wrap_value, wrap_in_range, length-bytes_of}
use Rattle.nd_view.proofs.Tuples.{map-map, map_same}
use Rattle.nd_convert.proofs.conversion.Pieces.{run_is}
use Rattle.nd_convert.specs.Conversion.Converted.{converted_bytes}

-- what two functions give for numbers in order
pub same_counted : {X : Type 0} (f g : ℕ → X) (from n : ℕ) → ((j : ℕ) → from ≤ j → j < from + n → f j ≡ g j) → map f (count_up from n) ≡ map g (count_up from n)
same_counted f g from zero same = refl
same_counted f g from (suc n) same = λ i. same from (omega arith) (omega arith) i ∷ same_counted f g (from + 1) n (λ j le lt. same j (omega arith) (omega arith)) i

module _ (ps : List ℕ) (start : ℕ) (step : ℤ) (places : (k : ℕ) → k < length ps → place_at start step k ≡ pos (get_or ps k 0)) where
  -- a run by its numbers
  by_numbers : {X : Type 0} (f : ℕ → X) → map f ps ≡ map (λ j. f (spot_at start step j)) (count_up 0 (length ps))
  by_numbers f = ap (map f) (sym (run_is ps start step places)) ∙ map-map f (spot_at start step) (count_up 0 (length ps))

  -- at one place
  pub at_one_place : {X : Type 0} (f : ℕ → X) → step ≡ pos 0 → map (λ j. f start) (count_up 0 (length ps)) ≡ map f ps
  at_one_place f still = sym (by_numbers f ∙ same_counted (λ j. f (spot_at start step j)) (λ j. f start) 0 (length ps) (λ j le lt. ap f (ap (λ s. spot_at start s j) still ∙ stays start j)))
    where
      stays : (start j : ℕ) → spot_at start (pos 0) j ≡ start
      stays start j = ap unsigned_abs (let e : place_at start (pos 0) j ≡ pos start = omega (arith, ints) in e)

-- bytes in the middle of some bytes
pub bytes_within : (bytes : List ℕ) (start n size j : ℕ) → j < n → bytes_at (take (n * size) (drop start bytes)) (j * size) size ≡ bytes_at bytes (start + j * size) size
bytes_within bytes start n size j lt =
    let le : (j + 1) * size ≤ n * size = mul-le-mul_right size (omega arith) in
    let m : ℕ = n * size - j * size in
    let whole : n * size ≡ j * size + m = omega (arith, le) in
    ap (λ k. take size (drop (j * size) (take k (drop start bytes)))) whole ∙ ap (take size) (drop-take (j * size) m (drop start bytes) ∙ ap (take m) (drop-drop (j * size) start bytes))
    ∙ take-take size m (drop (start + j * size) bytes) (omega (arith, le))

-- side by side
pub contiguous_numbers : (e : Element) (bytes ps : List ℕ) (start : ℕ) (step : ℤ) → ((k : ℕ) → k < length ps → place_at start step k ≡ pos (get_or ps k 0)) → step ≡ pos (size_of e.kind)
    → map (λ j. number_at e (take (length ps * size_of e.kind) (drop start bytes)) (j * size_of e.kind)) (count_up 0 (length ps)) ≡ map (number_at e bytes) ps
contiguous_numbers e bytes ps start step places is =
    sym (by_numbers ps start step places (number_at e bytes)
    ∙ same_counted (λ j. number_at e bytes (spot_at start step j)) (λ j. number_at e (take (length ps * size_of e.kind) (drop start bytes)) (j * size_of e.kind)) 0 (length ps)
    (λ j le lt. ap (number_at e bytes) (ap (λ s. spot_at start s j) is ∙ goes start (size_of e.kind) j) ∙ ap (value_of e) (sym (bytes_within bytes start (length ps) (size_of e.kind) j (omega arith)))))
  where
    goes : (start size j : ℕ) → spot_at start (pos size) j ≡ start + j * size
    goes start size j = ap unsigned_abs (let e : place_at start (pos size) j ≡ pos (start + j * size) = omega (arith, ints) in e)

-- numbers that are written in a kind that has them are read back
module _ (e : Element) {A : Type 0} (f : A → ℤ) (held : (x : A) → IsValue e.kind (f x)) where
  pub behind : (front : List ℕ) (xs : List A) (k : ℕ) → length front ≡ k * size_of e.kind
      → map (λ j. number_at e (front ++ flat_map (λ x. bytes_of e (f x)) xs) (j * size_of e.kind)) (count_up k (length xs)) ≡ map f xs
  behind front [] k long = refl
  behind front (x ∷ xs) k long =
      let b : List ℕ = bytes_of e (f x) in let rest : List ℕ = flat_map (λ x. bytes_of e (f x)) xs in
      let size : length b ≡ size_of e.kind = length-bytes_of e (f x) in
      let here : bytes_at (front ++ (b ++ rest)) (k * size_of e.kind) (size_of e.kind) ≡ b
      = ap (take (size_of e.kind)) (drop_at front (b ++ rest) (k * size_of e.kind) long) ∙ take_at b rest (size_of e.kind) size in
      let next : length (front ++ b) ≡ (k + 1) * size_of e.kind = omega (arith, length-append front b, long, size) in
      (λ i. (ap (value_of e) here ∙ round_trip e (f x) (held x)) i ∷ map (λ j. number_at e (sym (append_assoc front b rest) i) (j * size_of e.kind)) (count_up (k + 1) (length xs)))
      ∙ ap (λ l. f x ∷ l) (behind (front ++ b) xs (k + 1) next)

-- so are those that are converted to a kind that has each number of theirs
pub converted_back : (to from : Element) (bytes places out : List ℕ) → ((p : ℕ) → IsValue from.kind (number_at from bytes p)) → ((z : ℤ) → IsValue from.kind z → IsValue to.kind z)
    → out ≡ converted_bytes to from bytes places → map (λ j. number_at to out (j * size_of to.kind)) (count_up 0 (length places)) ≡ map (number_at from bytes) places
converted_back to from bytes places out valid keeps is =
    ap (λ l. map (λ j. number_at to l (j * size_of to.kind)) (count_up 0 (length places))) is
    ∙ behind to (λ p. wrap to.kind (number_at from bytes p)) (λ p. wrap_in_range to.kind (number_at from bytes p)) [] places 0 (omega arith)
    ∙ map_same (λ p. wrap to.kind (number_at from bytes p)) (number_at from bytes) (λ p. wrap_value to.kind (number_at from bytes p) (keeps (number_at from bytes p) (valid p))) places
