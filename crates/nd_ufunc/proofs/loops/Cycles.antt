-- Numbers that come again and again, and the first ones of them.
use Rattle.std.proofs.Common.{◌≡◌, ℕ, ℤ, pos, suc, ◌+◌, ◌-◌, ◌*◌, ◌%◌, ◌<◌, ◌≤◌, List, [], ◌∷◌, ◌++◌, map, length, take, drop, get_or, refl, sym, ap, ◌∙◌, arith}
use Rattle.std.proofs.Math.Nat.{mod-le, mod-lt, mod-add-mod}
use Rattle.std.proofs.Math.Seq.{take-append_seam}
use Rattle.std.proofs.lemmas.List.{length-take-le, get_or-map, get_or-take, map-append}
use Rattle.nd_model.specs.Arrays.Content.{number_at}
use Rattle.nd_model.specs.Arrays.Element.{Element, IsValue, size_of, value_of}
use Rattle.nd_model.specs.Arrays.Tuple.{count_up}
use Rattle.nd_convert.specs.Conversion.Converted.{converted_bytes}
use Rattle.nd_view.proofs.Tuples.{count_up-append, length-count_up, get_or-count_up, map-map, map_same, shifted}
use Rattle.nd_ufunc.specs.Loops.Turns.{IsInTurns}
use Rattle.nd_ufunc.proofs.loops.SideBySide.{bytes_within, converted_back, same_counted}

-- a list by its indexes
read_all : (xs : List ℕ) → map (λ k. get_or xs k 0) (count_up 0 (length xs)) ≡ xs
read_all [] = refl
read_all (x ∷ xs) = ap (λ l. x ∷ l) (ap (map (λ k. get_or (x ∷ xs) k 0)) (sym (shifted 1 0 (length xs))) ∙ map-map (λ k. get_or (x ∷ xs) k 0) (λ k. 1 + k) (count_up 0 (length xs))
    ∙ map_same (λ k. get_or (x ∷ xs) (1 + k) 0) (λ k. get_or xs k 0) (λ k. ap (λ j. get_or (x ∷ xs) j 0) (next k)) (count_up 0 (length xs)) ∙ read_all xs)
  where
    next : (k : ℕ) → 1 + k ≡ suc k
    next k = omega arith

pub at_counted : (f : ℕ → ℤ) (n k : ℕ) → k < n → get_or (map f (count_up 0 n)) k (pos 0) ≡ f k
at_counted f n k lt = get_or-map f (count_up 0 n) k 0 (pos 0) (omega (arith, length-count_up 0 n)) ∙ ap f (get_or-count_up 0 n k 0 lt ∙ omega arith)

module _ (to from : Element) (bytes places : List ℕ) (room : ℕ) (enough : room ≤ length places) (part rest : List ℕ)
    (valid : (p : ℕ) → IsValue from.kind (number_at from bytes p)) (keeps : (z : ℤ) → IsValue from.kind z → IsValue to.kind z)
    (long : length part ≡ room * size_of to.kind) (is : part ≡ converted_bytes to from bytes (take room places)) where
  -- what is read of the first ones
  pub first_is : (k : ℕ) → k < room → number_at to (part ++ rest) (k * size_of to.kind) ≡ number_at from bytes (get_or places k 0)
  first_is k lt =
      let s = size_of to.kind in let all : List ℕ = part ++ rest in let few : List ℕ = take room places in
      let count : length few ≡ room = length-take-le room places enough in
      let front : take (room * s) all ≡ part = ap (λ m. take m all) (sym long) ∙ take-append_seam part rest in
      let here : 0 + k * s ≡ k * s = omega arith in
      let read : number_at to part (k * s) ≡ number_at to all (k * s)
      = ap (λ l. number_at to l (k * s)) (sym front) ∙ ap (value_of to) (bytes_within all 0 room s k lt) ∙ ap (number_at to all) here in
      let back : map (λ j. number_at to part (j * s)) (count_up 0 (length few)) ≡ map (number_at from bytes) few = converted_back to from bytes few part valid keeps is in
      let in_few : k < length few = omega (arith, count) in
      sym read ∙ sym (at_counted (λ j. number_at to part (j * s)) (length few) k in_few) ∙ ap (λ l. get_or l k (pos 0)) back
      ∙ get_or-map (number_at from bytes) few k 0 (pos 0) in_few ∙ ap (number_at from bytes) (get_or-take room places k 0 lt)

  module _ (period : ℕ) (some : 0 < period) (turns : IsInTurns period places) where
    -- they begin again as the places do
    pub first_again : (k : ℕ) → k < room → number_at to (part ++ rest) (k * size_of to.kind) ≡ number_at to (part ++ rest) (k % period * size_of to.kind)
    first_again k lt =
        first_is k lt ∙ ap (number_at from bytes) (turns k (omega (arith, enough))) ∙ sym (first_is (k % period) (omega (arith, mod-le k period)))

    -- and all are among them
    pub all_are : period ≤ room → map (λ k. number_at to (part ++ rest) (k % period * size_of to.kind)) (count_up 0 (length places)) ≡ map (number_at from bytes) places
    all_are few =
        same_counted (λ k. number_at to (part ++ rest) (k % period * size_of to.kind)) (λ k. number_at from bytes (get_or places k 0)) 0 (length places)
        (λ k le lt. first_is (k % period) (omega (arith, mod-lt k some)) ∙ sym (ap (number_at from bytes) (turns k (omega arith))))
        ∙ sym (map-map (number_at from bytes) (λ k. get_or places k 0) (count_up 0 (length places))) ∙ ap (map (number_at from bytes)) (read_all places)

-- what is taken lies among the first ones, and others are left
pub taken : (e : Element) (first : List ℕ) (period most at count n : ℕ) → 0 < period → at + n ≤ count → at % period + n ≤ most
    → ((k : ℕ) → k < most → number_at e first (k * size_of e.kind) ≡ number_at e first (k % period * size_of e.kind))
    → map (λ k. number_at e first (k % period * size_of e.kind)) (count_up at (count - at))
    ≡ map (λ j. number_at e (take (n * size_of e.kind) (drop (at % period * size_of e.kind) first)) (j * size_of e.kind)) (count_up 0 n)
    ++ map (λ k. number_at e first (k % period * size_of e.kind)) (count_up (at + n) (count - (at + n)))
taken e first period most at count n some within room again =
    let s = size_of e.kind in let f : ℕ → ℤ = λ k. number_at e first (k % period * s) in let r : ℕ = count - (at + n) in
    let split : count - at ≡ n + r = omega arith in let from : at ≡ at + 0 = omega arith in
    ap (λ m. map f (count_up at m)) split ∙ ap (map f) (count_up-append at n r) ∙ map-append f (count_up at n) (count_up (at + n) r)
    ∙ ap (λ l. l ++ map f (count_up (at + n) r))
    (ap (λ k. map f (count_up k n)) from ∙ ap (map f) (sym (shifted at 0 n)) ∙ map-map f (λ j. at + j) (count_up 0 n)
    ∙ same_counted (λ j. f (at + j)) (λ j. number_at e (take (n * s) (drop (at % period * s) first)) (j * s)) 0 n (λ j le lt.
    let way : at % period * s + j * s ≡ (at % period + j) * s = omega arith in
    ap (λ k. number_at e first (k * s)) (sym (mod-add-mod at period j)) ∙ sym (again (at % period + j) (omega arith))
    ∙ ap (number_at e first) (sym way) ∙ ap (value_of e) (sym (bytes_within first (at % period * s) n s j (omega arith)))))
