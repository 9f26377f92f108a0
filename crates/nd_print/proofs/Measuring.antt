-- How many bytes the text of an array has, of which each element has the same length.
use Rattle.std.proofs.Common.{◌≡◌, ℕ, zero, suc, ◌+◌, ◌-◌, ◌*◌, ◌<◌, ◌≤◌, List, [], ◌∷◌, ◌++◌, map, length, take, drop, replicate, refl, ap, ap₂, ◌∙◌, arith, length-append}
use Rattle.std.specs.List.{All}
use Rattle.std.proofs.lemmas.List.{length-replicate, length-map, length-take-le, length-drop}
use Rattle.std.proofs.lemmas.List.Elements.{All-head, All-cons, All-take, All-drop}
use Rattle.std.proofs.Math.Nat.{mul-le-mul_left}
use Rattle.nd_model.specs.Text.Text.{joined, split, bracketed}
use Rattle.nd_model.specs.Arrays.Tuple.{elements_of}
use Rattle.nd_print.specs.Lengths.{gap_len, nested_len}
use Rattle.nd_print.proofs.Joining.{length-joined}

length-split : {X : Type 0} (n each : ℕ) (xs : List X) → length (split n each xs) ≡ n
length-split zero each xs = refl
length-split (suc n) each xs = ap (λ m. suc m) (length-split n each (drop each xs))

-- what has this length in every part
module _ (each : ℕ) where
  abbrev Even : List (List ℕ) → Type 0
  Even ps = All (λ p. length p ≡ each) ps

  all_parts : (F : List (List ℕ) → List ℕ) (size len : ℕ) → ((ps : List (List ℕ)) → Even ps → length ps ≡ size → length (F ps) ≡ len)
      → (n : ℕ) (ps : List (List ℕ)) → Even ps → length ps ≡ n * size → All (λ t. length t ≡ len) (map F (split n size ps))
  all_parts F size len h zero ps even e = λ k d lt. absurd (omega arith)
  all_parts F size len h (suc n) ps even e =
      All-cons (λ t. length t ≡ len) (F (take size ps)) (map F (split n size (drop size ps)))
      (h (take size ps) (All-take (λ p. length p ≡ each) size ps even) (length-take-le size ps (omega arith)))
      (all_parts F size len h n (drop size ps) (All-drop (λ p. length p ≡ each) size ps even) (length-drop size ps ∙ left (length ps) size n e))
    where
      left : (a size n : ℕ) → a ≡ suc n * size → a - size ≡ n * size
      left a size n e = omega arith

  some_below : (n r : ℕ) → 0 < n * r → 0 < r
  some_below n zero some = absurd (omega arith)
  some_below n (suc r) some = omega arith

  length-gap : (depth : ℕ) (m : ℕ) (shape : List ℕ) → length {A = ℕ} (replicate (length (m ∷ shape)) 10 ++ replicate (depth + 1) 32) ≡ gap_len depth (m ∷ shape)
  length-gap depth m shape =
      length-append (replicate (length (m ∷ shape)) 10) (replicate (depth + 1) 32)
      ∙ ap₂ (λ a b. a + b) (length-replicate (length (m ∷ shape)) 10) (length-replicate (depth + 1) 32)

  in_brackets : (t : List ℕ) (n : ℕ) → length t ≡ n → length (91 ∷ t ++ 93 ∷ []) ≡ n + 2
  in_brackets t n e = ap (λ m. suc m) (length-append t (93 ∷ [])) ∙ two (length t) n e
    where
      two : (a n : ℕ) → a ≡ n → suc (a + 1) ≡ n + 2
      two a n e = omega arith

  pub length-bracketed : (depth : ℕ) (shape : List ℕ) (parts : List (List ℕ)) → Even parts → length parts ≡ elements_of shape → 0 < elements_of shape
      → length (bracketed depth shape parts) ≡ nested_len depth each shape
  length-bracketed depth [] [] even e some = absurd (omega arith)
  length-bracketed depth [] (p ∷ []) even e some = length-append p [] ∙ alone (length p) (All-head (λ p. length p ≡ each) p [] even)
    where
      alone : (a : ℕ) → a ≡ each → a + 0 ≡ each
      alone a e = omega arith
  length-bracketed depth [] (p ∷ q ∷ parts) even e some = absurd (omega arith)
  length-bracketed depth (zero ∷ shape) parts even e some = absurd (omega arith)
  length-bracketed depth (suc n ∷ []) parts even e some =
      in_brackets (joined (32 ∷ []) parts) _ (length-joined (32 ∷ []) each n parts even (omega arith))
  length-bracketed depth (suc n ∷ m ∷ shape) parts even e some =
      let size : ℕ = elements_of (m ∷ shape) in
      let len : ℕ = nested_len (depth + 1) each (m ∷ shape) in
      let gap : List ℕ = replicate (length (m ∷ shape)) 10 ++ replicate (depth + 1) 32 in
      let pieces : List (List ℕ) = map (bracketed (depth + 1) (m ∷ shape)) (split (suc n) size parts) in
      let all = all_parts (bracketed (depth + 1) (m ∷ shape)) size len
      (λ ps h k. length-bracketed (depth + 1) (m ∷ shape) ps h k (some_below (suc n) size some)) (suc n) parts even e in
      in_brackets (joined gap pieces) _
      (length-joined gap len n pieces all (length-map (split (suc n) size parts) (bracketed (depth + 1) (m ∷ shape)) ∙ length-split (suc n) size parts)
      ∙ ap (λ g. n * (len + g) + len) (length-gap depth m shape))

more_each : (n g a b : ℕ) → a ≤ b → n * (a + g) + a + 2 ≤ n * (b + g) + b + 2
more_each n g a b le = let more : a + g ≤ b + g = omega arith in omega (arith, mul-le-mul_left n more)

-- longer elements, a longer text
pub nested_mono : (depth a b : ℕ) (shape : List ℕ) → a ≤ b → nested_len depth a shape ≤ nested_len depth b shape
nested_mono depth a b [] le = le
nested_mono depth a b (zero ∷ shape) le = omega arith
nested_mono depth a b (suc n ∷ shape) le = more_each n (gap_len depth shape) (nested_len (depth + 1) a shape) (nested_len (depth + 1) b shape) (nested_mono (depth + 1) a b shape le)
