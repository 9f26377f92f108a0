-- Elements side by side are copied as one run.
use Rattle.std.proofs.Common.{◌≡◌, ℕ, zero, suc, ◌+◌, ◌-◌, ◌*◌, ◌<◌, ◌≤◌, List, [], ◌++◌, ℤ, pos, negsuc, ◌^◌, length, take, drop, sym, ap, ◌∙◌, arith, length-append, length-take, length-drop, append-nil}
use Rattle.std.proofs.lemmas.List.{append_assoc, take_at, drop-drop, take-append-drop}
use Rattle.std.proofs.Math.Seq.{drop-append-add, take-append-add}
use Rattle.nd_model.specs.Arrays.Element.{bytes_at, with_bytes}
use Rattle.nd_model.specs.Arrays.Runs.{AreWithin, copied}
use Rattle.std.specs.Int.{w128, cast_unsigned}
use Rattle.std.specs.Int.RustNames.{FitsSigned}
use Rattle.nd_block.proofs.Copied.{length-bytes_at}

-- a run of bytes is its two parts
pub bytes_at-split : (xs : List ℕ) (p m n : ℕ) → p + m ≤ length xs → bytes_at xs p (m + n) ≡ bytes_at xs p m ++ bytes_at xs (p + m) n
bytes_at-split xs p m n le =
    let front : length (take m (drop p xs)) ≡ m = omega (arith, length-take m (drop p xs), length-drop p xs) in
    ap (take (m + n)) (sym (take-append-drop m (drop p xs))) ∙ ap (λ k. take (k + n) (take m (drop p xs) ++ drop m (drop p xs))) (sym front)
    ∙ take-append-add (take m (drop p xs)) (drop m (drop p xs)) n ∙ ap (λ l. take m (drop p xs) ++ take n l) (drop-drop m p xs)

-- a write right after another one
pub with_bytes-twice : (xs : List ℕ) (p : ℕ) (ys zs : List ℕ) (q : ℕ) → q ≡ p + length ys → p + length ys ≤ length xs → with_bytes (with_bytes xs p ys) q zs ≡ with_bytes xs p (ys ++ zs)
with_bytes-twice xs p ys zs q e le =
    let head = take p xs ++ ys in let m = p + length ys in
    let long : length head ≡ q = omega (arith, length-append (take p xs) ys, length-take p xs) in
    let far : q + length zs ≡ length head + length zs = omega arith in
    let end : m + length zs ≡ p + length (ys ++ zs) = omega (arith, length-append ys zs) in
    ap (λ l. l ++ zs ++ drop (q + length zs) (head ++ drop m xs)) (take_at head (drop m xs) q long)
    ∙ ap (λ k. head ++ zs ++ drop k (head ++ drop m xs)) far
    ∙ ap (λ l. head ++ zs ++ l) (drop-append-add head (drop m xs) (length zs) ∙ drop-drop (length zs) m xs ∙ ap (λ k. drop k xs) end)
    ∙ ap (λ l. l ++ drop (p + length (ys ++ zs)) xs) (append_assoc (take p xs) ys zs)

with_bytes-none : (xs : List ℕ) (p : ℕ) → with_bytes xs p [] ≡ xs
with_bytes-none xs p = let same : p + 0 ≡ p = omega arith in ap (λ k. take p xs ++ [] ++ drop k xs) same ∙ ap (λ l. l ++ drop p xs) (append-nil (take p xs)) ∙ take-append-drop p xs

counts : (size n : ℕ) → 0 < n → (n - 1) * size + size ≡ n * size
counts size zero lt = absurd (omega arith)
counts size (suc n) lt = let back : suc n - 1 ≡ n = omega arith in ap (λ k. k * size + size) back ∙ omega arith

module _ (d s size n : ℕ) (xs : List ℕ) (to : AreWithin d (pos size) size n (length xs)) (from : AreWithin s (pos size) size n (length xs)) where
  pub ends : (k : ℕ) → k < n → (d + k * size + size ≤ length xs) × (s + k * size + size ≤ length xs)
  ends k lt = ((to k lt).1, (from k lt).1)

  pub together : (k : ℕ) → k ≤ n → copied d (pos size) s (pos size) size k xs ≡ with_bytes xs d (bytes_at xs s (k * size))
  together zero le = let none : 0 * size ≡ 0 = omega arith in sym (with_bytes-none xs d) ∙ ap (λ k. with_bytes xs d (bytes_at xs s k)) (sym none)
  together (suc k) le =
      let in_to : d + k * size + size ≤ length xs = (ends k (omega arith)).0 in let in_from : s + k * size + size ≤ length xs = (ends k (omega arith)).1 in
      let old = bytes_at xs s (k * size) in let more = bytes_at xs (s + k * size) size in
      let long : length old ≡ k * size = length-bytes_at xs s (k * size) (omega arith) in
      let next : k * size + size ≡ suc k * size = omega arith in
      ap (λ l. with_bytes l (d + k * size) more) (together k (omega arith))
      ∙ with_bytes-twice xs d old more (d + k * size) (omega arith) (omega arith)
      ∙ ap (with_bytes xs d) (sym (bytes_at-split xs s (k * size) size (omega arith)) ∙ ap (bytes_at xs s) next)

  -- all n of them
  pub whole : (j : ℕ) → 0 < n → j ≡ n * size → (d + j ≤ length xs) × (s + j ≤ length xs)
  whole j some e =
      let last = ends (n - 1) (omega arith) in let all : (n - 1) * size + size ≡ n * size = counts size n some in
      (omega (arith, last.0), omega (arith, last.1))

-- a signed number whose bits are a small number is that number
pub step_is : (z : ℤ) (n : ℕ) → FitsSigned w128 z → n < 2 ^ 64 → cast_unsigned w128 z ≡ n → z ≡ pos n
step_is (pos m) n fits lt e = ap pos e
step_is (negsuc m) n fits lt e = let small : m < 2 ^ 127 = fits.sfits in absurd (omega arith)
