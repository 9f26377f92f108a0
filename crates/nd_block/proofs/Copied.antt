-- What a write leaves as it was.
use Rattle.std.proofs.Common.{◌≡◌, ℕ, zero, suc, ◌+◌, ◌-◌, ◌<◌, ◌≤◌, ◌⊎◌, inl, inr, List, ◌++◌, ℤ, length, take, drop, refl, sym, ap, ◌∙◌, arith, length-append, length-take, length-drop, take-take}
use Rattle.std.proofs.lemmas.List.{append_assoc, take-append-le, drop-append-le, drop-drop, drop-take}
use Rattle.std.proofs.Math.Seq.{drop-append-add}
use Rattle.nd_model.specs.Arrays.Element.{bytes_at, with_bytes}
use Rattle.nd_model.specs.Arrays.Runs.{spot_at, AreWithin, AreApart, copied}

pub length-bytes_at : (xs : List ℕ) (p n : ℕ) → p + n ≤ length xs → length (bytes_at xs p n) ≡ n
length-bytes_at xs p n le = omega (arith, length-take n (drop p xs), length-drop p xs)

pub length-with_bytes : (xs : List ℕ) (p : ℕ) (ys : List ℕ) → p + length ys ≤ length xs → length (with_bytes xs p ys) ≡ length xs
length-with_bytes xs p ys le = let m = p + length ys in omega (arith, length-append (take p xs ++ ys) (drop m xs), length-append (take p xs) ys, length-take p xs, length-drop m xs)

below : (xs rest : List ℕ) (p q n : ℕ) → p ≤ length xs → q + n ≤ p → bytes_at (take p xs ++ rest) q n ≡ bytes_at xs q n
below xs rest p q n le apart =
    let front : length (take p xs) ≡ p = omega (arith, length-take p xs) in
    let more : q + (p - q) ≡ p = omega arith in
    let short : p - q ≤ length (drop q xs) = omega (arith, length-drop q xs) in
    ap (take n) (drop-append-le q (take p xs) rest (omega arith))
    ∙ take-append-le n (drop q (take p xs)) rest (omega (arith, length-drop q (take p xs)))
    ∙ ap (λ k. take n (drop q (take k xs))) (sym more) ∙ ap (take n) (drop-take q (p - q) xs)
    ∙ take-take n (p - q) (drop q xs) (omega arith)

above : (xs front : List ℕ) (m q n : ℕ) → length front ≡ m → m ≤ q → bytes_at (front ++ drop m xs) q n ≡ bytes_at xs q n
above xs front m q n long apart =
    let more : q ≡ length front + (q - m) = omega arith in let back : m + (q - m) ≡ q = omega arith in
    ap (take n) (ap (λ k. drop k (front ++ drop m xs)) more ∙ drop-append-add front (drop m xs) (q - m) ∙ drop-drop (q - m) m xs ∙ ap (λ k. drop k xs) back)

pub beside : (xs : List ℕ) (p : ℕ) (ys : List ℕ) (q n : ℕ) → p + length ys ≤ length xs → (p + length ys ≤ q) ⊎ (q + n ≤ p) → bytes_at (with_bytes xs p ys) q n ≡ bytes_at xs q n
beside xs p ys q n le apart = elim apart [
  | inl past ↦ above xs (take p xs ++ ys) (p + length ys) q n (omega (arith, length-append (take p xs) ys, length-take p xs)) past
  | inr before ↦ ap (λ l. bytes_at l q n) (append_assoc (take p xs) ys (drop (p + length ys) xs)) ∙ below xs (ys ++ drop (p + length ys) xs) p q n (omega arith) before
]

module _ (d : ℕ) (ds : ℤ) (s : ℕ) (ss : ℤ) (size n : ℕ) (xs : List ℕ) (to : AreWithin d ds size n (length xs)) (from : AreWithin s ss size n (length xs)) where
  piece : (k : ℕ) → k < n → length (bytes_at xs (spot_at s ss k) size) ≡ size
  piece k lt = length-bytes_at xs (spot_at s ss k) size (from k lt).1

  pub length-copied : (k : ℕ) → k ≤ n → length (copied d ds s ss size k xs) ≡ length xs
  length-copied zero le = refl
  length-copied (suc k) le =
      let was : length (copied d ds s ss size k xs) ≡ length xs = length-copied k (omega arith) in
      let long : length (bytes_at xs (spot_at s ss k) size) ≡ size = piece k (omega arith) in
      let within : spot_at d ds k + size ≤ length xs = (to k (omega arith)).1 in
      length-with_bytes (copied d ds s ss size k xs) (spot_at d ds k) (bytes_at xs (spot_at s ss k) size) (omega arith) ∙ was

  -- the elements before the k-th leave q's bytes as they were
  pub kept : (q : ℕ) (k : ℕ) → k ≤ n → ((j : ℕ) → j < k → (spot_at d ds j + size ≤ q) ⊎ (q + size ≤ spot_at d ds j)) → bytes_at (copied d ds s ss size k xs) q size ≡ bytes_at xs q size
  kept q zero le apart = refl
  kept q (suc k) le apart =
      let was : length (copied d ds s ss size k xs) ≡ length xs = length-copied k (omega arith) in
      let long : length (bytes_at xs (spot_at s ss k) size) ≡ size = piece k (omega arith) in
      let within : spot_at d ds k + size ≤ length xs = (to k (omega arith)).1 in
      let p = spot_at d ds k in let ys = bytes_at xs (spot_at s ss k) size in
      let clear : (p + length ys ≤ q) ⊎ (q + size ≤ p) = elim (apart k (omega arith)) [ inl a ↦ inl (omega arith) | inr b ↦ inr (omega arith) ] in
      beside (copied d ds s ss size k xs) p ys q size (omega arith) clear ∙ kept q k (omega arith) (λ j lt. apart j (omega arith))

  -- the k-th element is copied
  pub next : (k : ℕ) → k < n → AreApart d ds s ss size n → (m : ℕ) → m ≡ size
      → take (spot_at d ds k) (copied d ds s ss size k xs) ++ take m (drop (spot_at s ss k) (copied d ds s ss size k xs)) ++ drop (spot_at d ds k + m) (copied d ds s ss size k xs)
      ≡ copied d ds s ss size (suc k) xs
  next k lt apart m e =
      let acc = copied d ds s ss size k xs in let p = spot_at d ds k in let q = spot_at s ss k in
      let same : bytes_at acc q size ≡ bytes_at xs q size = kept q k (omega arith) (λ j below'. apart j k below' lt) in
      let long = piece k lt in
      ap (λ i. take p acc ++ take i (drop q acc) ++ drop (p + i) acc) e
      ∙ ap (λ l. take p acc ++ l ++ drop (p + size) acc) same
      ∙ ap (λ i. take p acc ++ bytes_at xs q size ++ drop (p + i) acc) (sym long)
