-- A written file is read as its array.
use Rattle.std.proofs.Common.{◌≡◌, ℕ, pos, ◌-◌, ◌<◌, ◌≤◌, ◌≤ℤ◌, ◌^◌, nat_le, Bool, true, false, List, [], ◌∷◌, ◌++◌, length, take, drop, Result, Ok, refl, sym, ap, ap₂, ◌∙◌, arith, append_assoc, length-append, subst}
use Rattle.std.specs.Int.{w16, w32, byte_len, from_le_bytes}
use Rattle.std.proofs.lemmas.Bool.{le-leb}
use Rattle.std.proofs.lemmas.Int.{ints}
use Rattle.nd_model.specs.Arrays.Element.{bytes_of}
use Rattle.nd_model.specs.Grammar.Predict.{◌>>=◌}
use Rattle.nd_model.specs.Formats.NpyFault.{NpyFault, Truncated}
use Rattle.nd_model.specs.Formats.NpyHeader.{Header}
use Rattle.nd_model.specs.Formats.NpyReading as npy
use Rattle.nd_model.specs.Formats.NpyReading.{NpyArray, Version, First, Third, when, split, read_version, read_npy, header_bytes, elements_in, array_of, length_width, encoding_of, header_of}
use Rattle.nd_model.specs.Formats.NpyWriting as writing
use Rattle.nd_model.specs.Formats.NpyWriting.{length_element, front_of}
use Rattle.nd_model.proofs.Values.{round_trip, length-bytes_of}

-- ---- parts of a file

le_test : (n m : ℕ) → n ≤ m → nat_le n m ≡ true
le_test n m le = le-leb n m le

take_own : (xs ys : List ℕ) → take (length xs) (xs ++ ys) ≡ xs
take_own [] ys = nothing ys
  where
    nothing : (ys : List ℕ) → take 0 ys ≡ []
    nothing ys = refl
take_own (x ∷ xs) ys = ap (λ l. x ∷ l) (take_own xs ys)

drop_own : (xs ys : List ℕ) → drop (length xs) (xs ++ ys) ≡ ys
drop_own [] ys = refl
drop_own (x ∷ xs) ys = drop_own xs ys

pub split_is : (n : ℕ) (xs ys : List ℕ) → length xs ≡ n → split n (xs ++ ys) ≡ Ok (xs, ys)
split_is n xs ys same = subst (λ k. split k (xs ++ ys) ≡ Ok (xs, ys)) same
    (ap (λ b. when b Truncated (Ok (take (length xs) (xs ++ ys), drop (length xs) (xs ++ ys)))) (le_test (length xs) (length (xs ++ ys)) (let both = length-append xs ys in omega (arith, both)))
    ∙ ap₂ (λ a b. Ok (a, b)) (take_own xs ys) (drop_own xs ys))

pos_same : (m n : ℕ) → pos m ≡ pos n → m ≡ n
pos_same m n e = omega (arith, ints, e)

-- the length of the header
count_narrow : (n : ℕ) → n < 65536 → from_le_bytes w16 (bytes_of (length_element false) (pos n)) ≡ n
count_narrow n lt =
    let low : pos 0 ≤ℤ pos n = omega (arith, ints) in
    let high : pos n ≤ℤ pos (2 ^ 16 - 1) = omega (arith, ints, lt) in
    pos_same (from_le_bytes w16 (bytes_of (length_element false) (pos n))) n (round_trip (length_element false) (pos n) (record { low = low; high = high }))

count_wide : (n : ℕ) → n < 65536 → from_le_bytes w32 (bytes_of (length_element true) (pos n)) ≡ n
count_wide n lt =
    let low : pos 0 ≤ℤ pos n = omega (arith, ints) in
    let high : pos n ≤ℤ pos (2 ^ 32 - 1) = omega (arith, ints, lt) in
    pos_same (from_le_bytes w32 (bytes_of (length_element true) (pos n))) n (round_trip (length_element true) (pos n) (record { low = low; high = high }))

abbrev pub version_from : Bool → Version
version_from false = First
version_from true = Third

header_bytes_are : (is_wide : Bool) (text elements : List ℕ) → length text < 65536
    → header_bytes (version_from is_wide) (bytes_of (length_element is_wide) (pos (length text)) ++ (text ++ elements)) ≡ Ok (text, elements)
header_bytes_are false text elements lt =
    let count = bytes_of (length_element false) (pos (length text)) in
    ap (λ (r : Result (List ℕ × List ℕ) NpyFault). r >>= λ c. split (from_le_bytes w16 c.0) c.1) (split_is (byte_len w16) count (text ++ elements) (length-bytes_of (length_element false) (pos (length text))))
    ∙ split_is (from_le_bytes w16 count) text elements (sym (count_narrow (length text) lt))
header_bytes_are true text elements lt =
    let count = bytes_of (length_element true) (pos (length text)) in
    ap (λ (r : Result (List ℕ × List ℕ) NpyFault). r >>= λ c. split (from_le_bytes w32 c.0) c.1) (split_is (byte_len w32) count (text ++ elements) (length-bytes_of (length_element true) (pos (length text))))
    ∙ split_is (from_le_bytes w32 count) text elements (sym (count_wide (length text) lt))

module _ (is_wide : Bool) (text elements : List ℕ) (h : Header) (short : length text < 65536) (says : header_of (version_from is_wide) text ≡ Ok h) where
  read_behind : (read_version (writing.version is_wide ++ (bytes_of (length_element is_wide) (pos (length text)) ++ (text ++ elements)))) ≡ elements_in h elements
  read_behind =
      let count = bytes_of (length_element is_wide) (pos (length text)) in
      let v = version_from is_wide in
      ap (λ (r : Result (List ℕ × List ℕ) NpyFault). r >>= λ front. npy.version_in front.0 >>= λ w. header_bytes w front.1 >>= λ x. header_of w x.0 >>= λ y. elements_in y x.1)
      (split_is 2 (writing.version is_wide) (count ++ (text ++ elements)) (two is_wide))
      ∙ ap (λ (r : Result Version NpyFault). r >>= λ w. header_bytes w (count ++ (text ++ elements)) >>= λ x. header_of w x.0 >>= λ y. elements_in y x.1) (version is_wide)
      ∙ ap (λ (r : Result (List ℕ × List ℕ) NpyFault). r >>= λ x. header_of v x.0 >>= λ y. elements_in y x.1) (header_bytes_are is_wide text elements short)
      ∙ ap (λ (r : Result Header NpyFault). r >>= λ y. elements_in y elements) says
    where
      two : (b : Bool) → length (writing.version b) ≡ 2
      two true = refl
      two false = refl

      version : (b : Bool) → npy.version_in (writing.version b) ≡ Ok (version_from b)
      version true = refl
      version false = refl

  pub front_read : read_npy (front_of is_wide text ++ elements) ≡ elements_in h elements
  unfolding read_npy
  front_read =
      let count = bytes_of (length_element is_wide) (pos (length text)) in
      let v = writing.version is_wide in
      let m = writing.magic in
      ap read_npy (append_assoc (m ++ v ++ count) text elements ∙ append_assoc (m ++ v) count (text ++ elements) ∙ append_assoc m v (count ++ (text ++ elements)))
      ∙ read_behind
