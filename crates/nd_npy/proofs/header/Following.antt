-- Bytes behind a file are ignored.
use Rattle.std.proofs.Common.{◌≡◌, ℕ, ◌*◌, ◌≤◌, Bool, true, false, List, ◌++◌, length, take, drop, refl, ap, ◌∙◌, arith, append_assoc, length-append}
use Rattle.std.specs.Prelude.{nat_le, nat_eq, Result, Ok, Err}
use Rattle.std.specs.Int.{byte_len, from_le_bytes}
use Rattle.std.specs.List.{starts_with}
use Rattle.std.proofs.lemmas.List.{take-append-le, drop-append-le}
use Rattle.std.proofs.lemmas.Bool.Decides.{nat_tests, Decides-eqb}
use Rattle.std.proofs.lemmas.Slice.Eq.{starts_is}
use Rattle.nd_model.specs.Formats.NpyFault.{NpyFault, BadMagic, Truncated}
use Rattle.nd_model.specs.Formats.NpyHeader.{Header}
use Rattle.nd_model.specs.Formats.NpyReading.{NpyArray, Version, when, split, magic, behind_magic, version_in, length_width, header_bytes, header_of, array_of, elements_in, read_version, read_npy}
use Rattle.nd_model.specs.Grammar.Predict.{◌>>=◌}
use Rattle.nd_model.specs.Arrays.Tuple.{elements_of}
use Rattle.nd_model.specs.Arrays.View.{item_size}
use Rattle.nd_npy.specs.Header.Following.{RestIsIgnored}

-- what is read is a first step, and what comes next
step_of : {A B : Type 0} (r : Result A NpyFault) (f : A → Result B NpyFault) (y : B) → (r >>= f) ≡ Ok y → (x : A) × (r ≡ Ok x) × (f x ≡ Ok y)
step_of (Ok x) f y e = (x, refl, e)
step_of (Err fault) f y e = absurd cc

join : {A B : Type 0} (r : Result A NpyFault) (f : A → Result B NpyFault) (x : A) (y : B) → r ≡ Ok x → f x ≡ Ok y → (r >>= f) ≡ Ok y
join r f x y e h = ap (λ q. q >>= f) e ∙ h

test_holds : {A : Type 0} (b : Bool) (fault : NpyFault) (x y : A) → when b fault (Ok x) ≡ Ok y → (b ≡ true) × (x ≡ y)
test_holds true fault x y e = (refl, cc)
test_holds false fault x y e = absurd cc

module _ (rest : List ℕ) where
  abbrev with_rest : List ℕ × List ℕ → List ℕ × List ℕ
  with_rest parts = (parts.0, parts.1 ++ rest)

  split_more : (n : ℕ) (bytes : List ℕ) (parts : List ℕ × List ℕ) → split n bytes ≡ Ok parts → split n (bytes ++ rest) ≡ Ok (with_rest parts)
  split_more n bytes parts e =
      let test = test_holds (nat_le n (length bytes)) Truncated (take n bytes, drop n bytes) parts e in
      let held : n ≤ length bytes = at_most n (length bytes) test.0 in
      let wide : nat_le n (length (bytes ++ rest)) ≡ true = is_at_most n (length (bytes ++ rest)) (omega (arith, length-append bytes rest)) in
      ap (λ b. when b Truncated (Ok (take n (bytes ++ rest), drop n (bytes ++ rest)))) wide
      ∙ (λ i. Ok (take-append-le n bytes rest held i, drop-append-le n bytes rest held i)) ∙ ap (λ parts. Ok (with_rest parts)) test.1
    where
      at_most : (m n : ℕ) → nat_le m n ≡ true → m ≤ n
      at_most m n e = grind (arith, nat_tests)

      is_at_most : (m n : ℕ) → m ≤ n → nat_le m n ≡ true
      is_at_most m n le = grind (arith, nat_tests)

  magic_more : (bytes behind : List ℕ) → behind_magic bytes ≡ Ok behind → behind_magic (bytes ++ rest) ≡ Ok (behind ++ rest)
  magic_more bytes behind e =
      let test = test_holds (starts_with nat_eq bytes magic) BadMagic (drop 6 bytes) behind e in
      let front : bytes ≡ magic ++ drop 6 bytes = (starts_is Decides-eqb bytes magic _ refl).0 test.0 in
      let long : 6 ≤ length bytes = omega (arith, ap length front, length-append magic (drop 6 bytes)) in
      let stands : starts_with nat_eq (bytes ++ rest) magic ≡ true = (starts_is Decides-eqb (bytes ++ rest) magic _ refl).1 (drop 6 bytes ++ rest) (ap (λ l. l ++ rest) front ∙ append_assoc magic (drop 6 bytes) rest) in
      ap (λ b. when b BadMagic (Ok (drop 6 (bytes ++ rest)))) stands ∙ ap Ok (drop-append-le 6 bytes rest long ∙ ap (λ l. l ++ rest) test.1)

  header_more : (v : Version) (bytes : List ℕ) (parts : List ℕ × List ℕ) → header_bytes v bytes ≡ Ok parts → header_bytes v (bytes ++ rest) ≡ Ok (with_rest parts)
  header_more v bytes parts e =
      let f : List ℕ × List ℕ → Result (List ℕ × List ℕ) NpyFault = λ count. split (from_le_bytes (length_width v) count.0) count.1 in
      let count = step_of (split (byte_len (length_width v)) bytes) f parts e in
      join (split (byte_len (length_width v)) (bytes ++ rest)) f (with_rest count.0) (with_rest parts) (split_more (byte_len (length_width v)) bytes count.0 count.1)
      (split_more (from_le_bytes (length_width v) (count.0).0) (count.0).1 parts count.2)

  elements_more : (h : Header) (bytes : List ℕ) (a : NpyArray) → elements_in h bytes ≡ Ok a → elements_in h (bytes ++ rest) ≡ Ok a
  unfolding elements_in
  elements_more h bytes a e =
      let n = elements_of h.shape * item_size h.element in
      let f : List ℕ × List ℕ → Result NpyArray NpyFault = λ elements. Ok (array_of h elements.0) in
      let elements = step_of (split n bytes) f a e in
      join (split n (bytes ++ rest)) f (with_rest elements.0) a (split_more n bytes elements.0 elements.1) elements.2

  behind_header : (v : Version) (parts : List ℕ × List ℕ) (a : NpyArray) → (header_of v parts.0 >>= λ h. elements_in h parts.1) ≡ Ok a
      → (header_of v parts.0 >>= λ h. elements_in h (parts.1 ++ rest)) ≡ Ok a
  behind_header v parts a e =
      let h = step_of (header_of v parts.0) (λ h. elements_in h parts.1) a e in
      join (header_of v parts.0) (λ h. elements_in h (parts.1 ++ rest)) h.0 a h.1 (elements_more h.0 parts.1 a h.2)

  abbrev of_header : Version → List ℕ × List ℕ → Result NpyArray NpyFault
  of_header v parts = header_of v parts.0 >>= λ h. elements_in h parts.1

  behind_version : (v : Version) (bytes : List ℕ) (a : NpyArray) → (header_bytes v bytes >>= of_header v) ≡ Ok a → (header_bytes v (bytes ++ rest) >>= of_header v) ≡ Ok a
  behind_version v bytes a e =
      let parts = step_of (header_bytes v bytes) (of_header v) a e in
      join (header_bytes v (bytes ++ rest)) (of_header v) (with_rest parts.0) a (header_more v bytes parts.0 parts.1) (behind_header v parts.0 a parts.2)

  abbrev of_version : List ℕ × List ℕ → Result NpyArray NpyFault
  of_version front = version_in front.0 >>= λ v. header_bytes v front.1 >>= of_header v

  version_more : (bytes : List ℕ) (a : NpyArray) → read_version bytes ≡ Ok a → read_version (bytes ++ rest) ≡ Ok a
  version_more bytes a e =
      let front = step_of (split 2 bytes) of_version a e in
      let v = step_of (version_in (front.0).0) (λ v. header_bytes v (front.0).1 >>= of_header v) a front.2 in
      join (split 2 (bytes ++ rest)) of_version (with_rest front.0) a (split_more 2 bytes front.0 front.1)
      (join (version_in (front.0).0) (λ v. header_bytes v ((front.0).1 ++ rest) >>= of_header v) v.0 a v.1 (behind_version v.0 (front.0).1 a v.2))

pub rest_is_ignored : RestIsIgnored
unfolding read_npy
rest_is_ignored bytes rest a e =
    let behind = step_of (behind_magic bytes) read_version a e in
    join (behind_magic (bytes ++ rest)) read_version (behind.0 ++ rest) a (magic_more rest bytes behind.0 behind.1) (version_more rest behind.0 a behind.2)
