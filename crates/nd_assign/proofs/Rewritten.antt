-- The bytes of a block that is overwritten by numbers.
use Rattle.std.proofs.Common.{◌≡◌, ◌≢◌, ℕ, ℤ, zero, suc, ◌+◌, ◌-◌, ◌*◌, ◌<◌, ◌≤◌, List, [], ◌∷◌, ◌++◌, map, length, take, drop, replicate, sym, ap, ◌∙◌, arith, append-nil, append_assoc, length-append, drop_of_length-le}
use Rattle.std.specs.List.{All}
use Rattle.std.proofs.lemmas.List.{length-map, length-replicate, take-append-le}
use Rattle.std.proofs.Math.Nat.{mul-le-mul_right}
use Rattle.std.proofs.Math.Seq.{take-length, take-append-add}
use Rattle.nd_model.specs.Arrays.Content.{number_at, writes, all_writes}
use Rattle.nd_model.specs.Arrays.Element.{Boolean, Element, size_of, bytes_at, bytes_of, with_bytes, wrap}
use Rattle.nd_model.specs.Arrays.Tuple.{count_up}
use Rattle.nd_model.specs.Arrays.View.{One}
use Rattle.nd_model.proofs.Puts.{put-append}
use Rattle.nd_model.proofs.Values.{length-bytes_of}
use Rattle.nd_block.proofs.Copied.{length-bytes_at, length-with_bytes}
use Rattle.nd_view.specs.SideBySide.{side_by_side}
use Rattle.nd_view.proofs.Tuples.{length-count_up}
use Rattle.nd_convert.specs.Conversion.Converted.{converted_bytes}
use Rattle.nd_convert.proofs.conversion.Written.{place_more}
use Rattle.nd_assign.specs.Copies.{copied_content, with_copies}
use Rattle.nd_assign.proofs.Bytewise.{bytewise}
use Rattle.nd_assign.proofs.Copied.{number_put}

module _ (to from : Element) (bytes : List ℕ) where
  abbrev size : ℕ
  size = size_of to.kind

  abbrev value : ℕ → ℤ
  value q = wrap to.kind (number_at from bytes q)

  -- what is written from element j on, behind what stands before it
  over : (j : ℕ) (qs out : List ℕ) → length out ≡ (j + length qs) * size
      → with_copies (One to) (One from) bytes (map (λ k. 0 + k * size) (count_up j (length qs))) qs out ≡ take (j * size) out ++ converted_bytes to from bytes qs
  over j [] out long =
      let all : length out ≡ j * size = long ∙ omega arith in
      sym (take-length out) ∙ ap (λ n. take n out) all ∙ sym (append-nil (take (j * size) out))
  over j (q ∷ qs) out long =
      let p = 0 + j * size in let ys = bytes_of to (value q) in
      let wide : length ys ≡ size = length-bytes_of to (value q) in
      let all : (j + suc (length qs)) * size ≡ j * size + size + length qs * size = omega arith in
      let further : (j + 1 + length qs) * size ≡ (j + suc (length qs)) * size = omega arith in
      let room : p + size ≤ length out = omega (arith, long, all) in
      let new = with_bytes out p ys in
      let kept : length new ≡ length out = length-with_bytes out p ys (omega (arith, room, wide)) in
      let next : (j + 1) * size ≡ p + length ys = omega (arith, wide) in
      let at : p ≡ j * size = omega arith in
      put-append (writes (One to) p (copied_content (One to) (One from) bytes q)) (all_writes (One to) (map (λ k. 0 + k * size) (count_up (j + 1) (length qs))) (map (copied_content (One to) (One from) bytes) qs)) out
      ∙ ap (with_copies (One to) (One from) bytes (map (λ k. 0 + k * size) (count_up (j + 1) (length qs))) qs) (sym (number_put to (value q) p out room))
      ∙ over (j + 1) qs new (kept ∙ long ∙ sym further)
      ∙ ap (λ l. l ++ converted_bytes to from bytes qs) (place_more out ys (take (j * size) out) ((j + 1) * size) p (omega (arith, room)) next (ap (λ n. take n out) at))
      ∙ append_assoc (take (j * size) out) ys (converted_bytes to from bytes qs)

  -- all bytes are those of the numbers
  pub overwritten : (ps qs old : List ℕ) → length qs ≡ length ps → ps ≡ side_by_side size 0 (length ps) → length old ≡ length ps * size
      → with_copies (One to) (One from) bytes ps qs old ≡ converted_bytes to from bytes qs
  overwritten ps qs old same are long =
      let many : length old ≡ (0 + length qs) * size = long ∙ ap (λ n. n * size) (sym same) ∙ omega arith in
      let none : 0 * size ≡ 0 = omega arith in
      (λ i. with_copies (One to) (One from) bytes ((are ∙ ap (side_by_side size 0) (sym same)) i) qs old)
      ∙ over 0 qs old many ∙ ap (λ n. take n old ++ converted_bytes to from bytes qs) none

  length-converted : (qs : List ℕ) → length (converted_bytes to from bytes qs) ≡ length qs * size
  length-converted [] = omega arith
  length-converted (q ∷ qs) =
      let wide : length (bytes_of to (value q)) ≡ size = length-bytes_of to (value q) in
      omega (arith, length-append (bytes_of to (value q)) (converted_bytes to from bytes qs), wide, length-converted qs)

  -- of numbers that are equal, some more behind others
  equal_more : (m n q : ℕ) → converted_bytes to from bytes (replicate m q) ++ converted_bytes to from bytes (replicate n q) ≡ converted_bytes to from bytes (replicate (m + n) q)
  equal_more zero n q = let same : n ≡ 0 + n = omega arith in ap (λ k. converted_bytes to from bytes (replicate k q)) same
  equal_more (suc m) n q =
      let next : suc (m + n) ≡ suc m + n = omega arith in
      append_assoc (bytes_of to (value q)) (converted_bytes to from bytes (replicate m q)) (converted_bytes to from bytes (replicate n q))
      ∙ ap (λ l. bytes_of to (value q) ++ l) (equal_more m n q) ∙ ap (λ k. converted_bytes to from bytes (replicate k q)) next

  -- the first m of them
  equal_front : (m n q : ℕ) → m ≤ n → take (m * size) (converted_bytes to from bytes (replicate n q)) ≡ converted_bytes to from bytes (replicate m q)
  equal_front zero n q le = let none : 0 * size ≡ 0 = omega arith in ap (λ k. take k (converted_bytes to from bytes (replicate n q))) none
  equal_front (suc m) zero q le = absurd (omega arith)
  equal_front (suc m) (suc n) q le =
      let ys = bytes_of to (value q) in let rest = converted_bytes to from bytes (replicate n q) in
      let wide : length ys ≡ size = length-bytes_of to (value q) in
      let more : suc m * size ≡ length ys + m * size = omega (arith, wide) in
      ap (λ k. take k (ys ++ rest)) more ∙ take-append-add ys rest (m * size) ∙ ap (λ l. ys ++ l) (equal_front m n q (omega (arith, le)))

  module _ (q some next m : ℕ) (few : next ≤ some) (bytes_are : m ≡ next * size) (part : List ℕ) (is : part ≡ converted_bytes to from bytes (replicate some q)) where
    -- the front of a chunk, whatever stands behind it
    front : (tail : List ℕ) → take m (part ++ tail) ≡ converted_bytes to from bytes (replicate next q)
    front tail =
        let long : length part ≡ some * size = ap length is ∙ length-converted (replicate some q) ∙ ap (λ n. n * size) (length-replicate some q) in
        let less : next * size ≤ some * size = mul-le-mul_right size few in
        take-append-le m part tail (omega (arith, long, less, bytes_are)) ∙ (λ i. take (bytes_are i) (is i)) ∙ equal_front next some q few

    -- a chunk more
    pub chunk_more : (left : ℕ) (out tail new whole : List ℕ) → next ≤ left → new ≡ out ++ take m (part ++ tail) → out ++ converted_bytes to from bytes (replicate left q) ≡ whole
        → new ++ converted_bytes to from bytes (replicate (left - next) q) ≡ whole
    chunk_more left out tail new whole le pushed all =
        let rest = left - next in let back : next + rest ≡ left = omega (arith, le) in
        ap (λ l. l ++ converted_bytes to from bytes (replicate rest q)) (pushed ∙ ap (λ l. out ++ l) (front tail))
        ∙ append_assoc out (converted_bytes to from bytes (replicate next q)) (converted_bytes to from bytes (replicate rest q))
        ∙ ap (λ l. out ++ l) (equal_more next rest q ∙ ap (λ k. converted_bytes to from bytes (replicate k q)) back) ∙ all

    -- the bytes that are left behind it
    pub chunk_less : (left a b : ℕ) (tail : List ℕ) → next ≤ left → a + length (take m (part ++ tail)) ≡ b → b ≡ left * size → a ≡ (left - next) * size
    chunk_less left a b tail le pushed all =
        let long : length (take m (part ++ tail)) ≡ next * size = ap length (front tail) ∙ length-converted (replicate next q) ∙ ap (λ n. n * size) (length-replicate next q) in
        let back : (next + (left - next)) * size ≡ left * size = ap (λ n. n * size) (omega (arith, le)) in
        let split : (next + (left - next)) * size ≡ next * size + (left - next) * size = omega arith in
        omega (arith, pushed, all, long, back, split)

-- numbers that keep their type and their places are their bytes
pub kept : (e : Element) (bytes qs : List ℕ) (from : ℕ) → e.kind ≢ Boolean → All (λ b. b < 256) bytes → qs ≡ side_by_side (size_of e.kind) from (length qs)
    → from + length qs * size_of e.kind ≤ length bytes → bytes_at bytes from (length qs * size_of e.kind) ≡ converted_bytes e e bytes qs
kept e bytes qs from number small are held =
    let s = size_of e.kind in let m = length qs * s in let ps = side_by_side s 0 (length qs) in let out : List ℕ = replicate m 0 in
    let many : length ps ≡ length qs = length-map (count_up 0 (length qs)) (λ k. 0 + k * s) ∙ length-count_up 0 (length qs) in
    let own : ps ≡ side_by_side s 0 (length ps) = ap (side_by_side s 0) (sym many) in
    let all : length ps * s ≡ m = ap (λ n. n * s) many in
    let long : length out ≡ m = length-replicate m 0 in
    let ys = bytes_at bytes from m in
    let wide : length ys ≡ m = length-bytes_at bytes from m held in
    let none : drop (0 + length ys) out ≡ [] = drop_of_length-le out {i = 0 + length ys} (omega (arith, long, wide)) in
    sym (sym (overwritten e e bytes ps qs out (sym many) own (long ∙ sym all))
    ∙ bytewise e number bytes small ps qs 0 from out (sym many) own are (omega (arith, all, long)) (omega (arith, all, held))
    ∙ ap (λ n. with_bytes out 0 (bytes_at bytes from n)) all
    ∙ ap (λ l. ys ++ l) none ∙ append-nil ys)
