-- Numbers that stay in their type, byte by byte.
use Rattle.std.proofs.Common.{◌≡◌, ◌≢◌, ℕ, ℤ, zero, suc, ◌+◌, ◌-◌, ◌*◌, ◌<◌, ◌≤◌, List, [], ◌∷◌, ◌++◌, map, length, take, drop, get_or, refl, sym, ap, ◌∙◌, subst, arith, append-nil, append_assoc, Fits, w8}
use Rattle.std.specs.List.{All}
use Rattle.std.proofs.lemmas.List.{take-append-drop, drop-drop, get_or-map}
use Rattle.std.proofs.lemmas.List.Elements.{All-take, All-drop}
use borrow.Rule.Slice.PartMut.{put_mid}
use Rattle.nd_model.specs.Arrays.Content.{number_at, writes, all_writes}
use Rattle.nd_model.specs.Arrays.Element.{Kind, Boolean, Element, width_of, size_of, residue, bytes_in, bytes_of, bytes_at, with_bytes, wrap}
use Rattle.nd_model.specs.Cells.Session.{put}
use Rattle.nd_model.specs.Arrays.Tuple.{count_up}
use Rattle.nd_model.specs.Arrays.View.{One}
use Rattle.nd_model.proofs.Puts.{put-append}
use Rattle.nd_model.proofs.Residues.{one_wrap, bytes_round_trip}
use Rattle.nd_block.proofs.Copied.{length-bytes_at, length-with_bytes}
use Rattle.nd_block.proofs.Together.{bytes_at-split, with_bytes-twice}
use Rattle.nd_view.proofs.Tuples.{length-count_up, get_or-count_up}
use Rattle.nd_assign.specs.Copies.{copied_content, with_copies}
use Rattle.nd_view.specs.SideBySide.{side_by_side}
use Rattle.nd_assign.proofs.Copied.{number_put}

-- contiguous elements that lie inside len bytes end inside them all together
pub end_held : (ps : List ℕ) (size first len : ℕ) → 0 < length ps → ps ≡ side_by_side size first (length ps) → All (λ p. p + size ≤ len) ps → first + length ps * size ≤ len
end_held ps size first len some are all =
    let n = length ps in let last : n - 1 < n = omega (arith, some) in
    let in_order : n - 1 < length (count_up 0 n) = omega (arith, length-count_up 0 n, last) in
    let here : get_or ps (n - 1) 0 ≡ first + (n - 1) * size
    = ap (λ l. get_or l (n - 1) 0) are ∙ get_or-map (λ k. first + k * size) (count_up 0 n) (n - 1) 0 0 in_order ∙ ap (λ k. first + k * size) (get_or-count_up 0 n (n - 1) 0 last ∙ omega arith) in
    let end : get_or ps (n - 1) 0 + size ≤ len = all (n - 1) 0 last in
    let whole : (n - 1) * size + size ≤ len - first = omega (arith, here, end) in
    let count : n * size ≡ (n - 1) * size + size = counts n size some in
    omega (arith, here, end, count)
  where
    counts : (n size : ℕ) → 0 < n → n * size ≡ (n - 1) * size + size
    counts zero size lt = absurd (omega arith)
    counts (suc n) size lt = let back : suc n - 1 ≡ n = omega arith in omega arith ∙ sym (ap (λ k. k * size + size) back)

-- a byte is below 256
pub small_bytes : (xs : List ℕ) → ((k : ℕ) → Fits w8 (get_or xs k 0)) → All (λ b. b < 256) xs
small_bytes xs fits k d lt = let here : get_or xs k 0 < 256 = omega (arith, fits k) in subst (λ b. b < 256) (any_default xs k 0 d lt) here
  where
    any_default : (ys : List ℕ) (j e f : ℕ) → j < length ys → get_or ys j e ≡ get_or ys j f
    any_default [] j e f lt = absurd (omega arith)
    any_default (y ∷ ys) zero e f lt = refl
    any_default (y ∷ ys) (suc j) e f lt = any_default ys j e f (omega arith)

-- bytes are written to a part
pub put_bytes : (a n : ℕ) (xs ys : List ℕ) → length ys ≡ n → put_mid a n xs ys ≡ with_bytes xs a ys
put_bytes a n xs ys long =
    sym (append_assoc (take a xs) ys (drop n (drop a xs))) ∙ ap (λ l. (take a xs ++ ys) ++ l) (drop-drop n a xs ∙ ap (λ j. drop (a + j) xs) (sym long))

with_bytes-none : (xs : List ℕ) (p : ℕ) → with_bytes xs p [] ≡ xs
with_bytes-none xs p = let same : p + 0 ≡ p = omega arith in ap (λ k. take p xs ++ [] ++ drop k xs) same ∙ ap (λ l. l ++ drop p xs) (append-nil (take p xs)) ∙ take-append-drop p xs

residue_of_wrap : (k : Kind) (z : ℤ) → k ≢ Boolean → residue (width_of k) (wrap k z) ≡ residue (width_of k) z
residue_of_wrap k z number = ((one_wrap k z (wrap k z) number).0 refl).1

module _ (e : Element) (number : e.kind ≢ Boolean) (xs : List ℕ) (small : All (λ b. b < 256) xs) where
  abbrev size : ℕ
  size = size_of e.kind

  -- the bytes of a number stay
  same_bytes : (q : ℕ) → q + size ≤ length xs → bytes_of e (wrap e.kind (number_at e xs q)) ≡ bytes_at xs q size
  same_bytes q le =
      ap (bytes_in (width_of e.kind) e.big) (residue_of_wrap e.kind (number_at e xs q) number)
      ∙ bytes_round_trip e (bytes_at xs q size) number (length-bytes_at xs q size le) (All-take (λ b. b < 256) size (drop q xs) (All-drop (λ b. b < 256) q xs small))

  one : (p q : ℕ) (out : List ℕ) → p + size ≤ length out → q + size ≤ length xs → put (writes (One e) p (copied_content (One e) (One e) xs q)) out ≡ with_bytes out p (bytes_at xs q size)
  one p q out room held = sym (number_put e (wrap e.kind (number_at e xs q)) p out room) ∙ ap (with_bytes out p) (same_bytes q held)

  copies : (to from j n : ℕ) (out : List ℕ) → to + (j + n) * size ≤ length out → from + (j + n) * size ≤ length xs
      → with_copies (One e) (One e) xs (map (λ k. to + k * size) (count_up j n)) (map (λ k. from + k * size) (count_up j n)) out ≡ with_bytes out (to + j * size) (bytes_at xs (from + j * size) (n * size))
  copies to from j zero out room held =
      let none : 0 * size ≡ 0 = omega arith in
      sym (with_bytes-none out (to + j * size)) ∙ ap (λ k. with_bytes out (to + j * size) (bytes_at xs (from + j * size) k)) (sym none)
  copies to from j (suc n) out room held =
      let p = to + j * size in let q = from + j * size in
      let all : (j + suc n) * size ≡ j * size + size + n * size = omega arith in
      let further : (j + 1 + n) * size ≡ (j + suc n) * size = omega arith in
      let here : p + size ≤ length out = omega (arith, all, room) in let there : q + size ≤ length xs = omega (arith, all, held) in
      let b = bytes_at xs q size in let new = with_bytes out p b in
      let long : length b ≡ size = length-bytes_at xs q size there in
      let kept : length new ≡ length out = length-with_bytes out p b (omega (arith, here, long)) in
      let next_p : to + (j + 1) * size ≡ p + length b = omega (arith, long) in let next_q : from + (j + 1) * size ≡ q + size = omega arith in
      let rest : size + n * size ≡ suc n * size = omega arith in
      put-append (writes (One e) p (copied_content (One e) (One e) xs q)) (all_writes (One e) (map (λ k. to + k * size) (count_up (j + 1) n)) (map (copied_content (One e) (One e) xs) (map (λ k. from + k * size) (count_up (j + 1) n)))) out
      ∙ ap (with_copies (One e) (One e) xs (map (λ k. to + k * size) (count_up (j + 1) n)) (map (λ k. from + k * size) (count_up (j + 1) n))) (one p q out here there)
      ∙ copies to from (j + 1) n new (omega (arith, further, room, kept)) (omega (arith, further, held))
      ∙ ap (λ k. with_bytes new (to + (j + 1) * size) (bytes_at xs k (n * size))) next_q
      ∙ with_bytes-twice out p b (bytes_at xs (q + size) (n * size)) (to + (j + 1) * size) next_p (omega (arith, here, long))
      ∙ ap (with_bytes out p) (sym (bytes_at-split xs q size (n * size) there) ∙ ap (bytes_at xs q) rest)

  -- of all of a run
  pub bytewise : (ps qs : List ℕ) (to from : ℕ) (out : List ℕ) → length qs ≡ length ps → ps ≡ side_by_side size to (length ps) → qs ≡ side_by_side size from (length qs)
      → to + length ps * size ≤ length out → from + length ps * size ≤ length xs
      → with_copies (One e) (One e) xs ps qs out ≡ with_bytes out to (bytes_at xs from (length ps * size))
  bytewise ps qs to from out same are from_are room held =
      let none : (0 + length ps) * size ≡ length ps * size = omega arith in
      let p : to + 0 * size ≡ to = omega arith in let q : from + 0 * size ≡ from = omega arith in
      (λ i. with_copies (One e) (One e) xs (are i) ((from_are ∙ ap (side_by_side size from) same) i) out)
      ∙ copies to from 0 (length ps) out (omega (arith, none, room)) (omega (arith, none, held))
      ∙ (λ i. with_bytes out (p i) (bytes_at xs (q i) (length ps * size)))
