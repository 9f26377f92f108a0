-- Numbers that keep their bytes.
use Rattle.std.proofs.Common.{◌≡◌, ◌≢◌, ℕ, zero, suc, ◌+◌, ◌*◌, ◌<◌, ◌≤◌, List, ◌++◌, map, length, drop, sym, ap, ◌∙◌, arith}
use Rattle.std.specs.List.{All, flat_map}
use Rattle.std.proofs.lemmas.List.Elements.{All-take, All-drop}
use Rattle.nd_model.specs.Arrays.Content.{number_at}
use Rattle.nd_model.specs.Arrays.Element.{Boolean, Element, size_of, bytes_at}
use Rattle.nd_model.specs.Arrays.Tuple.{count_up}
use Rattle.nd_model.specs.Arrays.View.{One}
use Rattle.nd_model.proofs.Contents.{number_bytes}
use Rattle.nd_model.proofs.Residues.{bytes_round_trip}
use Rattle.nd_block.proofs.Copied.{length-bytes_at}
use Rattle.nd_block.proofs.Together.{bytes_at-split}
use Rattle.nd_element.specs.Elements.{canonical_at}
use Rattle.nd_view.specs.SideBySide.{side_by_side}

module _ (e : Element) (xs : List ℕ) (number : e.kind ≢ Boolean) (small : All (λ b. b < 256) xs) where
  -- one
  pub own_bytes : (p : ℕ) → p + size_of e.kind ≤ length xs → bytes_at xs p (size_of e.kind) ≡ canonical_at (One e) xs p
  own_bytes p le =
      let size = size_of e.kind in
      sym (number_bytes e (number_at e xs p)
      ∙ bytes_round_trip e (bytes_at xs p size) number (length-bytes_at xs p size le) (All-take (λ b. b < 256) size (drop p xs) (All-drop (λ b. b < 256) p xs small)))

  from_number : (p j n : ℕ) → p + (j + n) * size_of e.kind ≤ length xs
      → bytes_at xs (p + j * size_of e.kind) (n * size_of e.kind) ≡ flat_map (canonical_at (One e) xs) (map (λ k. p + k * size_of e.kind) (count_up j n))
  from_number p j zero le = let none : 0 * size_of e.kind ≡ 0 = omega arith in ap (bytes_at xs (p + j * size_of e.kind)) none
  from_number p j (suc n) le =
      let size = size_of e.kind in let q = p + j * size in
      let all : (j + suc n) * size ≡ j * size + size + n * size = omega arith in
      let further : (j + 1 + n) * size ≡ (j + suc n) * size = omega arith in
      let here : q + size ≤ length xs = omega (arith, le, all) in
      let next : q + size ≡ p + (j + 1) * size = omega arith in
      let more : suc n * size ≡ size + n * size = omega arith in
      ap (bytes_at xs q) more ∙ bytes_at-split xs q size (n * size) here
      ∙ ap (λ k. bytes_at xs q size ++ bytes_at xs k (n * size)) next
      ∙ (λ i. own_bytes q here i ++ from_number p (j + 1) n (omega (arith, le, further)) i)

  -- the bytes of contiguous elements are those of each in order
  pub side_by_side_bytes : (p n : ℕ) → p + n * size_of e.kind ≤ length xs
      → bytes_at xs p (n * size_of e.kind) ≡ flat_map (canonical_at (One e) xs) (side_by_side (size_of e.kind) p n)
  side_by_side_bytes p n le =
      let size = size_of e.kind in
      let first : p ≡ p + 0 * size = omega arith in let all : (0 + n) * size ≡ n * size = omega arith in
      ap (λ k. bytes_at xs k (n * size)) first ∙ from_number p 0 n (omega (arith, le, all))
