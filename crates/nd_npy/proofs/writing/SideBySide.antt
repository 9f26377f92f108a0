-- Numbers side by side are read and written as the bytes that they are.
use Rattle.std.proofs.Common.{◌≡◌, ◌≢◌, ℕ, ℤ, zero, suc, ◌+◌, ◌*◌, ◌<◌, ◌≤◌, List, [], ◌++◌, map, length, take, drop, sym, ap, ap₂, ◌∙◌, arith, append-nil}
use Rattle.std.specs.List.{All, flat_map}
use Rattle.std.proofs.lemmas.List.Elements.{All-take, All-drop}
use Rattle.nd_model.specs.Arrays.Content.{Num, number_at, element_bytes}
use Rattle.nd_model.specs.Arrays.Element.{Boolean, Element, size_of, bytes_of, bytes_at}
use Rattle.nd_model.specs.Arrays.Tuple.{count_up}
use Rattle.nd_model.specs.Arrays.View.{One}
use Rattle.nd_model.proofs.Contents.{numbers_bytes}
use Rattle.nd_model.proofs.Residues.{bytes_round_trip}
use Rattle.nd_block.proofs.Copied.{length-bytes_at}
use Rattle.nd_block.proofs.Together.{bytes_at-split}
use Rattle.nd_element.specs.Elements.{canonical_at}
use Rattle.nd_view.specs.SideBySide.{side_by_side}

number_bytes : (e : Element) (z : ℤ) → element_bytes (One e) (Num z) ≡ bytes_of e z
number_bytes e z = sym (append-nil (element_bytes (One e) (Num z))) ∙ numbers_bytes e [] (λ t. z) ∙ append-nil (bytes_of e z)

module _ (e : Element) (number : e.kind ≢ Boolean) (xs : List ℕ) (small : All (λ b. b < 256) xs) where
  abbrev size : ℕ
  size = size_of e.kind

  own_bytes : (p : ℕ) → p + size ≤ length xs → canonical_at (One e) xs p ≡ bytes_at xs p size
  own_bytes p le =
      number_bytes e (number_at e xs p)
      ∙ bytes_round_trip e (bytes_at xs p size) number (length-bytes_at xs p size le) (All-take (λ b. b < 256) size (drop p xs) (All-drop (λ b. b < 256) p xs small))

  rows : (from j n : ℕ) → from + (j + n) * size ≤ length xs → flat_map (canonical_at (One e) xs) (map (λ k. from + k * size) (count_up j n)) ≡ bytes_at xs (from + j * size) (n * size)
  rows from j zero held = let none : 0 ≡ 0 * size = omega arith in ap (λ k. take k (drop (from + j * size) xs)) none
  rows from j (suc n) held =
      let q = from + j * size in
      let all : (j + suc n) * size ≡ j * size + size + n * size = omega arith in
      let further : (j + 1 + n) * size ≡ (j + suc n) * size = omega arith in
      let there : q + size ≤ length xs = omega (arith, all, held) in
      let next : from + (j + 1) * size ≡ q + size = omega arith in
      let rest : size + n * size ≡ suc n * size = omega arith in
      ap₂ (λ ys zs. ys ++ zs) (own_bytes q there) (rows from (j + 1) n (omega (arith, further, held)) ∙ ap (λ k. bytes_at xs k (n * size)) next)
      ∙ sym (bytes_at-split xs q size (n * size) there) ∙ ap (bytes_at xs q) rest

  pub plain : (ps : List ℕ) (from : ℕ) → ps ≡ side_by_side size from (length ps) → from + length ps * size ≤ length xs → flat_map (canonical_at (One e) xs) ps ≡ bytes_at xs from (length ps * size)
  plain ps from are held =
      let none : (0 + length ps) * size ≡ length ps * size = omega arith in
      let start : from + 0 * size ≡ from = omega arith in
      ap (flat_map (canonical_at (One e) xs)) are ∙ rows from 0 (length ps) (omega (arith, none, held)) ∙ ap (λ k. bytes_at xs k (length ps * size)) start
