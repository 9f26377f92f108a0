-- The bytes of numbers that are no Booleans are those of their contents.
use Rattle.std.proofs.Common.{◌≡◌, ◌≢◌, ℕ, zero, suc, ◌+◌, ◌*◌, ◌<◌, ◌≤◌, List, [], ◌∷◌, ◌++◌, map, length, drop, get_or, refl, sym, ap, ap₂, subst, ◌∙◌, arith, Fits, w8}
use Rattle.std.specs.Prelude.{true, false}
use Rattle.std.specs.List.{All, flat_map}
use Rattle.std.proofs.lemmas.List.{length-map}
use Rattle.std.proofs.lemmas.List.Elements.{All-take, All-drop}
use Rattle.std.proofs.Math.Seq.{take-length}
use Rattle.nd_model.specs.Arrays.Content.{number_at}
use Rattle.nd_model.specs.Arrays.Element.{Kind, Boolean, Element, size_of, bytes_at}
use Rattle.nd_model.specs.Arrays.Tuple.{count_up, elements_of}
use Rattle.nd_model.specs.Arrays.View.{ElementType, One, Structure, item_size, contiguous}
use Rattle.nd_model.proofs.Contents.{number_bytes}
use Rattle.nd_model.proofs.Residues.{bytes_round_trip}
use Rattle.nd_block.proofs.Copied.{length-bytes_at}
use Rattle.nd_block.proofs.Together.{bytes_at-split}
use Rattle.nd_element.specs.Elements.{canonical_at}
use Rattle.nd_convert.proofs.conversion.InOrder.{copied_block}
use Rattle.nd_view.proofs.Tuples.{length-count_up}
use Rattle.nd_npy.specs.Header.Gives.{is_plain, is_plain_kind, elements_block}

-- a byte is below 256
small_bytes : (xs : List ℕ) → ((k : ℕ) → Fits w8 (get_or xs k 0)) → All (λ b. b < 256) xs
small_bytes xs fits k d lt = let here : get_or xs k 0 < 256 = omega (arith, fits k) in subst (λ b. b < 256) (any_default xs k 0 d lt) here
  where
    any_default : (ys : List ℕ) (j e f : ℕ) → j < length ys → get_or ys j e ≡ get_or ys j f
    any_default [] j e f lt = absurd (omega arith)
    any_default (y ∷ ys) zero e f lt = refl
    any_default (y ∷ ys) (suc j) e f lt = any_default ys j e f (omega arith)

no_boolean : (k : Kind) → is_plain_kind k ≡ true → k ≢ Boolean
no_boolean k plain is = let test : is_plain_kind k ≡ false = ap is_plain_kind is in cc

module _ (e : Element) (number : e.kind ≢ Boolean) (xs : List ℕ) (small : All (λ b. b < 256) xs) where
  abbrev size : ℕ
  size = size_of e.kind

  one : (p : ℕ) → p + size ≤ length xs → canonical_at (One e) xs p ≡ bytes_at xs p size
  one p held =
      number_bytes e (number_at e xs p)
      ∙ bytes_round_trip e (bytes_at xs p size) number (length-bytes_at xs p size held) (All-take (λ b. b < 256) size (drop p xs) (All-drop (λ b. b < 256) p xs small))

  all : (from n : ℕ) → (from + n) * size ≤ length xs → flat_map (canonical_at (One e) xs) (map (λ k. k * size) (count_up from n)) ≡ bytes_at xs (from * size) (n * size)
  all from zero held = let none : 0 * size ≡ 0 = omega arith in ap (bytes_at xs (from * size)) (sym none)
  all from (suc n) held =
      let sum : (from + suc n) * size ≡ from * size + size + n * size = omega arith in
      let here : from * size + size ≤ length xs = omega (arith, sum, held) in
      let next : (from + 1) * size ≡ from * size + size = omega arith in
      let further : (from + 1 + n) * size ≡ (from + suc n) * size = omega arith in
      let rest : size + n * size ≡ suc n * size = omega arith in
      ap₂ (λ a b. a ++ b) (one (from * size) here) (all (from + 1) n (omega (arith, further, held)) ∙ ap (λ p. bytes_at xs p (n * size)) next)
      ∙ sym (bytes_at-split xs (from * size) size (n * size) here) ∙ ap (bytes_at xs (from * size)) rest

  block : (shape : List ℕ) → length xs ≡ elements_of shape * size → xs ≡ elements_block (One e) false shape xs
  block shape long =
      let n = elements_of shape in let places = (contiguous (One e) shape).places in
      let none : 0 * size ≡ 0 = omega arith in let count : (0 + n) * size ≡ n * size = omega arith in
      sym (all 0 n (omega (arith, long, count)) ∙ (λ i. bytes_at xs (none i) (sym long i)) ∙ take-length xs)
      ∙ copied_block (One e) shape xs places (length-map (count_up 0 n) (λ k. k * size) ∙ length-count_up 0 n)

-- the block of numbers is their bytes
pub plain_block : (t : ElementType) (shape xs : List ℕ) → is_plain t ≡ true → ((k : ℕ) → Fits w8 (get_or xs k 0)) → length xs ≡ elements_of shape * item_size t
    → xs ≡ elements_block t false shape xs
plain_block (One e) shape xs plain fits long = block e (no_boolean e.kind plain) xs (small_bytes xs fits) shape long
plain_block (Structure fields size) shape xs plain fits long = absurd cc
