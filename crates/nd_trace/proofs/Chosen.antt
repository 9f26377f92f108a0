-- Elements that a mask selects of a contiguous line.
use Rattle.std.proofs.Common.{◌≡◌, ℕ, ◌+◌, ◌*◌, ◌^◌, ◌<◌, ◌≤◌, ◌||◌, ◌&&◌, Bool, nat_le, nat_lt, List, [], ◌∷◌, length, map, pos, sym, ap, ap₂, ◌∙◌, inl, inr, arith}
use Rattle.std.proofs.Math.Nat.{mul-le-mul_left}
use Rattle.std.specs.List.{flat_map}
use Rattle.std.proofs.lemmas.Bool.{cases_Bool}
use Rattle.std.proofs.lemmas.Bool.Decides.{nat_tests}
use Rattle.std.proofs.lemmas.Int.{ints}
use Rattle.nd_model.specs.Cells.Session.{is_in}
use Rattle.nd_model.specs.Arrays.Tuple.{count_up}
use Rattle.nd_model.specs.Indexing.Advanced.{true_numbers}
use Rattle.nd_places.specs.Near.{is_true, place_on_line, trues_in}
use Rattle.nd_marks.specs.Marks.{in_trues}
use Rattle.nd_marks.proofs.Chosen.{trues_first}
use Rattle.nd_marks.proofs.Ranges.{is_in-count_up, is_in-append}

on_row : (start size k : ℕ) → start + k * size < 2 ^ 64 → place_on_line (pos start) (pos size) k ≡ start + k * size
on_row start size k few = grind (arith, ints, nat_tests)

pub row_trues : (start size first p : ℕ) (mask : List ℕ) → 0 < size → start + (first + length mask) * size ≤ 2 ^ 64
    → is_in p (flat_map (λ q. count_up q size) (map (place_on_line (pos start) (pos size)) (trues_in first mask))) ≡ in_trues (start + first * size) size mask p
row_trues start size first p [] some few = grind (arith, nat_tests)
row_trues start size first p (b ∷ mask) some few =
    let F : List ℕ → List ℕ = flat_map (λ q. count_up q size) in
    let G : List Bool → Bool = λ ts. is_in p (F (map (place_on_line (pos start) (pos size)) (true_numbers first ts))) in
    let s : ℕ = start + first * size in
    let up : start + (first + 1) * size ≡ s + size = omega arith in
    let fewer : start + ((first + 1) + length mask) * size ≤ 2 ^ 64 = omega arith in
    let rest = row_trues start size (first + 1) p mask some fewer ∙ ap (λ s. in_trues s size mask p) up in
    elim (cases_Bool (is_true b)) [
      | inl sure ↦
          let here : place_on_line (pos start) (pos size) first ≡ s = on_row start size first (omega arith) in
          ap (λ t. G (t ∷ map is_true mask)) sure
          ∙ is_in-append p (count_up (place_on_line (pos start) (pos size) first) size) _
          ∙ ap₂ (λ a b. a || b) (ap (λ q. is_in p (count_up q size)) here ∙ is_in-count_up p s size) rest
          ∙ ap (λ t. (t && (nat_le s p && nat_lt p (s + size))) || in_trues (s + size) size mask p) (sym sure)
          ∙ sym (trues_first s size b p mask some)
      | inr none ↦
          ap (λ t. G (t ∷ map is_true mask)) none ∙ rest
          ∙ ap (λ t. (t && (nat_le s p && nat_lt p (s + size))) || in_trues (s + size) size mask p) (sym none)
          ∙ sym (trues_first s size b p mask some)
    ]

-- a line within the limits of arrays
pub row_near : (start size count : ℕ) → start ≤ 2 ^ 61 → size ≤ 8 → count ≤ 2 ^ 24 → start + (0 + count) * size ≤ 2 ^ 64
row_near start size count near small few =
    let most : count * size ≤ count * 8 = mul-le-mul_left count small in
    omega (arith, most)
