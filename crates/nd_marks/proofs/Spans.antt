-- Spans of sets, and the bits of their granules.
use Rattle.std.proofs.Common.{◌≡◌, ℕ, zero, suc, ◌+◌, ◌*◌, ◌/◌, ◌%◌, ◌<◌, ◌≤◌, ◌^◌, ◌||◌, true, false, nat_eq, bit_or, max, List, [], ◌∷◌, get_or, length, take, refl, sym, ap, ◌∙◌, inl, inr, arith, w64}
use Rattle.std.specs.Int.{bit_at}
use Rattle.std.proofs.lemmas.Bool.{cases_lt, false≢true}
use Rattle.std.proofs.lemmas.Bool.Decides.{nat_tests}
use Rattle.std.proofs.lemmas.Nat.Bits.{bit_at_or, bit_at-lt, bit_at_ones, bit_at_set_same}
use Rattle.nd_marks.specs.Marks.{Grid, has_bit, in_grid, in_grids, in_word, word_at}
use Rattle.nd_marks.proofs.Grids.{lines_before}
use Rattle.nd_marks.proofs.Strips.{either_way, nested, take_more}

pub in_span : (g : Grid) (e p : ℕ) → ((q : ℕ) → e ≤ q → in_grid g q ≡ false) → in_grid g p ≡ true → (g.strip.first ≤ p) × (p < e)
in_span g e p none h = (
  elim (cases_lt p g.strip.first) [
    | inl lt ↦ absurd (false≢true (sym (lines_before g.strip g.jump g.lines p lt) ∙ h))
    | inr ge ↦ ge
  ],
  elim (cases_lt p e) [
    | inl lt ↦ lt
    | inr ge ↦ absurd (false≢true (sym (none p ge) ∙ h))
  ],
)

pub all_bits : (i : ℕ) → i < 64 → in_word 18446744073709551615 i ≡ true
all_bits i lt = ap (λ b. nat_eq b 1) (bit_at_ones 64 i lt)

-- the bits of a word that are all set
pub full_word : (ps : List (List ℕ)) (at p : ℕ) → at % 64 ≡ 0 → word_at ps (at / 64) ≡ 18446744073709551615 → at ≤ p → p < at + 64 → has_bit ps p ≡ true
full_word ps at p even full from to =
    let here : p / 64 ≡ at / 64 = omega arith in
    let less : p % 64 < 64 = omega arith in
    ap (λ k. in_word (word_at ps k) (p % 64)) here ∙ ap (λ w. in_word w (p % 64)) full ∙ all_bits (p % 64) less

pub bit_stays : (w m i : ℕ) → in_word w i ≡ true → in_word (bit_or w m) i ≡ true
bit_stays w m i h =
    let one : bit_at w i ≡ 1 = grind (arith, nat_tests, h) in
    let both : bit_at (bit_or w m) i ≡ max (bit_at w i) (bit_at m i) = bit_at_or w m i in
    let less : bit_at m i < 2 = bit_at-lt m i in
    let is : bit_at (bit_or w m) i ≡ 1 = omega arith in
    ap (λ b. nat_eq b 1) is

pub bit_comes : (w m i : ℕ) → in_word m i ≡ true → in_word (bit_or w m) i ≡ true
bit_comes w m i h =
    let one : bit_at m i ≡ 1 = grind (arith, nat_tests, h) in
    let both : bit_at (bit_or w m) i ≡ max (bit_at w i) (bit_at m i) = bit_at_or w m i in
    let less : bit_at w i < 2 = bit_at-lt w i in
    let is : bit_at (bit_or w m) i ≡ 1 = omega arith in
    ap (λ b. nat_eq b 1) is

pub bit_here : (w k : ℕ) → k < 64 → in_word (bit_or w (1 * 2 ^ k % 2 ^ 64)) k ≡ true
bit_here w k lt = ap (λ b. nat_eq b 1) (bit_at_set_same w64 w k lt)

pub grids_all : (ss : List Grid) (i p : ℕ) → length ss ≤ i → in_grids (take i ss) p ≡ in_grids ss p
grids_all [] zero p le = refl
grids_all [] (suc i) p le = refl
grids_all (s ∷ ss) zero p le = absurd (omega arith)
grids_all (s ∷ ss) (suc i) p le = ap (λ t. in_grid s p || t) (grids_all ss i p (omega arith))

-- what holds of the places of the grids so far and of one more holds of those with it
pub grid_more : {A : Type 0} (l : Grid) (ss : List Grid) (i : ℕ) (s : Grid) (p : ℕ) → i < length ss → s ≡ get_or ss i s → ((in_grid l p || in_grids (take i ss) p) ≡ true → A) → (in_grid s p ≡ true → A)
    → (in_grid l p || in_grids (take (i + 1) ss) p) ≡ true → A
grid_more l ss i s p lt is old one h = either_way (in_grid l p || in_grids (take i ss) p) (in_grid s p)
    (sym (ap (λ t. in_grid l p || t) (take_more ss i s p lt is) ∙ nested (in_grid l p) (in_grids (take i ss) p) (in_grid s p)) ∙ h) old one
