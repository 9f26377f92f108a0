-- Elements of a line that a mask selects.
use Rattle.std.proofs.Common.{◌≡◌, ℕ, suc, ◌+◌, ◌-◌, ◌*◌, ◌/◌, ◌%◌, ◌<◌, ◌≤◌, ◌||◌, ◌&&◌, Bool, true, false, not, nat_le, nat_lt, nat_eq, List, ◌∷◌, length, slice_index, take, drop, bit_or, refl, sym, ap, ap₂, ◌∙◌, inl, inr, arith}
use Rattle.std.proofs.Math.Nat.{add-div_right, add-mul-div_right}
use Rattle.std.proofs.lemmas.Nat.{div-mul-add, div_below, le-div}
use Rattle.std.proofs.lemmas.Bool.{cases_Bool, cases_lt}
use Rattle.std.proofs.lemmas.Bool.Decides.{nat_tests}
use Rattle.std.proofs.lemmas.List.{get_or-take, get_or-drop, get_or_past}
use Rattle.nd_marks.specs.Marks.{in_word, in_trues}
use Rattle.nd_marks.proofs.Bits.{in_either}

abbrev pub is_chosen : List ℕ → ℕ → Bool
is_chosen mask k = not (nat_eq (slice_index mask k) 0)

-- the element in which a place is
pub element : (at size x : ℕ) → at * size ≤ x → x < at * size + size → x / size ≡ at
element at size x from to =
    let back : at * size + (x - at * size) ≡ x = omega arith in
    ap (λ n. n / size) (sym back) ∙ div-mul-add at size (x - at * size) (omega arith)

-- one more element of a word
pub word_longer : (mask : List ℕ) (size at word bits i : ℕ)
    → in_word word i ≡ (nat_lt i (at * size) && is_chosen mask (i / size))
    → in_word bits i ≡ (is_chosen mask at && (nat_le (at * size) i && nat_lt i (at * size + size)))
    → in_word (bit_or word bits) i ≡ (nat_lt i ((at + 1) * size) && is_chosen mask (i / size))
word_longer mask size at word bits i before more = in_either word bits i ∙ ap₂ (λ a b. a || b) before more ∙ (elim (cases_lt i (at * size)) [
  | inl lt ↦
      let a : nat_lt i (at * size) ≡ true = grind (arith, nat_tests) in
      let b : nat_le (at * size) i ≡ false = grind (arith, nat_tests) in
      let c : nat_lt i ((at + 1) * size) ≡ true = grind (arith, nat_tests) in
      rw (a, b, c) (grind (arith, nat_tests))
  | inr ge ↦ elim (cases_lt i (at * size + size)) [
    | inl lt ↦
        let here : i / size ≡ at = element at size i ge lt in
        let a : nat_lt i (at * size) ≡ false = grind (arith, nat_tests) in
        let b : nat_le (at * size) i ≡ true = grind (arith, nat_tests) in
        let c : nat_lt i ((at + 1) * size) ≡ true = grind (arith, nat_tests) in
        let d : nat_lt i (at * size + size) ≡ true = grind (arith, nat_tests) in
        rw (a, b, c, d, here) (grind (arith, nat_tests))
    | inr ge' ↦
        let a : nat_lt i (at * size) ≡ false = grind (arith, nat_tests) in
        let c : nat_lt i ((at + 1) * size) ≡ false = grind (arith, nat_tests) in
        let d : nat_lt i (at * size + size) ≡ false = grind (arith, nat_tests) in
        rw (a, c, d) (grind (arith, nat_tests))
  ]
])

-- behind the last element none is chosen
pub none_behind : (mask : List ℕ) (size x : ℕ) → 0 < size → length mask * size ≤ x → is_chosen mask (x / size) ≡ false
none_behind mask size x some from =
    let past : length mask ≤ x / size = le-div (length mask) x size some from in
    let none : slice_index mask (x / size) ≡ 0 = get_or_past mask (x / size) 0 past in
    ap (λ b. not (nat_eq b 0)) none

pub only_inside : (mask : List ℕ) (size x : ℕ) → 0 < size → (nat_lt x (length mask * size) && is_chosen mask (x / size)) ≡ is_chosen mask (x / size)
only_inside mask size x some = elim (cases_lt x (length mask * size)) [
  | inl lt ↦ let a : nat_lt x (length mask * size) ≡ true = grind (arith, nat_tests) in rw a refl
  | inr ge ↦ let a : nat_lt x (length mask * size) ≡ false = grind (arith, nat_tests) in rw a (sym (none_behind mask size x some ge))
]

-- an element is set
pub run_chosen : (mask : List ℕ) (start size at p : ℕ)
    → (is_chosen mask at && (nat_le (start + at * size) p && nat_lt p ((start + at * size) + size)))
    ≡ (nat_le (start + at * size) p && (nat_lt p (start + (at + 1) * size) && in_trues start size mask p))
run_chosen mask start size at p = elim (cases_lt p (start + at * size)) [
  | inl lt ↦ let a : nat_le (start + at * size) p ≡ false = grind (arith, nat_tests) in rw a (grind (arith, nat_tests))
  | inr ge ↦ elim (cases_lt p (start + at * size + size)) [
    | inl lt ↦
        let here : (p - start) / size ≡ at = element at size (p - start) (omega arith) (omega arith) in
        let a : nat_le (start + at * size) p ≡ true = grind (arith, nat_tests) in
        let b : nat_lt p ((start + at * size) + size) ≡ true = grind (arith, nat_tests) in
        let c : nat_lt p (start + (at + 1) * size) ≡ true = grind (arith, nat_tests) in
        let d : nat_le start p ≡ true = grind (arith, nat_tests) in
        rw (a, b, c, d, here) (grind (arith, nat_tests))
    | inr ge' ↦
        let b : nat_lt p ((start + at * size) + size) ≡ false = grind (arith, nat_tests) in
        let c : nat_lt p (start + (at + 1) * size) ≡ false = grind (arith, nat_tests) in
        rw (b, c) (grind (arith, nat_tests))
  ]
]

-- the elements of a word are set
pub word_chosen : (mask : List ℕ) (start size at many p : ℕ) → 0 < size → (start + at * size) % 64 ≡ 0 → many * size ≡ 64
    → (nat_eq (p / 64) ((start + at * size) / 64) && is_chosen (take many (drop at mask)) (p % 64 / size))
    ≡ (nat_le (start + at * size) p && (nat_lt p (start + (at + many) * size) && in_trues start size mask p))
word_chosen mask start size at many p some aligned full =
    let place : ℕ = start + at * size in
    let i : ℕ = p % 64 in
    let whole : 64 * (p / 64) + i ≡ p = omega arith in
    let less : i < 64 = omega arith in
    let begin : 64 * (place / 64) ≡ place = omega (arith, aligned) in
    let end : start + (at + many) * size ≡ place + 64 = omega (arith, full) in
    elim (cases_Bool (nat_eq (p / 64) (place / 64))) [
      | inl same ↦
          let here : p / 64 ≡ place / 64 = grind (arith, nat_tests) in
          let at_p : p ≡ place + i = omega (arith, here, begin, whole) in
          let few : i / size < many = div_below i size many some (omega (arith, full)) in
          let far : p - start ≡ i + at * size = omega (arith, at_p) in
          let number : (p - start) / size ≡ i / size + at = ap (λ n. n / size) far ∙ add-mul-div_right i at some in
          let found : slice_index (take many (drop at mask)) (i / size) ≡ slice_index mask ((p - start) / size)
          = get_or-take many (drop at mask) (i / size) 0 few ∙ get_or-drop at mask (i / size) 0 ∙ ap (slice_index mask) (omega (arith, number)) in
          let a : nat_le place p ≡ true = grind (arith, nat_tests, at_p) in
          let b : nat_lt p (start + (at + many) * size) ≡ true = grind (arith, nat_tests, at_p, end) in
          let d : nat_le start p ≡ true = grind (arith, nat_tests, at_p) in
          rw (same, a, b, d) (ap (λ n. not (nat_eq n 0)) found)
      | inr other ↦ elim (cases_lt p place) [
        | inl lt ↦ let a : nat_le place p ≡ false = grind (arith, nat_tests) in rw (other, a) refl
        | inr ge ↦
            let away : place / 64 < p / 64 = (let ne : p / 64 ≡ place / 64 → place / 64 < p / 64 = λ h. grind (arith, nat_tests) in grind (arith, nat_tests)) in
            let b : nat_lt p (start + (at + many) * size) ≡ false = grind (arith, nat_tests, end, begin, whole) in
            rw (other, b) (grind (arith, nat_tests))
      ]
    ]

-- some elements more
pub trues_longer : (n o w t : Bool) (p a b : ℕ) → a ≤ b → n ≡ (o || (nat_le a p && (nat_lt p b && t))) → o ≡ (w || (nat_lt p a && t)) → n ≡ (w || (nat_lt p b && t))
trues_longer n o w t p a b le step before = step ∙ ap (λ o. o || (nat_le a p && (nat_lt p b && t))) before ∙ (elim (cases_lt p a) [
  | inl lt ↦
      let x : nat_le a p ≡ false = grind (arith, nat_tests) in
      let y : nat_lt p a ≡ true = grind (arith, nat_tests) in
      let z : nat_lt p b ≡ true = grind (arith, nat_tests) in
      rw (x, y, z) (nothing (w || t))
  | inr ge ↦
      let x : nat_le a p ≡ true = grind (arith, nat_tests) in
      let y : nat_lt p a ≡ false = grind (arith, nat_tests) in
      rw (x, y) (ap (λ o. o || (nat_lt p b && t)) (nothing w))
])
  where
    nothing : (n : Bool) → (n || false) ≡ n
    nothing true = refl
    nothing false = refl

-- all elements
pub trues_all : (mask : List ℕ) (start size p : ℕ) → 0 < size → (nat_lt p (start + length mask * size) && in_trues start size mask p) ≡ in_trues start size mask p
trues_all mask start size p some = elim (cases_lt p start) [
  | inl lt ↦ let a : nat_le start p ≡ false = grind (arith, nat_tests) in rw a (grind (arith, nat_tests))
  | inr ge ↦
      let a : nat_le start p ≡ true = grind (arith, nat_tests) in
      let b : nat_lt p (start + length mask * size) ≡ nat_lt (p - start) (length mask * size) = grind (arith, nat_tests) in
      rw (a, b) (only_inside mask size (p - start) some)
]

-- the first element, and those behind it
pub trues_first : (s size b p : ℕ) (mask : List ℕ) → 0 < size
    → in_trues s size (b ∷ mask) p ≡ ((not (nat_eq b 0) && (nat_le s p && nat_lt p (s + size))) || in_trues (s + size) size mask p)
trues_first s size b p mask some = elim (cases_lt p s) [
  | inl lt ↦
      let x : nat_le s p ≡ false = grind (arith, nat_tests) in
      let y : nat_le (s + size) p ≡ false = grind (arith, nat_tests) in
      rw (x, y) (grind (arith, nat_tests))
  | inr ge ↦ elim (cases_lt p (s + size)) [
    | inl lt ↦
        let zero_times : 0 * size ≡ 0 = omega arith in
        let here : (p - s) / size ≡ 0 = element 0 size (p - s) (omega (arith, zero_times)) (omega (arith, zero_times)) in
        let x : nat_le s p ≡ true = grind (arith, nat_tests) in
        let y : nat_le (s + size) p ≡ false = grind (arith, nat_tests) in
        let z : nat_lt p (s + size) ≡ true = grind (arith, nat_tests) in
        rw (x, y, z, here) (grind (arith, nat_tests))
    | inr ge' ↦
        let far : p - s ≡ (p - (s + size)) + size = omega arith in
        let next : (p - s) / size ≡ suc ((p - (s + size)) / size) = ap (λ n. n / size) far ∙ add-div_right (p - (s + size)) some ∙ omega arith in
        let x : nat_le s p ≡ true = grind (arith, nat_tests) in
        let y : nat_le (s + size) p ≡ true = grind (arith, nat_tests) in
        let z : nat_lt p (s + size) ≡ false = grind (arith, nat_tests) in
        rw (x, y, z, next) (grind (arith, nat_tests))
  ]
]
