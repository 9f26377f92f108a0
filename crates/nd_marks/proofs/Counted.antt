-- Bits of one page among those of all, and how many are set.
use Rattle.std.proofs.Common.{◌≡◌, ℕ, zero, suc, ◌+◌, ◌-◌, ◌*◌, ◌/◌, ◌%◌, ◌^◌, ◌<◌, ◌≤◌, ◌⊎◌, Bool, true, false, nat_eq, List, [], ◌++◌, Vec, get_or, length, length-append, min, slice_index, refl, sym, ap, ap₂, ◌∙◌, inl, inr, arith, count_ones}
use Rattle.std.specs.Global.{Global}
use Rattle.std.specs.List.{filter}
use Rattle.std.specs.Int.{bit_at}
use lib.Count.{ones-le, ones_step}
use Rattle.std.proofs.lemmas.Bool.{cases_Bool, cases_lt}
use Rattle.std.proofs.lemmas.Bool.Decides.{nat_tests}
use Rattle.std.proofs.lemmas.Nat.Bits.{bit_at-zero, bit_at_lowest}
use Rattle.std.proofs.lemmas.List.Elements.{filter-append}
use Rattle.nd_model.specs.Arrays.Tuple.{count_up}
use Rattle.nd_view.proofs.Tuples.{count_up-append}
use Rattle.nd_marks.specs.Kept.{bits_left}
use Rattle.nd_marks.specs.Marks.{has_bit, in_page, in_word, page_at, pages_of}
use Rattle.nd_marks.proofs.Paging.{length-pages_of, page_here, past_page}
use Rattle.nd_marks.proofs.Walks.{bits_step, none_set, shifted}

-- a bit of the page of this index
pub page_bit : (ps : List (List ℕ)) (k i : ℕ) → i < 32768 → has_bit ps (k * 32768 + i) ≡ in_page (page_at ps k) i
page_bit ps k i lt =
    let page : (k * 32768 + i) / 64 / 512 ≡ k = omega arith in
    let word : (k * 32768 + i) / 64 % 512 ≡ i / 64 = omega arith in
    let bit : (k * 32768 + i) % 64 ≡ i % 64 = omega arith in
    ap₂ (λ n b. in_word (slice_index (page_at ps n) ((k * 32768 + i) / 64 % 512)) b) page bit
    ∙ ap (λ q. in_word (slice_index (page_at ps k) q) (i % 64)) word

-- the next bits of a page are the next of all
pub page_found : (ps : List (List ℕ)) (at from to : ℕ) → at < length ps * 32768 → at % 32768 ≤ from → from ≤ to → to ≤ 32768
    → ((i : ℕ) → at % 32768 ≤ i → i < from → in_page (page_at ps (at / 32768)) i ≡ false)
    → ((i : ℕ) → from ≤ i → i < to → in_page (page_at ps (at / 32768)) i ≡ true)
    → bits_left ps at ≡ count_up (at / 32768 * 32768 + from) (to - from) ++ bits_left ps (at / 32768 * 32768 + to)
page_found ps at from to inside a b c unset set =
    let low : ℕ = at / 32768 * 32768 in
    let width : low + to - (low + from) ≡ to - from = omega arith in
    bits_step (has_bit ps) (length ps * 32768) at (low + from) (low + to) (omega arith) (omega arith) (omega arith)
    (λ i lo hi. bit (i - low) i (omega arith) (omega arith) ∙ unset (i - low) (omega arith) (omega arith))
    (λ i lo hi. bit (i - low) i (omega arith) (omega arith) ∙ set (i - low) (omega arith) (omega arith))
    ∙ ap (λ n. count_up (low + from) n ++ bits_left ps (low + to)) width
  where
    bit : (i p : ℕ) → at / 32768 * 32768 + i ≡ p → i < 32768 → has_bit ps p ≡ in_page (page_at ps (at / 32768)) i
    bit i p is lt = ap (has_bit ps) (sym is) ∙ page_bit ps (at / 32768) i lt

-- as many pass a test as pass the one at numbers that lie elsewhere
filter_moved : (f g : ℕ → Bool) (a b n : ℕ) → ((i : ℕ) → i < n → f (a + i) ≡ g (b + i)) → length (filter f (count_up a n)) ≡ length (filter g (count_up b n))
filter_moved f g a b zero same = refl
filter_moved f g a b (suc n) same =
    let x : a + 0 ≡ a = omega arith in
    let y : b + 0 ≡ b = omega arith in
    let here : f a ≡ g b = sym (ap f x) ∙ same 0 (omega arith) ∙ ap g y in
    let rest = filter_moved f g (a + 1) (b + 1) n (λ i lt.
    let p : a + (i + 1) ≡ a + 1 + i = omega arith in
    let q : b + (i + 1) ≡ b + 1 + i = omega arith in
    sym (ap f p) ∙ same (i + 1) (omega arith) ∙ ap g q) in
    elim (cases_Bool (g b)) [
      | inl yes' ↦ rw (here ∙ yes', yes') (ap suc rest)
      | inr no' ↦ rw (here ∙ no', no') rest
    ]

-- one part of the numbers behind another
filter_parted : (f : ℕ → Bool) (m n : ℕ) → length (filter f (count_up 0 (m + n))) ≡ length (filter f (count_up 0 m)) + length (filter f (count_up m n))
filter_parted f m n =
    let e : 0 + m ≡ m = omega arith in
    ap (λ xs. length (filter f xs)) (count_up-append 0 m n ∙ ap (λ q. count_up 0 m ++ count_up q n) e)
    ∙ ap length (filter-append f (count_up 0 m) (count_up m n))
    ∙ length-append (filter f (count_up 0 m)) (filter f (count_up m n))

-- how many bits of a word are set
pub word_ones : (k w : ℕ) → w < 2 ^ k → count_ones w ≡ length (filter (in_word w) (count_up 0 k))
word_ones zero w lt = let le = ones-le 0 w lt in omega (arith, le)
word_ones (suc k) w lt =
    let half : w / 2 < 2 ^ k = omega (arith, lt) in
    let low : in_word w 0 ≡ nat_eq (w % 2) 1 = ap (λ b. nat_eq b 1) (bit_at_lowest w) in
    let rest : length (filter (in_word w) (count_up 1 k)) ≡ length (filter (in_word (w / 2)) (count_up 0 k))
    = filter_moved (in_word w) (in_word (w / 2)) 1 0 k (λ i less. let e : 0 + i ≡ i = omega arith in ap (λ b. nat_eq b 1) (sym (shifted w 1 i)) ∙ ap (in_word (w / 2)) (sym e)) in
    elim (cases_Bool (nat_eq (w % 2) 1)) [
      | inl odd ↦ ones_step w ∙ rw (low ∙ odd) (more odd (word_ones k (w / 2) half ∙ sym rest))
      | inr even ↦ ones_step w ∙ rw (low ∙ even) (same even (word_ones k (w / 2) half ∙ sym rest))
    ]
  where
    more : nat_eq (w % 2) 1 ≡ true → count_ones (w / 2) ≡ length (filter (in_word w) (count_up 1 k)) → w % 2 + count_ones (w / 2) ≡ suc (length (filter (in_word w) (count_up 1 k)))
    more odd is = let e : w % 2 ≡ 1 = grind (arith, nat_tests) in omega (arith, e, is)

    same : nat_eq (w % 2) 1 ≡ false → count_ones (w / 2) ≡ length (filter (in_word w) (count_up 1 k)) → w % 2 + count_ones (w / 2) ≡ length (filter (in_word w) (count_up 1 k))
    same even is = let e : w % 2 ≡ 0 = grind (arith, nat_tests) in omega (arith, e, is)

-- the bits of one word more of a page
pub words_counted : (ws : List ℕ) (k : ℕ) → slice_index ws k < 2 ^ 64
    → length (filter (in_page ws) (count_up 0 ((k + 1) * 64))) ≡ length (filter (in_page ws) (count_up 0 (k * 64))) + count_ones (slice_index ws k)
words_counted ws k fits =
    let e : (k + 1) * 64 ≡ k * 64 + 64 = omega arith in
    ap (λ n. length (filter (in_page ws) (count_up 0 n))) e ∙ filter_parted (in_page ws) (k * 64) 64
    ∙ ap (λ n. length (filter (in_page ws) (count_up 0 (k * 64))) + n)
    (filter_moved (in_page ws) (in_word (slice_index ws k)) (k * 64) 0 64 (λ i lt.
    let word : (k * 64 + i) / 64 ≡ k = omega arith in
    let bit : (k * 64 + i) % 64 ≡ 0 + i = omega arith in
    ap₂ (λ q b. in_word (slice_index ws q) b) word bit)
    ∙ sym (word_ones 64 (slice_index ws k) fits))

-- a page has no more bits than those of its words
pub page_counted : (ws : List ℕ) (n : ℕ) → n ≡ min (length ws) 512 → length (filter (in_page ws) (count_up 0 (n * 64))) ≡ length (filter (in_page ws) (count_up 0 32768))
page_counted ws n is =
    let e : n * 64 + (32768 - n * 64) ≡ 32768 = omega (arith, is) in
    let none : filter (in_page ws) (count_up (n * 64) (32768 - n * 64)) ≡ [] = none_set (in_page ws) (n * 64) (32768 - n * 64) (λ i lo hi.
    let past : slice_index ws (i / 64) ≡ 0 = past_page ws (i / 64) (omega (arith, is, lo, hi)) in
    ap (λ w. in_word w (i % 64)) past ∙ ap (λ b. nat_eq b 1) (bit_at-zero (i % 64))) in
    let m : ℕ = length (filter (in_page ws) (count_up 0 (n * 64))) in
    let z : m + 0 ≡ m = omega arith in
    sym (sym (ap (λ k. length (filter (in_page ws) (count_up 0 k))) e) ∙ filter_parted (in_page ws) (n * 64) (32768 - n * 64) ∙ ap (λ xs. m + length xs) none ∙ z)

-- the bits of one page more
pub pages_counted : (vs : List (Vec ℕ Global)) (k : ℕ) (v : Vec ℕ Global) → k < length vs → v ≡ get_or vs k v
    → length (filter (has_bit (pages_of vs)) (count_up 0 ((k + 1) * 32768))) ≡ length (filter (has_bit (pages_of vs)) (count_up 0 (k * 32768))) + length (filter (in_page v.items) (count_up 0 32768))
pages_counted vs k v lt is =
    let ps : List (List ℕ) = pages_of vs in
    let e : (k + 1) * 32768 ≡ k * 32768 + 32768 = omega arith in
    let page : page_at ps k ≡ v.items = page_here vs k v lt ∙ ap (λ (u : Vec ℕ Global). u.items) (sym is) in
    ap (λ n. length (filter (has_bit ps) (count_up 0 n))) e ∙ filter_parted (has_bit ps) (k * 32768) 32768
    ∙ ap (λ n. length (filter (has_bit ps) (count_up 0 (k * 32768))) + n)
    (filter_moved (has_bit ps) (in_page v.items) (k * 32768) 0 32768 (λ i less.
    let z : i ≡ 0 + i = omega arith in
    page_bit ps k i less ∙ ap₂ (λ ws j. in_page ws j) page z))

-- a sum that is cut off twice
pub sum_cut : (a b old sum new most n : ℕ) → old ≡ min a most → sum ≡ min (b + old) (2 ^ 64 - 1) → new ≡ min sum most → most < 2 ^ 64 → n ≡ a + b → new ≡ min n most
sum_cut a b old sum new most n was saturated cut fits is = omega (arith, was, saturated, cut, fits, is)
