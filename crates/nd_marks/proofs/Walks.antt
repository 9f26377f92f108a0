-- Walks over the places of a set, and the bytes that are kept of them.
use Rattle.std.proofs.Common.{◌≡◌, ℕ, zero, suc, ◌+◌, ◌-◌, ◌*◌, ◌/◌, ◌%◌, ◌^◌, ◌<◌, ◌≤◌, ◌||◌, ◌&&◌, ◌⊎◌, Bool, true, false, nat_le, nat_lt, nat_eq, List, [], ◌∷◌, ◌++◌, append_assoc, Some, None, cond, drop, take, get_or, length, length-append, map, min, slice_index, refl, sym, ap, ap₂, ◌∙◌, inl, inr, arith, w64}
use Rattle.std.specs.List.{filter}
use Rattle.std.specs.Int.{bit_at, trailing_ones, trailing_zeros}
use Rattle.std.proofs.Math.Nat.{div-div-eq-div-mul, div-eq_of_lt, div-le_self}
use Rattle.std.proofs.lemmas.Nat.{pow-add}
use Rattle.std.proofs.lemmas.Nat.Bits.{bit_at-zero, bit_at-trailing_zeros, bit_at-trailing_ones, bit_at_ones}
use Rattle.std.proofs.lemmas.Bool.{cases_Bool, cases_lt, false≢true}
use Rattle.std.proofs.lemmas.Bool.Decides.{nat_tests}
use Rattle.std.proofs.Common.{add-one, unwrap_or}
use Rattle.std.specs.Cmp.Lexicographic.{pointwise}
use Rattle.std.proofs.Math.Dec.{eqb}
use Rattle.std.proofs.lemmas.Bool.Decides.{Decides-eqb}
use Rattle.std.proofs.lemmas.Slice.Eq.{slice_eq-Decides}
use Rattle.std.proofs.lemmas.List.{append-nil, map-append, length-map, get_or-take, get_or-drop, ext_get_or, places, take_at, drop_at}
use Rattle.std.proofs.lemmas.Option.{cond_some}
use borrow.Rule.Slice.PartMut.{put_mid}
use Rattle.std.proofs.lemmas.List.Elements.{filter-append}
use Rattle.nd_model.specs.Arrays.Tuple.{count_up}
use Rattle.nd_model.specs.Cells.Session.{is_in}
use Rattle.nd_view.proofs.Tuples.{count_up-append}
use Rattle.nd_marks.specs.Kept.{grids_places, line_places, lines_left, row_places, rows_left, bits_left, places_in, byte_for, byte_of, kept_at, KeptData}
use Rattle.nd_marks.specs.Marks.{Grid, Places, Strip, has_bit, holds, in_grid, in_grids, in_lines, in_rows, in_strip, in_word, moved, word_at}
use Rattle.nd_marks.proofs.Paging.{no_bit, no_word}
use Rattle.nd_marks.proofs.Ranges.{is_in-count_up, is_in-append}
use Rattle.nd_marks.proofs.Grids.{lines_front, moved_none, moved_twice}
use Rattle.nd_marks.proofs.Strips.{front}

-- ---- rows

pub length-count_up : (a n : ℕ) → length (count_up a n) ≡ n
length-count_up a zero = refl
length-count_up a (suc n) = ap suc (length-count_up (a + 1) n)

pub length-row_places : (f w s n : ℕ) → length (row_places f w s n) ≡ n * w
length-row_places f w s zero = let e : 0 * w ≡ 0 = omega arith in sym e
length-row_places f w s (suc n) = let m : suc n * w ≡ w + n * w = omega arith in
    length-append (count_up f w) (row_places (f + s) w s n) ∙ ap₂ (λ a b. a + b) (length-count_up f w) (length-row_places (f + s) w s n) ∙ sym m

pub length-rows_left : (s : Strip) → length (rows_left s 0) ≡ s.count * s.width
length-rows_left s = length-row_places (s.first + 0 * s.step) s.width s.step (s.count - 0) ∙ (let e : s.count - 0 ≡ s.count = omega arith in ap (λ n. n * s.width) e)

no_rows : (f s n : ℕ) → row_places f 0 s n ≡ []
no_rows f s zero = refl
no_rows f s (suc n) = no_rows (f + s) s n

pub row_none : (s : Strip) (row : ℕ) → s.count ≤ row → rows_left s row ≡ []
row_none s row le = let e : s.count - row ≡ 0 = omega arith in rw e refl

pub row_empty : (s : Strip) (row : ℕ) → s.width ≡ 0 → rows_left s row ≡ []
row_empty s row e = rw e (no_rows (s.first + row * s.step) s.step (s.count - row))

pub row_next : (s : Strip) (row : ℕ) → row < s.count → rows_left s row ≡ count_up (s.first + row * s.step) s.width ++ rows_left s (row + 1)
row_next s row lt =
    let e : s.count - row ≡ suc (s.count - (row + 1)) = omega arith in
    let m : s.first + row * s.step + s.step ≡ s.first + (row + 1) * s.step = (let d : (row + 1) * s.step ≡ row * s.step + s.step = omega arith in omega arith) in
    ap (row_places (s.first + row * s.step) s.width s.step) e ∙ ap (λ q. count_up (s.first + row * s.step) s.width ++ row_places q s.width s.step (s.count - (row + 1))) m

-- some rows, and those behind them
rows_parted : (first width step n m : ℕ) → row_places first width step (n + m) ≡ row_places first width step n ++ row_places (first + n * step) width step m
rows_parted first width step zero m =
    let same : first ≡ first + 0 * step = omega arith in let all : 0 + m ≡ m = omega arith in
    ap (row_places first width step) all ∙ ap (λ p. row_places p width step m) same
rows_parted first width step (suc n) m =
    let all : suc n + m ≡ suc (n + m) = omega arith in
    let behind : first + step + n * step ≡ first + suc n * step = omega arith in
    ap (row_places first width step) all
    ∙ ap (λ xs. count_up first width ++ xs) (rows_parted (first + step) width step n m)
    ∙ sym (append_assoc (count_up first width) (row_places (first + step) width step n) (row_places (first + step + n * step) width step m))
    ∙ ap (λ p. (count_up first width ++ row_places (first + step) width step n) ++ row_places p width step m) behind

-- the last of some rows
pub rows_end : (first width step n : ℕ) → row_places first width step (n + 1) ≡ row_places first width step n ++ count_up (first + n * step) width
rows_end first width step n =
    rows_parted first width step n 1 ∙ ap (λ xs. row_places first width step n ++ xs) (append-nil (count_up (first + n * step) width))

in_row_places : (f w s n p : ℕ) → is_in p (row_places f w s n) ≡ in_rows f w s n p
in_row_places f w s zero p = refl
in_row_places f w s (suc n) p = is_in-append p (count_up f w) (row_places (f + s) w s n) ∙ ap₂ (λ a b. a || b) (is_in-count_up p f w) (in_row_places (f + s) w s n p) ∙ sym (front f w s n p)

in_rows_left : (s : Strip) (p : ℕ) → is_in p (rows_left s 0) ≡ in_strip s p
in_rows_left s p = in_row_places (s.first + 0 * s.step) s.width s.step (s.count - 0) p
    ∙ (let e : s.first + 0 * s.step ≡ s.first = (let z : 0 * s.step ≡ 0 = omega arith in omega arith) in let f : s.count - 0 ≡ s.count = omega arith in ap₂ (λ a n. in_rows a s.width s.step n p) e f)

-- ---- lines

pub line_next : (g : Grid) (line : ℕ) (s : Strip) → line < g.lines → s ≡ moved g.strip (line * g.jump) → lines_left g line ≡ rows_left s 0 ++ lines_left g (line + 1)
line_next g line s lt is =
    let e : g.lines - line ≡ suc (g.lines - (line + 1)) = omega arith in
    let d : line * g.jump + g.jump ≡ (line + 1) * g.jump = omega arith in
    ap (line_places (moved g.strip (line * g.jump)) g.jump) e
    ∙ ap₂ (λ s t. rows_left s 0 ++ line_places t g.jump (g.lines - (line + 1))) (sym is) (moved_twice g.strip (line * g.jump) g.jump ∙ ap (moved g.strip) d)

length-line_places : (s : Strip) (j n : ℕ) → length (line_places s j n) ≡ n * (s.count * s.width)
length-line_places s j zero = let e : 0 * (s.count * s.width) ≡ 0 = omega arith in sym e
length-line_places s j (suc n) =
    let m : suc n * (s.count * s.width) ≡ s.count * s.width + n * (s.count * s.width) = omega arith in
    length-append (rows_left s 0) (line_places (moved s j) j n) ∙ ap₂ (λ a b. a + b) (length-rows_left s) (length-line_places (moved s j) j n) ∙ sym m

pub length-lines_left : (g : Grid) → length (lines_left g 0) ≡ g.lines * (g.strip.count * g.strip.width)
length-lines_left g = length-line_places (moved g.strip (0 * g.jump)) g.jump (g.lines - 0) ∙ (let e : g.lines - 0 ≡ g.lines = omega arith in ap (λ n. n * (g.strip.count * g.strip.width)) e)

-- products of numbers that are cut off
pub saturated : (n k most : ℕ) → min (n * min k most) most ≡ min (n * k) most
saturated zero k most = let a : 0 * min k most ≡ 0 = omega arith in let b : 0 * k ≡ 0 = omega arith in ap (λ m. min m most) (a ∙ sym b)
saturated (suc n) k most =
    let a : suc n * min k most ≡ n * min k most + min k most = omega arith in
    let b : suc n * k ≡ n * k + k = omega arith in
    let rest = saturated n k most in
    omega arith

in_line_places : (s : Strip) (j n p : ℕ) → is_in p (line_places s j n) ≡ in_lines s j n p
in_line_places s j zero p = refl
in_line_places s j (suc n) p =
    is_in-append p (rows_left s 0) (line_places (moved s j) j n) ∙ ap₂ (λ a b. a || b) (in_rows_left s p) (in_line_places (moved s j) j n p) ∙ sym (lines_front s j n p)

in_lines_left : (g : Grid) (p : ℕ) → is_in p (lines_left g 0) ≡ in_grid g p
in_lines_left g p =
    let z : 0 * g.jump ≡ 0 = omega arith in
    let n : g.lines - 0 ≡ g.lines = omega arith in
    in_line_places (moved g.strip (0 * g.jump)) g.jump (g.lines - 0) p ∙ ap₂ (λ s n. in_lines s g.jump n p) (moved_none g.strip (0 * g.jump) z) n

in_grids_places : (gs : List Grid) (p : ℕ) → is_in p (grids_places gs) ≡ in_grids gs p
in_grids_places [] p = refl
in_grids_places (g ∷ gs) p = is_in-append p (lines_left g 0) (grids_places gs) ∙ ap₂ (λ a b. a || b) (in_lines_left g p) (in_grids_places gs p)

-- ---- bits

pub none_set : (f : ℕ → Bool) (a n : ℕ) → ((i : ℕ) → a ≤ i → i < a + n → f i ≡ false) → filter f (count_up a n) ≡ []
none_set f a zero h = refl
none_set f a (suc n) h = rw (h a (omega arith) (omega arith)) (none_set f (a + 1) n (λ i from to. h i (omega arith) (omega arith)))

all_set : (f : ℕ → Bool) (a n : ℕ) → ((i : ℕ) → a ≤ i → i < a + n → f i ≡ true) → filter f (count_up a n) ≡ count_up a n
all_set f a zero h = refl
all_set f a (suc n) h = rw (h a (omega arith) (omega arith)) (ap (λ ps. a ∷ ps) (all_set f (a + 1) n (λ i from to. h i (omega arith) (omega arith))))

pub bits_step : (f : ℕ → Bool) (end at from to : ℕ) → at ≤ from → from ≤ to → to ≤ end → ((i : ℕ) → at ≤ i → i < from → f i ≡ false) → ((i : ℕ) → from ≤ i → i < to → f i ≡ true)
    → filter f (count_up at (end - at)) ≡ count_up from (to - from) ++ filter f (count_up to (end - to))
bits_step f end at from to a b c unset set =
    let e : end - at ≡ (from - at) + ((to - from) + (end - to)) = omega arith in
    let g : at + (from - at) ≡ from = omega arith in
    let h : from + (to - from) ≡ to = omega arith in
    ap (λ n. filter f (count_up at n)) e
    ∙ ap (filter f) (count_up-append at (from - at) ((to - from) + (end - to)) ∙ ap (λ q. count_up at (from - at) ++ count_up q ((to - from) + (end - to))) g)
    ∙ filter-append f (count_up at (from - at)) (count_up from ((to - from) + (end - to)))
    ∙ ap₂ (λ xs ys. xs ++ ys) (none_set f at (from - at) (λ i lo hi. unset i lo (omega arith)))
    (ap (filter f) (count_up-append from (to - from) (end - to) ∙ ap (λ q. count_up from (to - from) ++ count_up q (end - to)) h)
    ∙ filter-append f (count_up from (to - from)) (count_up to (end - to))
    ∙ ap (λ xs. xs ++ filter f (count_up to (end - to))) (all_set f from (to - from) (λ i lo hi. set i lo (omega arith))))

pub bits_none : (ps : List (List ℕ)) (at : ℕ) → length ps * 32768 ≤ at → bits_left ps at ≡ []
bits_none ps at le = let e : length ps * 32768 - at ≡ 0 = omega arith in rw e refl

in_filter : (f : ℕ → Bool) (xs : List ℕ) (p : ℕ) → is_in p (filter f xs) ≡ (f p && is_in p xs)
in_filter f [] p = none (f p)
  where
    none : (b : Bool) → false ≡ (b && false)
    none true = refl
    none false = refl
in_filter f (x ∷ xs) p = more (cases_Bool (nat_eq p x)) (cases_Bool (f x)) (in_filter f xs p)
  where
    more : (nat_eq p x ≡ true) ⊎ (nat_eq p x ≡ false) → (f x ≡ true) ⊎ (f x ≡ false) → is_in p (filter f xs) ≡ (f p && is_in p xs) → is_in p (filter f (x ∷ xs)) ≡ (f p && is_in p (x ∷ xs))
    more (inl same) (inl set) rest = let e : p ≡ x = grind (arith, nat_tests) in rw (set, same) (rw (ap f e ∙ set) refl)
    more (inl same) (inr unset) rest = let e : p ≡ x = grind (arith, nat_tests) in rw unset (rest ∙ rw (ap f e ∙ unset) refl)
    more (inr other) (inl set) rest = rw (set, other) rest
    more (inr other) (inr unset) rest = rw (unset, other) rest

in_bits_left : (ps : List (List ℕ)) (p : ℕ) → is_in p (bits_left ps 0) ≡ has_bit ps p
in_bits_left ps p = in_filter (has_bit ps) (count_up 0 (length ps * 32768 - 0)) p ∙ ap (λ t. has_bit ps p && t) (is_in-count_up p 0 (length ps * 32768 - 0)) ∙ elim (cases_lt p (length ps * 32768)) [
  | inl lt ↦ let t : (nat_le 0 p && nat_lt p (0 + (length ps * 32768 - 0))) ≡ true = grind (arith, nat_tests) in rw t (yes (has_bit ps p))
  | inr ge ↦
      let k : length ps ≤ p / 64 / 512 = omega arith in
      let none : has_bit ps p ≡ false = no_bit ps p (no_word ps (p / 64) k) in
      rw none refl
]
  where
    yes : (b : Bool) → (b && true) ≡ b
    yes true = refl
    yes false = refl

-- THE LAW OF WALKS: the places of a walk are those of the set
pub in_places : (m : Places) (p : ℕ) → is_in p (places_in m) ≡ holds m p
in_places m p = is_in-append p (lines_left m.last 0) (grids_places m.grids ++ bits_left m.pages 0)
    ∙ ap₂ (λ a b. a || b) (in_lines_left m.last p) (is_in-append p (grids_places m.grids) (bits_left m.pages 0) ∙ ap₂ (λ a b. a || b) (in_grids_places m.grids p) (in_bits_left m.pages p))
    ∙ either (in_grid m.last p) (in_grids m.grids p) (has_bit m.pages p)
  where
    either : (a b c : Bool) → (a || (b || c)) ≡ ((a || b) || c)
    either true b c = refl
    either false b c = refl

-- ---- bits of a word

pub shifted : (w k i : ℕ) → bit_at (w / 2 ^ k) i ≡ bit_at w (k + i)
shifted w k i = ap (λ q. q % 2) (div-div-eq-div-mul w (2 ^ k) (2 ^ i) ∙ ap (λ d. w / d) (sym (pow-add 2 k i)))

pub high_bit : (w i : ℕ) → w < 2 ^ 64 → 64 ≤ i → bit_at w i ≡ 0
high_bit w i lt le =
    let e : 64 + (i - 64) ≡ i = omega arith in
    ap (bit_at w) (sym e) ∙ sym (shifted w 64 (i - 64)) ∙ ap (λ q. bit_at q (i - 64)) (div-eq_of_lt lt) ∙ bit_at-zero (i - 64)

pub low_word : (w i : ℕ) → w < 2 ^ 64 → in_word w i ≡ true → i < 64
low_word w i lt set = elim (cases_lt i 64) [
  | inl less ↦ less
  | inr ge ↦ absurd (false≢true (sym (ap (λ b. nat_eq b 1) (high_bit w i lt ge)) ∙ set))
]

-- ---- bytes of places

pub byte_found : (f : ℕ → ℕ) (ps : List ℕ) (p : ℕ) → is_in p ps ≡ true → byte_for ps (map f ps) p ≡ f p
byte_found f [] p h = absurd (false≢true h)
byte_found f (q ∷ qs) p h = elim (cases_Bool (nat_eq p q)) [
  | inl same ↦ let e : p ≡ q = grind (arith, nat_tests) in rw same (ap f (sym e))
  | inr other ↦ rw other (byte_found f qs p (ap (λ t. t || is_in p qs) (sym other) ∙ h))
]

map_same : (f g : ℕ → ℕ) (ps : List ℕ) → ((p : ℕ) → is_in p ps ≡ true → f p ≡ g p) → map f ps ≡ map g ps
map_same f g [] h = refl
map_same f g (q ∷ qs) h = ap₂ (λ x xs. x ∷ xs) (h q (let s : nat_eq q q ≡ true = grind (arith, nat_tests) in rw s refl)) (map_same f g qs (λ p among. h p (later (nat_eq p q) among)))
  where
    later : {t : Bool} (b : Bool) → t ≡ true → (b || t) ≡ true
    later true h = refl
    later false h = h

-- bytes from one block are a function of the place
pub kept_of_block : (f : ℕ → ℕ) (ps bs : List ℕ) → bs ≡ map f ps → bs ≡ map (byte_for ps bs) ps
kept_of_block f ps bs is = is ∙ map_same f (byte_for ps bs) ps (λ p among. sym (ap (λ xs. byte_for ps xs p) is ∙ byte_found f ps p among))

-- ---- the next bits of a word

pub zeros_before : (w k z : ℕ) → w < 2 ^ 64 → k < 64 → (w / 2 ^ k ≡ 0 → ⊥) → z ≡ trailing_zeros w64 (w / 2 ^ k)
    → (in_word w (k + z) ≡ true) × ((i : ℕ) → k ≤ i → i < k + z → in_word w i ≡ false)
zeros_before w k z fits less some is =
    let small : w / 2 ^ k < 2 ^ 64 = (let le : w / 2 ^ k ≤ w = div-le_self w (2 ^ k) in omega arith) in
    let found = bit_at-trailing_zeros w64 (w / 2 ^ k) (not_zero (w / 2 ^ k) some) small in (
      ap (λ b. nat_eq b 1) (ap (λ n. bit_at w (k + n)) is ∙ sym (shifted w k (trailing_zeros w64 (w / 2 ^ k))) ∙ found.1),
      λ i from to.
          let back : k + (i - k) ≡ i = omega arith in
          let lt : i - k < trailing_zeros w64 (w / 2 ^ k) = omega arith in
          ap (λ b. nat_eq b 1) (ap (bit_at w) (sym back) ∙ sym (shifted w k (i - k)) ∙ found.2 (i - k) lt),
    )
  where
    not_zero : (n : ℕ) → (n ≡ 0 → ⊥) → 0 < n
    not_zero zero h = absurd (h refl)
    not_zero (suc n) h = omega arith

pub ones_from : (w f o : ℕ) → w < 2 ^ 64 → in_word w f ≡ true → o ≡ trailing_ones w64 (w / 2 ^ f)
    → (0 < o) × ((f + o ≤ 64) × ((i : ℕ) → f ≤ i → i < f + o → in_word w i ≡ true))
unfolding lib.Count.count_trailing_zeros
ones_from w f o fits here is = elim (cases_lt (w / 2 ^ f + 1) (2 ^ 64)) [
  | inl less ↦
      let found = bit_at-trailing_ones w64 (w / 2 ^ f) less in
      all (some (λ none. ap (bit_at (w / 2 ^ f)) (sym (sym is ∙ none)) ∙ found.1)) (λ i lt. found.2 i (omega arith))
  | inr ge ↦
      let small : w / 2 ^ f ≤ w = div-le_self w (2 ^ f) in
      let full : w / 2 ^ f ≡ 18446744073709551615 = omega arith in
      let long : o ≡ 64 = is ∙ ap (trailing_ones w64) full in
      all (omega arith) (λ i lt. ap (λ n. bit_at n i) full ∙ bit_at_ones 64 i (omega arith))
]
  where
    first : (none : o ≡ 0) → bit_at (w / 2 ^ f) 0 ≡ 0 → ⊥
    first none unset = let e : f + 0 ≡ f = omega arith in
        false≢true (sym (ap (λ b. nat_eq b 1) (sym (ap (bit_at w) e) ∙ sym (shifted w f 0) ∙ unset)) ∙ here)

    some : ((none : o ≡ 0) → bit_at (w / 2 ^ f) 0 ≡ 0) → 0 < o
    some h = elim (cases_lt 0 o) [
      | inl lt ↦ lt
      | inr ge ↦ let none : o ≡ 0 = omega arith in absurd (first none (h none))
    ]

    all : 0 < o → ((i : ℕ) → i < o → bit_at (w / 2 ^ f) i ≡ 1) → (0 < o) × ((f + o ≤ 64) × ((i : ℕ) → f ≤ i → i < f + o → in_word w i ≡ true))
    all more ones = (
      more,
      (
        elim (cases_lt 64 (f + o)) [
          | inl past ↦ elim (cases_lt 64 f) [
            | inl above ↦ absurd (let lt : f < 64 = low_word w f fits here in omega arith)
            | inr below ↦ absurd (let lt : 64 < 64 = low_word w 64 fits (set 64 below past) in omega arith)
          ]
          | inr within ↦ within
        ],
        set,
      ),
    )
      where
        set : (i : ℕ) → f ≤ i → i < f + o → in_word w i ≡ true
        set i from to =
            let back : f + (i - f) ≡ i = omega arith in
            let lt : i - f < o = omega arith in
            ap (λ b. nat_eq b 1) (ap (bit_at w) (sym back) ∙ sym (shifted w f (i - f)) ∙ ones (i - f) lt)

-- the bits of a word among those of all
pub bit_of : (ps : List (List ℕ)) (at i : ℕ) (t : Bool) → at / 64 * 64 ≤ i → i < at / 64 * 64 + 64 → in_word (word_at ps (at / 64)) (i - at / 64 * 64) ≡ t → has_bit ps i ≡ t
bit_of ps at i t from to h =
    let here : i / 64 ≡ at / 64 = omega arith in
    let low : i % 64 ≡ i - at / 64 * 64 = omega arith in
    ap₂ (λ k j. in_word (word_at ps k) j) here low ∙ h

-- no bit is set from a place on up to the word of this index
pub none_before : (ps : List (List ℕ)) (at next p : ℕ) → at / 64 < next → ((i : ℕ) → at % 64 ≤ i → i < 64 → in_word (word_at ps (at / 64)) i ≡ false)
    → ((q : ℕ) → at / 64 < q → q < next → word_at ps q ≡ 0) → at ≤ p → p < next * 64 → has_bit ps p ≡ false
none_before ps at next p more unset none from to = elim (cases_lt (at / 64) (p / 64)) [
  | inl behind ↦ no_bit ps p (none (p / 64) behind (omega arith))
  | inr here ↦ let low : ℕ = at / 64 * 64 in bit_of ps at p false (omega arith) (omega arith) (unset (p - low) (omega arith) (omega arith))
]

-- ---- grids of a walk

pub grids_more : (ss : List Grid) (i : ℕ) (s : Grid) → i < length ss → s ≡ get_or ss i s → length (grids_places (take (i + 1) ss)) ≡ length (grids_places (take i ss)) + length (lines_left s 0)
grids_more ss i s lt is = rw add-one (go ss i s lt is)
  where
    go : (ss : List Grid) (i : ℕ) (s : Grid) → i < length ss → s ≡ get_or ss i s → length (grids_places (take (suc i) ss)) ≡ length (grids_places (take i ss)) + length (lines_left s 0)
    go [] i s lt is = elim lt [ ]
    go (x ∷ xs) zero s lt is = ap length (append-nil (lines_left x 0)) ∙ ap (λ s. length (lines_left s 0)) (sym is) ∙ (let n : ℕ = length (lines_left s 0) in let e : n ≡ 0 + n = omega arith in e)
    go (x ∷ xs) (suc i) s lt is =
        length-append (lines_left x 0) (grids_places (take (suc i) xs)) ∙ ap (λ n. length (lines_left x 0) + n) (go xs i s (omega arith) is)
        ∙ (let a : ℕ = length (lines_left x 0) in let b : ℕ = length (grids_places (take i xs)) in let d : ℕ = length (lines_left s 0) in let e : a + (b + d) ≡ a + b + d = omega arith in e)
        ∙ ap (λ n. n + length (lines_left s 0)) (sym (length-append (lines_left x 0) (grids_places (take i xs))))

pub grid_next : (ss : List Grid) (i : ℕ) (s : Grid) → i < length ss → s ≡ get_or ss i s → grids_places (drop i ss) ≡ lines_left s 0 ++ grids_places (drop (i + 1) ss)
grid_next ss i s lt is = rw add-one (go ss i s lt is)
  where
    go : (ss : List Grid) (i : ℕ) (s : Grid) → i < length ss → s ≡ get_or ss i s → grids_places (drop i ss) ≡ lines_left s 0 ++ grids_places (drop (suc i) ss)
    go [] i s lt is = elim lt [ ]
    go (x ∷ xs) zero s lt is = ap (λ s. lines_left s 0 ++ grids_places xs) (sym is)
    go (x ∷ xs) (suc i) s lt is = go xs i s (omega arith) is

-- ---- ranges of bytes

pub map_range : (f : ℕ → ℕ) (a n k d : ℕ) → k < n → get_or (map f (count_up a n)) k d ≡ f (a + k)
map_range f a zero k d lt = absurd (omega arith)
map_range f a (suc n) zero d lt = let e : a ≡ a + 0 = omega arith in ap f e
map_range f a (suc n) (suc k) d lt = map_range f (a + 1) n k d (omega arith) ∙ (let e : a + 1 + k ≡ a + suc k = omega arith in ap f e)

pub length-map_range : (f : ℕ → ℕ) (a n : ℕ) → length (map f (count_up a n)) ≡ n
length-map_range f a n = length-map (count_up a n) f ∙ length-count_up a n

pub map_range_more : (f : ℕ → ℕ) (a n : ℕ) → map f (count_up a (n + 1)) ≡ map f (count_up a n) ++ f (a + n) ∷ []
map_range_more f a n = ap (map f) (count_up-append a n 1) ∙ map-append f (count_up a n) (count_up (a + n) 1)

pub taken_range : (xs : List ℕ) (a n : ℕ) → a + n ≤ length xs → take n (drop a xs) ≡ map (slice_index xs) (count_up a n)
taken_range xs a n le = ext_get_or 0 _ _ (let long : length (take n (drop a xs)) ≡ n = grind (arith, places) in long ∙ sym (length-map_range (slice_index xs) a n)) (λ k lt.
    let less : k < n = grind (arith, places, lt) in
    get_or-take n (drop a xs) k 0 less ∙ get_or-drop a xs k 0 ∙ sym (map_range (slice_index xs) a n k 0 less))

-- the values at one more row
pub row_added : (f : ℕ → ℕ) (s : Strip) (row : ℕ) (bytes new all : List ℕ) → row < s.count → new ≡ bytes ++ map f (count_up (s.first + row * s.step) s.width)
    → bytes ++ map f (rows_left s row) ≡ all → new ++ map f (rows_left s (row + 1)) ≡ all
row_added f s row bytes new all lt is before =
    let here : List ℕ = count_up (s.first + row * s.step) s.width in
    let rest : List ℕ = rows_left s (row + 1) in
    ap (λ xs. xs ++ map f rest) is ∙ append_assoc bytes (map f here) (map f rest)
    ∙ ap (λ ys. bytes ++ ys) (sym (map-append f here rest) ∙ ap (map f) (sym (row_next s row lt)))
    ∙ before

-- the values at some more rows
pub rows_added : (f : ℕ → ℕ) (s : Strip) (row n : ℕ) (bytes new all : List ℕ) → row + n ≤ s.count → new ≡ bytes ++ map f (row_places (s.first + row * s.step) s.width s.step n)
    → bytes ++ map f (rows_left s row) ≡ all → new ++ map f (rows_left s (row + n)) ≡ all
rows_added f s row n bytes new all le is before =
    let here : List ℕ = row_places (s.first + row * s.step) s.width s.step n in
    let rest : List ℕ = rows_left s (row + n) in
    let count : s.count - row ≡ n + (s.count - (row + n)) = omega arith in
    let times : (row + n) * s.step ≡ row * s.step + n * s.step = omega arith in
    let behind : s.first + row * s.step + n * s.step ≡ s.first + (row + n) * s.step = omega arith in
    let split : rows_left s row ≡ here ++ rest
    = ap (row_places (s.first + row * s.step) s.width s.step) count
    ∙ rows_parted (s.first + row * s.step) s.width s.step n (s.count - (row + n))
    ∙ ap (λ p. here ++ row_places p s.width s.step (s.count - (row + n))) behind in
    ap (λ xs. xs ++ map f rest) is ∙ append_assoc bytes (map f here) (map f rest)
    ∙ ap (λ ys. bytes ++ ys) (sym (map-append f here rest) ∙ ap (map f) (sym split))
    ∙ before

-- one more row is copied
pub row_copied : (xs ys : List ℕ) (at width : ℕ) → length ys ≡ width → at + width ≤ length xs → take (at + width) (put_mid at width xs ys) ≡ take at xs ++ ys
row_copied xs ys at width long le = ext_get_or 0 _ _ (grind (arith, places, long)) (λ k lt. grind (arith, places, long, lt))

pub length-put : (xs ys : List ℕ) (at width n : ℕ) → n ≡ width → length ys ≡ width → at + width ≤ length xs → length (put_mid at n xs ys) ≡ length xs
length-put xs ys at width n is long le = grind (arith, places, is, long, le)

-- the values at one more line
pub line_added : (f : ℕ → ℕ) (g : Grid) (line : ℕ) (s : Strip) (bytes new all : List ℕ) → line < g.lines → s ≡ moved g.strip (line * g.jump) → new ≡ bytes ++ map f (rows_left s 0)
    → bytes ++ map f (lines_left g line) ≡ all → new ++ map f (lines_left g (line + 1)) ≡ all
line_added f g line s bytes new all lt here is before =
    let rest : List ℕ = lines_left g (line + 1) in
    ap (λ xs. xs ++ map f rest) is ∙ append_assoc bytes (map f (rows_left s 0)) (map f rest)
    ∙ ap (λ ys. bytes ++ ys) (sym (map-append f (rows_left s 0) rest) ∙ ap (map f) (sym (line_next g line s lt here)))
    ∙ before

-- the values at one more grid
pub grid_added : (f : ℕ → ℕ) (ss : List Grid) (i : ℕ) (s : Grid) (bytes new all : List ℕ) → i < length ss → s ≡ get_or ss i s → new ≡ bytes ++ map f (lines_left s 0)
    → bytes ++ map f (grids_places (drop i ss)) ≡ all → new ++ map f (grids_places (drop (i + 1) ss)) ≡ all
grid_added f ss i s bytes new all lt here is before =
    let rest : List ℕ = grids_places (drop (i + 1) ss) in
    ap (λ xs. xs ++ map f rest) is ∙ append_assoc bytes (map f (lines_left s 0)) (map f rest)
    ∙ ap (λ ys. bytes ++ ys) (sym (map-append f (lines_left s 0) rest) ∙ ap (map f) (sym (grid_next ss i s lt here)))
    ∙ before

-- a part is compared with bytes
pub same_bytes : (xs ys : List ℕ) (a : ℕ) (t : Bool) → a + length ys ≤ length xs → t ≡ pointwise eqb (take (length ys) (drop a xs)) ys
    → (t ≡ true → (i : ℕ) → i < length ys → slice_index xs (a + i) ≡ slice_index ys i) × (((i : ℕ) → i < length ys → slice_index xs (a + i) ≡ slice_index ys i) → t ≡ true)
same_bytes xs ys a t le is = let both = slice_eq-Decides Decides-eqb (take (length ys) (drop a xs)) ys t is in (
  λ h i lt. sym (get_or-take (length ys) (drop a xs) i 0 lt ∙ get_or-drop a xs i 0) ∙ ap (λ zs. get_or zs i 0) (both.0 h),
  λ h. both.1 (ext_get_or 0 _ _ (grind (arith, places)) (λ k lt.
      let less : k < length ys = grind (arith, places, lt) in
      get_or-take (length ys) (drop a xs) k 0 less ∙ get_or-drop a xs k 0 ∙ h k less)),
)

-- bytes are put into a part
pub put_bytes : (xs ys : List ℕ) (from a n p : ℕ) → a ≡ min from (length xs) → n ≡ min (length ys) (length xs - a) → p < length xs
    → slice_index (put_mid a n xs (take n ys)) p ≡ cond (nat_le from p && nat_lt p (from + length ys)) (slice_index ys (p - from)) (slice_index xs p)
put_bytes xs ys from a n p at count inside =
    let long : length (take n ys) ≡ n = grind (arith, places) in
    elim (cases_lt p a) [
      | inl before ↦
          let out : (nat_le from p && nat_lt p (from + length ys)) ≡ false = grind (arith, nat_tests) in
          rw out (grind (arith, places))
      | inr above ↦ elim (cases_lt p (a + n)) [
        | inl to ↦
            let here : a ≡ from = omega arith in
            let within : (nat_le from p && nat_lt p (from + length ys)) ≡ true = grind (arith, nat_tests) in
            rw within (let it : slice_index (put_mid a n xs (take n ys)) p ≡ slice_index (take n ys) (p - a) = grind (arith, places) in
            it ∙ get_or-take n ys (p - a) 0 (omega arith) ∙ ap (λ k. slice_index ys (p - k)) here)
        | inr behind ↦
            let out : (nat_le from p && nat_lt p (from + length ys)) ≡ false = grind (arith, nat_tests) in
            rw out (grind (arith, places))
      ]
    ]

-- ---- the next range of a walk, with its bytes

pub enough_bytes : (f : ℕ → ℕ) (bs : List ℕ) (from w : ℕ) (left new : List ℕ) → bs ≡ map f left → left ≡ count_up from w ++ new → w ≤ length bs
enough_bytes f bs from w left new is split =
    let long : length bs ≡ w + length new = ap length is ∙ length-map left f ∙ ap length split ∙ length-append (count_up from w) new ∙ ap (λ n. n + length new) (length-count_up from w) in
    omega arith

bytes_split : (f : ℕ → ℕ) (bs : List ℕ) (from w : ℕ) (left new : List ℕ) → bs ≡ map f left → left ≡ count_up from w ++ new → bs ≡ map f (count_up from w) ++ map f new
bytes_split f bs from w left new is split = is ∙ ap (map f) split ∙ map-append f (count_up from w) new

pub bytes_here : (f : ℕ → ℕ) (bs : List ℕ) (from w : ℕ) (left new : List ℕ) → bs ≡ map f left → left ≡ count_up from w ++ new → take w bs ≡ map f (count_up from w)
bytes_here f bs from w left new is split = ap (take w) (bytes_split f bs from w left new is split) ∙ take_at (map f (count_up from w)) (map f new) w (length-map_range f from w)

pub bytes_behind : (f : ℕ → ℕ) (bs : List ℕ) (from w : ℕ) (left new : List ℕ) → bs ≡ map f left → left ≡ count_up from w ++ new → drop w bs ≡ map f new
bytes_behind f bs from w left new is split = ap (drop w) (bytes_split f bs from w left new is split) ∙ drop_at (map f (count_up from w)) (map f new) w (length-map_range f from w)

-- fewer are left
pub fewer_left : (from w : ℕ) (left new : List ℕ) → left ≡ count_up from w ++ new → 0 < w → length new < length left
fewer_left from w left new split some =
    let long : length left ≡ w + length new = ap length split ∙ length-append (count_up from w) new ∙ ap (λ n. n + length new) (length-count_up from w) in
    omega arith

-- bytes are appended, and the rest is left to be
pub kept_more : (f : ℕ → ℕ) (old bytes : List ℕ) (from w : ℕ) (left new all : List ℕ) → left ≡ count_up from w ++ new → bytes ≡ old ++ map f (count_up from w)
    → old ++ map f left ≡ all → bytes ++ map f new ≡ all
kept_more f old bytes from w left new all split more before =
    ap (λ xs. xs ++ map f new) more ∙ append_assoc old (map f (count_up from w)) (map f new)
    ∙ ap (λ xs. old ++ xs) (sym (ap (map f) split ∙ map-append f (count_up from w) new)) ∙ before

-- which places are left
pub left_split : (p from w : ℕ) (left new : List ℕ) → left ≡ count_up from w ++ new → is_in p left ≡ ((nat_le from p && nat_lt p (from + w)) || is_in p new)
left_split p from w left new split = ap (is_in p) split ∙ is_in-append p (count_up from w) new ∙ ap (λ b. b || is_in p new) (is_in-count_up p from w)

or_right : (a b : Bool) → b ≡ true → (a || b) ≡ true
or_right true b h = refl
or_right false b h = h

pub among_rest : (p from w : ℕ) (left new : List ℕ) → left ≡ count_up from w ++ new → is_in p new ≡ true → is_in p left ≡ true
among_rest p from w left new split h = left_split p from w left new split ∙ or_right (nat_le from p && nat_lt p (from + w)) (is_in p new) h

pub among_here : (p from w : ℕ) (left new : List ℕ) → left ≡ count_up from w ++ new → from ≤ p → p < from + w → is_in p left ≡ true
among_here p from w left new split lo hi = let t : (nat_le from p && nat_lt p (from + w)) ≡ true = grind (arith, nat_tests) in left_split p from w left new split ∙ rw t refl

-- a byte of this range
pub byte_here : (f : ℕ → ℕ) (bs : List ℕ) (from w : ℕ) (left new : List ℕ) (i : ℕ) → bs ≡ map f left → left ≡ count_up from w ++ new → i < w → slice_index (take w bs) i ≡ f (from + i)
byte_here f bs from w left new i is split lt = ap (λ xs. slice_index xs i) (bytes_here f bs from w left new is split) ∙ map_range f from w i 0 lt

pub length_here : (f : ℕ → ℕ) (bs : List ℕ) (from w : ℕ) (left new : List ℕ) → bs ≡ map f left → left ≡ count_up from w ++ new → length (take w bs) ≡ w
length_here f bs from w left new is split = ap length (bytes_here f bs from w left new is split) ∙ length-map_range f from w

-- bytes are put, and the rest is left to be
pub put_more : (f : ℕ → ℕ) (p from w : ℕ) (left new : List ℕ) (x y z v : ℕ) → left ≡ count_up from w ++ new → y ≡ cond (nat_le from p && nat_lt p (from + w)) v x → (from ≤ p → p < from + w → v ≡ f p)
    → cond (is_in p left) (f p) x ≡ z → cond (is_in p new) (f p) y ≡ z
put_more f p from w left new x y z v split put here before = elim (cases_Bool (nat_le from p && nat_lt p (from + w))) [
  | inl yes' ↦
      let e : y ≡ f p = put ∙ rw yes' (here (grind (arith, nat_tests)) (grind (arith, nat_tests))) in
      let all : is_in p left ≡ true = left_split p from w left new split ∙ rw yes' refl in
      both (is_in p new) e ∙ sym (ap (λ t. cond t (f p) x) all) ∙ before
  | inr no' ↦
      let e : y ≡ x = put ∙ rw no' refl in
      let rest : is_in p left ≡ is_in p new = left_split p from w left new split ∙ rw no' refl in
      ap₂ (λ t u. cond t (f p) u) (sym rest) e ∙ before
]
  where
    both : (t : Bool) → y ≡ f p → cond t (f p) y ≡ f p
    both true e = refl
    both false e = e

-- ---- what is kept

pub kept_is : (k : KeptData) (p : ℕ) → is_in p (places_in k.marks) ≡ true → kept_at k p ≡ Some (byte_of k p)
kept_is k p among = let h : holds k.marks p ≡ true = sym (in_places k.marks p) ∙ among in rw h refl

pub found_is : (k : KeptData) (p b : ℕ) → kept_at k p ≡ Some b → (is_in p (places_in k.marks) ≡ true) × (byte_of k p ≡ b)
found_is k p b kept = let found = cond_some (holds k.marks p) (byte_of k p) b kept in (in_places k.marks p ∙ found.0, found.1)

pub put_is : (k : KeptData) (p x old : ℕ) (left : Bool) → left ≡ false → cond left (byte_of k p) x ≡ cond (is_in p (places_in k.marks)) (byte_of k p) old → x ≡ unwrap_or (kept_at k p) old
put_is k p x old left none put = sym (ap (λ t. cond t (byte_of k p) x) none) ∙ put ∙ ap (λ t. cond t (byte_of k p) old) (in_places k.marks p) ∙ go (holds k.marks p) (byte_of k p)
  where
    go : (t : Bool) (b : ℕ) → cond t b old ≡ unwrap_or (cond t (Some b) None) old
    go true b = refl
    go false b = refl

pub kept_from : (f : ℕ → ℕ) (m n : Places) (bs : List ℕ) (p : ℕ) → n ≡ m → bs ≡ map f (places_in m) → kept_at (record { marks = n; bytes = bs }) p ≡ cond (holds m p) (Some (f p)) None
kept_from f m n bs p same is = ap (λ n. kept_at (record { marks = n; bytes = bs }) p) same ∙ go (cases_Bool (holds m p))
  where
    go : (holds m p ≡ true) ⊎ (holds m p ≡ false) → kept_at (record { marks = m; bytes = bs }) p ≡ cond (holds m p) (Some (f p)) None
    go (inl yes') = rw yes' (ap Some (ap (λ xs. byte_for (places_in m) xs p) is ∙ byte_found f (places_in m) p (in_places m p ∙ yes')))
    go (inr no') = rw no' refl

pub same_rest : (f g : ℕ → ℕ) (from w : ℕ) (left new : List ℕ) → left ≡ count_up from w ++ new → (p : ℕ) → is_in p new ≡ false → (is_in p left ≡ false → g p ≡ f p) → ((i : ℕ) → i < w → g (from + i) ≡ f (from + i)) → g p ≡ f p
same_rest f g from w left new split p out before here = go (cases_Bool (nat_le from p && nat_lt p (from + w)))
  where
    go : ((nat_le from p && nat_lt p (from + w)) ≡ true) ⊎ ((nat_le from p && nat_lt p (from + w)) ≡ false) → g p ≡ f p
    go (inl yes') = let back : from + (p - from) ≡ p = grind (arith, nat_tests) in let less : p - from < w = grind (arith, nat_tests) in
        sym (ap g back) ∙ here (p - from) less ∙ ap f back
    go (inr no') = before (left_split p from w left new split ∙ rw (no', out) refl)
