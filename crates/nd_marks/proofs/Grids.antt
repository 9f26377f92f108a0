-- Lines of rows.
use Rattle.std.proofs.Common.{◌≡◌, ℕ, zero, suc, ◌+◌, ◌-◌, ◌*◌, ◌/◌, ◌%◌, ◌<◌, ◌≤◌, ◌||◌, ◌&&◌, Bool, true, false, nat_lt, refl, sym, ap, ap₂, ◌∙◌, inl, inr, arith}
use Rattle.std.proofs.Math.Nat.{mod-lt, mul-le-mul_right}
use Rattle.std.proofs.Math.Arith.{digits_div}
use Rattle.std.proofs.lemmas.Bool.{cases_lt}
use Rattle.std.proofs.lemmas.Bool.Decides.{nat_tests}
use Rattle.std.proofs.lemmas.Nat.{div-add-mod'}
use Rattle.nd_marks.specs.Axes.{repeated}
use Rattle.nd_marks.specs.Marks.{Grid, Strip, in_grid, in_lines, in_row, in_rows, in_strip, moved}
use Rattle.nd_marks.proofs.Along.{lines_repeated, repeated_cong, repeated_fold, row_repeated, rows_repeated}
use Rattle.nd_marks.proofs.Strips.{before, behind_reach, false_true, front, no_bytes, or_assoc, or_false, single}

pub moved_none : (s : Strip) (n : ℕ) → n ≡ 0 → moved s n ≡ s
moved_none s n is = let e : s.first + n ≡ s.first = omega arith in ap (λ f. record s { first = f }) e

pub moved_twice : (s : Strip) (a b : ℕ) → moved (moved s a) b ≡ moved s (a + b)
moved_twice s a b = let e : s.first + a + b ≡ s.first + (a + b) = omega arith in ap (λ f. record s { first = f }) e

-- one line
pub single_line : (s : Strip) (j p : ℕ) → in_lines s j 1 p ≡ in_strip s p
single_line s j p = let e : 0 * j ≡ 0 = omega arith in ap (λ s. in_strip s p) (moved_none s (0 * j) e)

pub lines_one : (g : Grid) (p : ℕ) → g.lines ≡ 1 → in_grid g p ≡ in_strip g.strip p
lines_one g p one = ap (λ n. in_lines g.strip g.jump n p) one ∙ single_line g.strip g.jump p

-- the first line, and those behind it
pub lines_front : (s : Strip) (j n p : ℕ) → in_lines s j (suc n) p ≡ (in_strip s p || in_lines (moved s j) j n p)
lines_front s j zero p = single_line s j p ∙ sym (or_false (in_strip s p))
lines_front s j (suc n) p =
    let e : j + n * j ≡ suc n * j = omega arith in
    ap₂ (λ a s. a || in_strip s p) (lines_front s j n p) (ap (moved s) (sym e) ∙ sym (moved_twice s j (n * j)))
    ∙ sym (or_assoc (in_strip s p) (in_lines (moved s j) j n p) (in_strip (moved (moved s j) (n * j)) p))

-- ---- where lines are

pub lines_before : (s : Strip) (j n p : ℕ) → p < s.first → in_lines s j n p ≡ false
lines_before s j zero p lt = refl
lines_before s j (suc n) p lt = rw (lines_before s j n p lt) (before (s.first + n * j) s.width s.step s.count p (omega arith))

-- no line has it
pub no_line : (s : Strip) (j n p : ℕ) → ((k : ℕ) → k < n → in_strip (moved s (k * j)) p ≡ false) → in_lines s j n p ≡ false
no_line s j zero p none = refl
no_line s j (suc n) p none = rw (no_line s j n p (λ k lt. none k (omega arith)), none n (omega arith)) refl

pub no_line_rows : (g : Grid) (p : ℕ) → g.strip.count ≡ 0 → in_grid g p ≡ false
no_line_rows g p none = no_line g.strip g.jump g.lines p (λ k lt. ap (λ n. in_rows (g.strip.first + k * g.jump) g.strip.width g.strip.step n p) none)

-- a line has it
pub line_in : (s : Strip) (j n k p : ℕ) → k < n → in_strip (moved s (k * j)) p ≡ true → in_lines s j n p ≡ true
line_in s j zero k p lt here = elim lt [ ]
line_in s j (suc n) k p lt here = elim (cases_lt k n) [
  | inl less ↦ rw (line_in s j n k p less here) refl
  | inr ge ↦ let e : n ≡ k = omega arith in ap (λ n. in_lines s j n p || in_strip (moved s (n * j)) p) e ∙ rw here (or_true (in_lines s j k p))
]
  where
    or_true : (b : Bool) → (b || true) ≡ true
    or_true true = refl
    or_true false = refl

-- no row has it
pub no_row : (f w s n p : ℕ) → ((i : ℕ) → i < n → f + i * s + w ≤ p) → in_rows f w s n p ≡ false
no_row f w s zero p none = refl
no_row f w s (suc n) p none =
    let le : f + n * s + w ≤ p = none n (omega arith) in
    let c : in_row (f + n * s) w p ≡ false = grind (arith, nat_tests) in
    rw (no_row f w s n p (λ i lt. none i (omega arith)), c) refl

-- behind the reach of a strip
pub reached : (s : Strip) (d p : ℕ) → s.width ≤ s.step → s.first + d + (s.count * s.step - (s.step - s.width)) ≤ p → in_strip (moved s d) p ≡ false
reached s d p wide le = behind_reach (s.first + d) s.width s.step s.count p wide le

-- the line that a place behind the first one may be in
pub lined : (s : Strip) (j n a p : ℕ) → 0 < j → s.count * s.step - (s.step - s.width) ≤ j → s.width ≤ s.step → a ≡ p - s.first → s.first ≤ p
    → in_lines s j n p ≡ (nat_lt (a / j) n && in_strip (moved s (a / j * j)) p)
lined s j zero a p some apart wide is le = let e : nat_lt (a / j) 0 ≡ false = grind (arith, nat_tests) in rw e refl
lined s j (suc n) a p some apart wide is le =
    let whole : a / j * j + a % j ≡ a = div-add-mod' a j in
    let less : a % j < j = mod-lt a some in
    ap (λ b. b || in_strip (moved s (n * j)) p) (lined s j n a p some apart wide is le)
    ∙ elim (cases_lt (a / j) n) [
      | inl lt ↦
          let one : nat_lt (a / j) n ≡ true = grind (arith, nat_tests) in
          let two : nat_lt (a / j) (suc n) ≡ true = grind (arith, nat_tests) in
          let up : suc (a / j) * j ≤ n * j = mul-le-mul_right j lt in
          let m : suc (a / j) * j ≡ a / j * j + j = omega arith in
          let out : in_strip (moved s (n * j)) p ≡ false = before (s.first + n * j) s.width s.step s.count p (omega arith) in
          rw (one, two, out) (or_false (in_strip (moved s (a / j * j)) p))
      | inr ge ↦
          let one : nat_lt (a / j) n ≡ false = grind (arith, nat_tests) in
          elim (cases_lt (a / j) (suc n)) [
            | inl lt ↦
                let here : n ≡ a / j = omega arith in
                let two : nat_lt (a / j) (suc n) ≡ true = grind (arith, nat_tests) in
                rw (one, two) (ap (λ n. in_strip (moved s (n * j)) p) here)
            | inr ge' ↦
                let two : nat_lt (a / j) (suc n) ≡ false = grind (arith, nat_tests) in
                let up : suc n * j ≤ a / j * j = mul-le-mul_right j ge' in
                let m : suc n * j ≡ n * j + j = omega arith in
                let out : in_strip (moved s (n * j)) p ≡ false = reached s (n * j) p wide (omega arith) in
                rw (one, two, out) refl
          ]
    ]

-- a place in the same line
pub same_line : (a b j : ℕ) → 0 < j → a ≤ b → b < a + (j - a % j) → b / j ≡ a / j
same_line a b j some le lt =
    let whole : a / j * j + a % j ≡ a = div-add-mod' a j in
    let less : a % j < j = mod-lt a some in
    let r : ℕ = a % j + (b - a) in
    let small : r < j = omega arith in
    let sum : b ≡ a / j * j + r = omega arith in
    ap (λ x. x / j) sum ∙ digits_div (a / j) small

pub quotient_up : (a b j : ℕ) → 0 < j → a ≤ b → a / j ≤ b / j
quotient_up a b j some le = elim (cases_lt (b / j) (a / j)) [
  | inr ge ↦ ge
  | inl lt ↦
      let one : a / j * j + a % j ≡ a = div-add-mod' a j in
      let two : b / j * j + b % j ≡ b = div-add-mod' b j in
      let less : b % j < j = mod-lt b some in
      let up : (b / j + 1) * j ≤ a / j * j = mul-le-mul_right j (omega arith) in
      let more : (b / j + 1) * j ≡ b / j * j + j = omega arith in
      absurd (omega arith)
]

-- where the first byte of a line is in no row, no byte is in one
pub nothing_there : (s : Strip) (d e p : ℕ) → in_strip (moved s d) (s.first + d) ≡ false → in_strip (moved s e) p ≡ false
nothing_there s d e p none = go s.count s.width none
  where
    go : (n w : ℕ) → in_rows (s.first + d) w s.step n (s.first + d) ≡ false → in_rows (s.first + e) w s.step n p ≡ false
    go zero w none = refl
    go (suc n) zero none = no_bytes (s.first + e) s.step (suc n) p
    go (suc n) (suc w) none =
        let here : in_row (s.first + d) (suc w) (s.first + d) ≡ true = grind (arith, nat_tests) in
        let first : in_rows (s.first + d) (suc w) s.step (suc n) (s.first + d) ≡ true = front (s.first + d) (suc w) s.step n (s.first + d) ∙ rw here refl in
        false_true (sym none ∙ first)

-- a place past the first two lines that may reach a range
pub none_between : (s : Strip) (j n k a p from to : ℕ) → 0 < j → s.count * s.step - (s.step - s.width) ≤ j → s.width ≤ s.step → s.first ≤ p → a ≡ p - s.first → from ≤ p → p < to
    → from < s.first + (k + 1) * j → k ≤ a / j
    → (k < n → (q : ℕ) → from ≤ q → q < to → in_strip (moved s (k * j)) q ≡ false)
    → (k + 1 < n → (q : ℕ) → from ≤ q → q < to → in_strip (moved s ((k + 1) * j)) q ≡ false)
    → in_lines s j n p ≡ false
none_between s j n k a p from to some apart wide le is lo hi near here one two = lined s j n a p some apart wide is le ∙ elim (cases_lt (a / j) n) [
  | inr past ↦ let c : nat_lt (a / j) n ≡ false = grind (arith, nat_tests) in rw c refl
  | inl lt ↦
      let c : nat_lt (a / j) n ≡ true = grind (arith, nat_tests) in
      rw c (elim (cases_lt k (a / j)) [
        | inr same ↦ let e : a / j ≡ k = omega arith in ap (λ x. in_strip (moved s (x * j)) p) e ∙ one (omega arith) p lo hi
        | inl more ↦ elim (cases_lt (k + 1) (a / j)) [
          | inr same ↦ let e : a / j ≡ k + 1 = omega arith in ap (λ x. in_strip (moved s (x * j)) p) e ∙ two (omega arith) p lo hi
          | inl far ↦
              let whole : a / j * j + a % j ≡ a = div-add-mod' a j in
              let up : (k + 1) * j ≤ a / j * j = mul-le-mul_right j (omega arith) in
              nothing_there s ((k + 1) * j) (a / j * j) p (two (omega arith) (s.first + (k + 1) * j) (omega arith) (omega arith))
        ]
      ])
]

-- ---- copies of grids

-- copies of a row that do not touch
pub row_strip : (g : Grid) (s : Strip) (count step p : ℕ) → g.lines ≡ 1 → g.strip.count ≡ 1 → s ≡ record g.strip { step = step; count = count } → in_strip s p ≡ repeated count step (in_grid g) p
row_strip g s count step p one row is =
    ap (λ s. in_strip s p) is ∙ rows_repeated g.strip.first g.strip.width step count p
    ∙ repeated_cong count step (in_row g.strip.first g.strip.width) (in_grid g) p (λ q. sym (one_row g q one row))
  where
    one_row : (g : Grid) (q : ℕ) → g.lines ≡ 1 → g.strip.count ≡ 1 → in_grid g q ≡ in_row g.strip.first g.strip.width q
    one_row g q one row = lines_one g q one ∙ ap (λ n. in_rows g.strip.first g.strip.width g.strip.step n q) row ∙ single g.strip.first g.strip.width g.strip.step q

-- copies of a row that touch or overlap
pub row_row : (g : Grid) (count step width p : ℕ) → g.lines ≡ 1 → g.strip.count ≡ 1 → 0 < count → step ≤ g.strip.width → width ≡ (count - 1) * step + g.strip.width
    → in_row g.strip.first width p ≡ repeated count step (in_grid g) p
row_row g count step width p one row some le is =
    ap (λ w. in_row g.strip.first w p) is ∙ sym (row_repeated g.strip.first g.strip.width step count p some le)
    ∙ repeated_cong count step (in_row g.strip.first g.strip.width) (in_grid g) p (λ q. sym (lines_one g q one ∙ ap (λ n. in_rows g.strip.first g.strip.width g.strip.step n q) row ∙ single g.strip.first g.strip.width g.strip.step q))

-- copies of a strip that go on as its rows do
pub strip_strip : (g : Grid) (s : Strip) (count step all p : ℕ) → g.lines ≡ 1 → step ≡ g.strip.count * g.strip.step → all ≡ count * g.strip.count → s ≡ record g.strip { step = g.strip.step; count = all }
    → in_strip s p ≡ repeated count step (in_grid g) p
strip_strip g s count step all p one far many is =
    ap (λ s. in_strip s p) is ∙ ap (λ n. in_rows g.strip.first g.strip.width g.strip.step n p) many
    ∙ rows_repeated g.strip.first g.strip.width g.strip.step (count * g.strip.count) p
    ∙ sym (repeated_fold count g.strip.count g.strip.step (in_row g.strip.first g.strip.width) p)
    ∙ ap (λ d. repeated count d (repeated g.strip.count g.strip.step (in_row g.strip.first g.strip.width)) p) (sym far)
    ∙ repeated_cong count step (repeated g.strip.count g.strip.step (in_row g.strip.first g.strip.width)) (in_grid g) p
    (λ q. sym (rows_repeated g.strip.first g.strip.width g.strip.step g.strip.count q) ∙ sym (lines_one g q one))

-- copies of a strip as lines
pub strip_lines : (g h : Grid) (count step p : ℕ) → g.lines ≡ 1 → h ≡ record { strip = g.strip; jump = step; lines = count } → in_grid h p ≡ repeated count step (in_grid g) p
strip_lines g h count step p one is =
    ap (λ h. in_grid h p) is ∙ lines_repeated g.strip step count p
    ∙ repeated_cong count step (in_strip g.strip) (in_grid g) p (λ q. sym (lines_one g q one))

-- copies of lines that go on as these do
pub lines_lines : (g h : Grid) (count step lines p : ℕ) → step ≡ g.lines * g.jump → lines ≡ count * g.lines → h ≡ record { strip = g.strip; jump = g.jump; lines = lines }
    → in_grid h p ≡ repeated count step (in_grid g) p
lines_lines g h count step lines p far many is =
    ap (λ h. in_grid h p) is ∙ ap (λ n. in_lines g.strip g.jump n p) many ∙ lines_repeated g.strip g.jump (count * g.lines) p
    ∙ sym (repeated_fold count g.lines g.jump (in_strip g.strip) p)
    ∙ ap (λ d. repeated count d (repeated g.lines g.jump (in_strip g.strip)) p) (sym far)
    ∙ repeated_cong count step (repeated g.lines g.jump (in_strip g.strip)) (in_grid g) p (λ q. sym (lines_repeated g.strip g.jump g.lines q))
