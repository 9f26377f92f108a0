-- Rows of bytes.
use Rattle.std.proofs.Common.{◌≡◌, ℕ, zero, suc, ◌+◌, ◌-◌, ◌*◌, ◌/◌, ◌%◌, ◌<◌, ◌≤◌, ◌||◌, ◌&&◌, Bool, true, false, nat_le, nat_lt, not, max, ◌⊎◌, List, [], ◌∷◌, ◌++◌, length, slice_index, slice_set, refl, sym, ap, ap₂, ◌∙◌, inl, inr, arith}
use Rattle.std.specs.List.{flat_map}
use Rattle.std.proofs.Common.{get_or, take, cond, add-one}
use Rattle.std.proofs.lemmas.Bool.{cases_Bool, cases_lt, false≢true}
use Rattle.std.proofs.lemmas.Bool.Decides.{nat_tests}
use Rattle.std.proofs.lemmas.Nat.{div-add-mod'}
use Rattle.std.proofs.Math.Nat.{mod-lt, mul-le-mul_right}
use Rattle.std.proofs.Math.Arith.{digits_div, digits_mod}
use Rattle.nd_model.specs.Cells.Session.{is_in}
use Rattle.nd_model.specs.Arrays.Tuple.{count_up}
use Rattle.nd_marks.specs.Marks.{Grid, in_grid, in_grids, in_row, in_rows}
use Rattle.nd_marks.proofs.Ranges.{is_in-count_up, is_in-append}

pub or_false : (b : Bool) → (b || false) ≡ b
or_false true = refl
or_false false = refl

pub or_comm : (a b : Bool) → (a || b) ≡ (b || a)
or_comm true true = refl
or_comm true false = refl
or_comm false true = refl
or_comm false false = refl

and_false : (b : Bool) → (b && false) ≡ false
and_false true = refl
and_false false = refl

pub or_assoc : (a b c : Bool) → (a || (b || c)) ≡ ((a || b) || c)
or_assoc true b c = refl
or_assoc false b c = refl

-- the first row, and those behind it
pub front : (f w s n p : ℕ) → in_rows f w s (suc n) p ≡ (in_row f w p || in_rows (f + s) w s n p)
front f w s zero p = let e : f + 0 * s ≡ f = omega arith in rw e (or_comm false (in_row f w p))
front f w s (suc n) p =
    let e : f + suc n * s ≡ f + s + n * s = (let m : suc n * s ≡ n * s + s = omega arith in omega arith) in
    ap₂ (λ a q. a || in_row q w p) (front f w s n p) e
    ∙ sym (or_assoc (in_row f w p) (in_rows (f + s) w s n p) (in_row (f + s + n * s) w p))

-- one row
pub single : (f w s p : ℕ) → in_rows f w s 1 p ≡ in_row f w p
single f w s p = let e : f + 0 * s ≡ f = omega arith in rw e refl

-- rows that meet are one
pub meeting : (f s n p : ℕ) → in_rows f s s n p ≡ in_row f (n * s) p
meeting f s zero p = let none : in_row f 0 p ≡ false = elim (cases_lt p f) [
  | inl lt ↦ grind (arith, nat_tests)
  | inr ge ↦ grind (arith, nat_tests)
] in let e : 0 * s ≡ 0 = omega arith in rw e (sym none)
meeting f s (suc n) p =
    let m : suc n * s ≡ n * s + s = omega arith in
    ap (λ b. b || in_row (f + n * s) s p) (meeting f s n p) ∙ rw m (joined f (n * s) s p)
  where
    joined : (f a s p : ℕ) → (in_row f a p || in_row (f + a) s p) ≡ in_row f (a + s) p
    joined f a s p = grind (arith, nat_tests)

-- wider rows
pub wider : (f w v s n p : ℕ) → in_rows f (w + v) s n p ≡ (in_rows f w s n p || in_rows (f + w) v s n p)
wider f w v s zero p = refl
wider f w v s (suc n) p =
    let e : f + w + n * s ≡ f + n * s + w = omega arith in
    ap₂ (λ a b. a || b) (wider f w v s n p) (halves (f + n * s) w v p)
    ∙ four (in_rows f w s n p) (in_rows (f + w) v s n p) (in_row (f + n * s) w p) (in_row (f + n * s + w) v p)
    ∙ ap (λ q. (in_rows f w s n p || in_row (f + n * s) w p) || (in_rows (f + w) v s n p || in_row q v p)) (sym e)
  where
    halves : (f a s p : ℕ) → in_row f (a + s) p ≡ (in_row f a p || in_row (f + a) s p)
    halves f a s p = grind (arith, nat_tests)

    four : (a b c d : Bool) → ((a || b) || (c || d)) ≡ ((a || c) || (b || d))
    four true b c d = refl
    four false true true d = refl
    four false true false d = refl
    four false false c d = refl

-- elements one step apart, forwards
pub forwards : (f step size : ℕ) (run : List ℕ) (p : ℕ) → ((k : ℕ) → k < length run → slice_index run k ≡ f + k * step)
    → in_rows f size step (length run) p ≡ is_in p (flat_map (λ q. count_up q size) run)
forwards f step size [] p at = refl
forwards f step size (q ∷ qs) p at =
    let first : q ≡ f = at 0 (omega arith) ∙ (let e : 0 * step ≡ 0 = omega arith in omega arith) in
    let rest = forwards (f + step) step size qs p (λ k lt. at (suc k) (omega arith) ∙ (let e : suc k * step ≡ step + k * step = omega arith in omega arith)) in
    front f size step (length qs) p
    ∙ ap₂ (λ a b. a || b) (ap (λ q. in_row q size p) (sym first) ∙ sym (is_in-count_up p q size)) rest
    ∙ sym (is_in-append p (count_up q size) (flat_map (λ q. count_up q size) qs))

-- the rows of a run whose elements lie in decreasing order
pub backwards : (f step size : ℕ) (run : List ℕ) (p : ℕ) → ((k : ℕ) → k < length run → slice_index run k + suc k * step ≡ f + length run * step)
    → in_rows f size step (length run) p ≡ is_in p (flat_map (λ q. count_up q size) run)
backwards f step size [] p at = refl
backwards f step size (q ∷ qs) p at =
    let first : f + length qs * step ≡ q = (let e : q + 1 * step ≡ f + suc (length qs) * step = at 0 (omega arith) in let m : suc (length qs) * step ≡ step + length qs * step = omega arith in let o : 1 * step ≡ step = omega arith in omega arith) in
    let rest = backwards f step size qs p (λ k lt. (let e : slice_index qs k + suc (suc k) * step ≡ f + suc (length qs) * step = at (suc k) (omega arith) in let m : suc (suc k) * step ≡ step + suc k * step = omega arith in let m' : suc (length qs) * step ≡ step + length qs * step = omega arith in omega arith)) in
    ap₂ (λ a b. a || b) rest (ap (λ q. in_row q size p) first ∙ sym (is_in-count_up p q size))
    ∙ or_comm (is_in p (flat_map (λ q. count_up q size) qs)) (is_in p (count_up q size))
    ∙ sym (is_in-append p (count_up q size) (flat_map (λ q. count_up q size) qs))

-- a place that is so far behind the first row
pub divided : (f w s n a p : ℕ) → 0 < s → w ≤ s → a ≡ p - f → f ≤ p
    → in_rows f w s n p ≡ (nat_lt (a / s) n && nat_lt (a % s) w)
divided f w s zero a p some wide is le = let e : nat_lt (a / s) 0 ≡ false = grind (arith, nat_tests) in rw e refl
divided f w s (suc n) a p some wide is le =
    let whole : a / s * s + a % s ≡ a = div-add-mod' a s in
    let less : a % s < s = mod-lt a some in
    ap (λ b. b || in_row (f + n * s) w p) (divided f w s n a p some wide is le)
    ∙ elim (cases_lt (a / s) n) [
      | inl lt ↦
          let one : nat_lt (a / s) n ≡ true = grind (arith, nat_tests) in
          let two : nat_lt (a / s) (suc n) ≡ true = grind (arith, nat_tests) in
          let up : suc (a / s) * s ≤ n * s = mul-le-mul_right s lt in
          let m : suc (a / s) * s ≡ a / s * s + s = omega arith in
          let out : in_row (f + n * s) w p ≡ false = (let c : nat_le (f + n * s) p ≡ false = grind (arith, nat_tests) in rw c refl) in
          rw (one, two, out) (or_false (nat_lt (a % s) w))
      | inr ge ↦
          let one : nat_lt (a / s) n ≡ false = grind (arith, nat_tests) in
          elim (cases_lt (a / s) (suc n)) [
            | inl lt ↦
                let here : a / s ≡ n = omega arith in
                let two : nat_lt (a / s) (suc n) ≡ true = grind (arith, nat_tests) in
                let it : n * s + a % s ≡ a = ap (λ k. k * s + a % s) (sym here) ∙ whole in
                let c : in_row (f + n * s) w p ≡ nat_lt (a % s) w = grind (arith, nat_tests) in
                rw (one, two, c) refl
            | inr ge' ↦
                let two : nat_lt (a / s) (suc n) ≡ false = grind (arith, nat_tests) in
                let up : suc n * s ≤ a / s * s = mul-le-mul_right s ge' in
                let m : suc n * s ≡ n * s + s = omega arith in
                let out : in_row (f + n * s) w p ≡ false = (let c : nat_lt p (f + n * s + w) ≡ false = grind (arith, nat_tests) in grind (arith, nat_tests)) in
                rw (one, two, out) refl
          ]
    ]

pub before : (f w s n p : ℕ) → p < f → in_rows f w s n p ≡ false
before f w s zero p lt = refl
before f w s (suc n) p lt = rw (before f w s n p lt) (let c : nat_le (f + n * s) p ≡ false = grind (arith, nat_tests) in rw c refl)

-- no row reaches further than the last one
pub behind : (f w s n p : ℕ) → 0 < n → w ≤ s → f + n * s - (s - w) ≤ p → in_rows f w s n p ≡ false
behind f w s zero p some wide le = elim some [ ]
behind f w s (suc zero) p some wide le = single f w s p ∙ (let m : 1 * s ≡ s = omega arith in let c : nat_lt p (f + w) ≡ false = grind (arith, nat_tests) in grind (arith, nat_tests))
behind f w s (suc (suc n)) p some wide le =
    let m : suc (suc n) * s ≡ suc n * s + s = omega arith in
    let m' : suc n * s ≡ n * s + s = omega arith in
    rw (behind f w s (suc n) p (omega arith) wide (omega arith)) (let c : nat_lt p (f + suc n * s + w) ≡ false = grind (arith, nat_tests) in grind (arith, nat_tests))

pub behind_reach : (f w s n p : ℕ) → w ≤ s → f + (n * s - (s - w)) ≤ p → in_rows f w s n p ≡ false
behind_reach f w s zero p wide le = refl
behind_reach f w s (suc n) p wide le = behind f w s (suc n) p (omega arith) wide (let m : suc n * s ≡ n * s + s = omega arith in omega arith)

pub past : (f w s n p : ℕ) → w ≤ s → f + n * s ≤ p → in_rows f w s n p ≡ false
past f w s zero p wide le = refl
past f w s (suc n) p wide le =
    let m : suc n * s ≡ n * s + s = omega arith in
    rw (past f w s n p wide (omega arith)) (let c : nat_lt p (f + n * s + w) ≡ false = grind (arith, nat_tests) in grind (arith, nat_tests))

-- a place in the same step
pub stretched : (f w s n a p q : ℕ) → 0 < s → w ≤ s → a ≡ p - f → f ≤ p → p ≤ q → q < p + (s - a % s)
    → in_rows f w s n q ≡ (nat_lt (a / s) n && nat_lt (a % s + (q - p)) w)
stretched f w s n a p q some wide is le from to =
    let whole : a / s * s + a % s ≡ a = div-add-mod' a s in
    let less : a % s < s = mod-lt a some in
    let r : ℕ = a % s + (q - p) in
    let small : r < s = omega arith in
    let sum : q - f ≡ a / s * s + r = omega arith in
    let quot : (q - f) / s ≡ a / s = ap (λ x. x / s) sum ∙ digits_div (a / s) small in
    let rest : (q - f) % s ≡ r = ap (λ x. x % s) sum ∙ digits_mod (a / s) small in
    divided f w s n (q - f) q some wide refl (omega arith)
    ∙ ap₂ (λ x y. nat_lt x n && nat_lt y w) quot rest

-- no row has a place from one behind a row to the next row
pub between : (f w s n p q : ℕ) → 0 < s → w ≤ s → f ≤ p → w ≤ (p - f) % s → p ≤ q → q < f + ((p - f) / s + 1) * s → in_rows f w s n q ≡ false
between f w s n p q some wide le out from to =
    let a : ℕ = p - f in
    let whole : a / s * s + a % s ≡ a = div-add-mod' a s in
    let less : a % s < s = mod-lt a some in
    let more : (a / s + 1) * s ≡ a / s * s + s = omega arith in
    let no : nat_lt (a % s + (q - p)) w ≡ false = grind (arith, nat_tests) in
    stretched f w s n a p q some wide refl le from (omega arith) ∙ ap (λ b. nat_lt (a / s) n && b) no ∙ and_false (nat_lt (a / s) n)

-- no row has a place from one behind all rows on
pub none_from : (f w s n p q : ℕ) → w ≤ s → f ≤ p → n ≤ (p - f) / s → p ≤ q → in_rows f w s n q ≡ false
none_from f w s n p q wide le most from =
    let a : ℕ = p - f in
    let whole : a / s * s + a % s ≡ a = div-add-mod' a s in
    let up : n * s ≤ a / s * s = mul-le-mul_right s most in
    past f w s n q wide (omega arith)

-- the next row begins behind a place
pub next_behind : (f s p : ℕ) → 0 < s → f ≤ p → p ≤ f + ((p - f) / s + 1) * s
next_behind f s p some le =
    let a : ℕ = p - f in
    let whole : a / s * s + a % s ≡ a = div-add-mod' a s in
    let less : a % s < s = mod-lt a some in
    let more : (a / s + 1) * s ≡ a / s * s + s = omega arith in
    omega arith

-- rows without bytes
pub no_bytes : (f s n p : ℕ) → in_rows f 0 s n p ≡ false
no_bytes f s zero p = refl
no_bytes f s (suc n) p = rw (no_bytes f s n p) (grind (arith, nat_tests))

-- one row over all rows of others
pub covered : (f w s m g v t n p : ℕ) → m ≡ 1 → 0 < n → v ≤ t → f ≤ g → g + n * t - (t - v) ≤ f + w → (in_rows f w s m p || in_rows g v t n p) ≡ in_rows f w s m p
covered f w s m g v t n p one some wide from to = elim (cases_lt p g) [
  | inl lt ↦ rw (before g v t n p lt) (or_false (in_rows f w s m p))
  | inr ge ↦ elim (cases_lt p (g + n * t - (t - v))) [
    | inl lt ↦
        let inside : in_row f w p ≡ true = grind (arith, nat_tests) in
        let all : in_rows f w s m p ≡ true = ap (λ m. in_rows f w s m p) one ∙ single f w s p ∙ inside in
        rw all refl
    | inr ge' ↦ rw (behind g v t n p some wide ge') (or_false (in_rows f w s m p))
  ]
]

pub all_meet : (f w s n p : ℕ) → w ≡ s → in_row f (n * s) p ≡ in_rows f w s n p
all_meet f w s n p is = sym (ap (λ w. in_rows f w s n p) is ∙ meeting f s n p)

-- one row more at the front
pub before_all : (f w s n m g v t k p : ℕ) → m ≡ n + 1 → f ≡ g + s → v ≡ w → k ≡ 1 → in_rows g w s m p ≡ (in_rows f w s n p || in_rows g v t k p)
before_all f w s n m g v t k p more at same one =
    let up : m ≡ suc n = omega arith in
    ap (λ m. in_rows g w s m p) up ∙ front g w s n p ∙ ap₂ (λ a q. a || in_rows q w s n p) (sym (ap₂ (λ v k. in_rows g v t k p) same one ∙ single g w t p)) (sym at)
    ∙ or_comm (in_rows g v t k p) (in_rows f w s n p)

pub beside : (f w s n g v t k p : ℕ) → g ≡ f + w → t ≡ s → k ≡ n → in_rows f (w + v) s n p ≡ (in_rows f w s n p || in_rows g v t k p)
beside f w s n g v t k p at step many = wider f w v s n p ∙ sym (rw (at, step, many) refl)

or_true : (b : Bool) → (b || true) ≡ true
or_true true = refl
or_true false = refl

pub row_in : (f w s n k p : ℕ) → k < n → f + k * s ≤ p → p < f + k * s + w → in_rows f w s n p ≡ true
row_in f w s zero k p lt from to = elim lt [ ]
row_in f w s (suc n) k p lt from to = elim (cases_lt k n) [
  | inl less ↦ rw (row_in f w s n k p less from to) refl
  | inr ge ↦
      let here : n ≡ k = omega arith in
      let inside : in_row (f + k * s) w p ≡ true = grind (arith, nat_tests) in
      rw (here, inside) (or_true (in_rows f w s k p))
]

-- the first grids, and one more
pub take_more : (ss : List Grid) (i : ℕ) (s : Grid) (p : ℕ) → i < length ss → s ≡ get_or ss i s → in_grids (take (i + 1) ss) p ≡ (in_grids (take i ss) p || in_grid s p)
take_more ss i s p lt is = rw add-one (go ss i s p lt is)
  where
    go : (ss : List Grid) (i : ℕ) (s : Grid) (p : ℕ) → i < length ss → s ≡ get_or ss i s → in_grids (take (suc i) ss) p ≡ (in_grids (take i ss) p || in_grid s p)
    go [] i s p lt is = elim lt [ ]
    go (x ∷ xs) zero s p lt is = or_false (in_grid x p) ∙ ap (λ s. in_grid s p) (sym is)
    go (x ∷ xs) (suc i) s p lt is = ap (λ b. in_grid x p || b) (go xs i s p (omega arith) is) ∙ or_assoc (in_grid x p) (in_grids (take i xs) p) (in_grid s p)

pub among : (ss : List Grid) (i : ℕ) (s : Grid) (p : ℕ) → i < length ss → s ≡ get_or ss i s → in_grid s p ≡ true → in_grids ss p ≡ true
among [] i s p lt is h = elim lt [ ]
among (x ∷ xs) zero s p lt is h = ap (λ s. in_grid s p || in_grids xs p) (sym is) ∙ rw h refl
among (x ∷ xs) (suc i) s p lt is h = rw (among xs i s p (omega arith) is h) (or_true (in_grid x p))

-- one of the grids is joined with another
pub set_joined : (ss : List Grid) (i : ℕ) (s r o d : Grid) (p : ℕ) → i < length ss → s ≡ get_or ss i d → in_grid r p ≡ (in_grid s p || in_grid o p)
    → in_grids (slice_set ss i r) p ≡ (in_grids ss p || in_grid o p)
set_joined [] i s r o d p lt is h = elim lt [ ]
set_joined (x ∷ xs) zero s r o d p lt is h = ap (λ b. b || in_grids xs p) (h ∙ ap (λ s. in_grid s p || in_grid o p) is) ∙ turn (in_grid x p) (in_grid o p) (in_grids xs p)
  where
    turn : (a b c : Bool) → ((a || b) || c) ≡ ((a || c) || b)
    turn true b c = refl
    turn false b c = or_comm b c
set_joined (x ∷ xs) (suc i) s r o d p lt is h = ap (λ b. in_grid x p || b) (set_joined xs i s r o d p (omega arith) is h) ∙ or_assoc (in_grid x p) (in_grids xs p) (in_grid o p)

-- one of two writes, or both
pub put_both : (a b : Bool) (x y : ℕ) → cond b x (cond a x y) ≡ cond (a || b) x y
put_both true true x y = refl
put_both true false x y = refl
put_both false true x y = refl
put_both false false x y = refl

pub either_way : {A : Type 0} (a b : Bool) → (a || b) ≡ true → (a ≡ true → A) → (b ≡ true → A) → A
either_way true b h x y = x refl
either_way false b h x y = y h

pub in_grids-append : (ss : List Grid) (s : Grid) (p : ℕ) → in_grids (ss ++ s ∷ []) p ≡ (in_grids ss p || in_grid s p)
in_grids-append [] s p = or_false (in_grid s p)
in_grids-append (x ∷ xs) s p = ap (λ b. in_grid x p || b) (in_grids-append xs s p) ∙ or_assoc (in_grid x p) (in_grids xs p) (in_grid s p)

-- the last grid goes among the others, and another takes its place
pub pushed : (ss ts : List Grid) (s r : Grid) (p : ℕ) → ts ≡ ss ++ s ∷ [] → (in_grid r p || in_grids ts p) ≡ ((in_grid s p || in_grids ss p) || in_grid r p)
pushed ss ts s r p is = ap (λ t. in_grid r p || t) (ap (λ ts. in_grids ts p) is ∙ in_grids-append ss s p) ∙ turn (in_grid r p) (in_grids ss p) (in_grid s p)
  where
    turn : (r o s : Bool) → (r || (o || s)) ≡ ((s || o) || r)
    turn true o s = sym (or_true (s || o))
    turn false true true = refl
    turn false true false = refl
    turn false false true = refl
    turn false false false = refl

-- a grid fits, and the rest stays
pub fitted : (a b r s : Bool) → a ≡ (b || s) → (a || r) ≡ ((b || r) || s)
fitted a b r s is = ap (λ t. t || r) is ∙ turn b s r
  where
    turn : (b s r : Bool) → ((b || s) || r) ≡ ((b || r) || s)
    turn true s r = refl
    turn false true true = refl
    turn false true false = refl
    turn false false true = refl
    turn false false false = refl

-- a stretch of which all is excepted
pub all_excepted : (o e : Bool) (p from at end : ℕ) → from ≤ at → at ≤ end → (at ≤ p → p < end → e ≡ true)
    → (o || ((nat_le from p && nat_lt p at) && not e)) ≡ (o || ((nat_le from p && nat_lt p end) && not e))
all_excepted o e p from at end le to held = elim (cases_lt p at) [
  | inl lt ↦ let a : nat_lt p at ≡ true = grind (arith, nat_tests) in let b : nat_lt p end ≡ true = grind (arith, nat_tests) in rw (a, b) refl
  | inr ge ↦ elim (cases_lt p end) [
    | inl lt ↦ rw (held ge lt) (ap (λ t. o || t) (and_false (nat_le from p && nat_lt p at) ∙ sym (and_false (nat_le from p && nat_lt p end))))
    | inr ge' ↦ let a : nat_lt p at ≡ false = grind (arith, nat_tests) in let b : nat_lt p end ≡ false = grind (arith, nat_tests) in rw (a, b) refl
  ]
]

-- a stretch of which nothing is excepted but by bits
pub none_excepted : (n s o e b : Bool) (p from at end : ℕ) → from ≤ at → at ≤ end → n ≡ (s || ((nat_le at p && nat_lt p end) && not b)) → s ≡ (o || ((nat_le from p && nat_lt p at) && not e))
    → (at ≤ p → p < end → e ≡ b) → n ≡ (o || ((nat_le from p && nat_lt p end) && not e))
none_excepted n s o e b p from at end le to step before free = elim (cases_lt p at) [
  | inl lt ↦
      let a : nat_lt p at ≡ true = grind (arith, nat_tests) in
      let c : nat_lt p end ≡ true = grind (arith, nat_tests) in
      let d : nat_le at p ≡ false = grind (arith, nat_tests) in
      step ∙ rw d (or_false s) ∙ before ∙ rw (a, c) refl
  | inr ge ↦ elim (cases_lt p end) [
    | inl lt ↦
        let a : nat_lt p at ≡ false = grind (arith, nat_tests) in
        let c : nat_lt p end ≡ true = grind (arith, nat_tests) in
        let d : nat_le at p ≡ true = grind (arith, nat_tests) in
        let f : nat_le from p ≡ true = grind (arith, nat_tests) in
        let s0 : s ≡ o = before ∙ rw (a, f) (or_false o) in
        step ∙ ap (λ s. s || ((nat_le at p && nat_lt p end) && not b)) s0 ∙ ap (λ b. o || ((nat_le at p && nat_lt p end) && not b)) (sym (free ge lt)) ∙ rw (c, d, f) refl
    | inr ge' ↦
        let a : nat_lt p at ≡ false = grind (arith, nat_tests) in
        let c : nat_lt p end ≡ false = grind (arith, nat_tests) in
        let none : (x : Bool) → (x && false) ≡ false = and_false in
        let s0 : s ≡ o = before ∙ rw a (rw (none (nat_le from p)) (or_false o)) in
        step ∙ rw c (rw (none (nat_le at p), none (nat_le from p)) (ap (λ s. s || false) s0))
  ]
]

pub false_true : {A : Type 0} → false ≡ true → A
false_true h = elim (false≢true h) [ ]

-- what two stretches say of both sets together
pub both_held : (a i h1 h2 : Bool) → ((h1 ≡ true) × (a ≡ h1)) ⊎ (((h2 ≡ true) × (i ≡ h2)) ⊎ ((a ≡ h1) × (i ≡ h2))) → (a || i) ≡ (h1 || h2)
both_held a i h1 h2 (inl x) = rw (x.1, x.0) refl
both_held a i h1 h2 (inr (inl x)) = ap (λ i. a || i) (x.1 ∙ x.0) ∙ or_true a ∙ sym (ap (λ h. h1 || h) x.0 ∙ or_true h1)
both_held a i h1 h2 (inr (inr x)) = rw (x.0, x.1) refl

pub nested : (l t i : Bool) → (l || (t || i)) ≡ ((l || t) || i)
nested = or_assoc

-- all of it is excepted, or nothing
pub none_left : (h e r : Bool) → (e || r) ≡ e → h ≡ (h || (r && not e))
none_left h true r is = sym (ap (λ t. h || t) (and_false r) ∙ or_false h)
none_left h false r is = sym (ap (λ t. h || t) (ap (λ r. r && true) is) ∙ or_false h)

pub same_end : (p from at to : ℕ) → to ≤ at → at ≤ max from to → (nat_le from p && nat_lt p at) ≡ (nat_le from p && nat_lt p to)
same_end p from at to le most = elim (cases_lt p from) [
  | inl lt ↦ let a : nat_le from p ≡ false = grind (arith, nat_tests) in rw a refl
  | inr ge ↦ elim (cases_lt from to) [
    | inl some ↦ let e : at ≡ to = omega arith in rw e refl
    | inr none ↦
        let a : nat_lt p at ≡ false = grind (arith, nat_tests) in
        let b : nat_lt p to ≡ false = grind (arith, nat_tests) in
        rw (a, b) refl
  ]
]

-- one of the grids has all places of others
pub among_covers : (l b r : Bool) (ss : List Grid) (i : ℕ) (s : Grid) (p : ℕ) → i < length ss → s ≡ get_or ss i s → (in_grid s p || r) ≡ in_grid s p
    → (((l || in_grids ss p) || b) || r) ≡ ((l || in_grids ss p) || b)
among_covers l b r ss i s p lt is all = elim (cases_Bool (in_grid s p)) [
  | inl here ↦ rw (among ss i s p lt is here) (go (or_true l))
  | inr away ↦
      let none : r ≡ false = (let e : (false || r) ≡ false = sym (ap (λ t. t || r) away) ∙ all ∙ away in e) in
      rw none (or_false ((l || in_grids ss p) || b))
]
  where
    go : (l || true) ≡ true → (((l || true) || b) || r) ≡ ((l || true) || b)
    go h = rw h refl

pub not_false : (b : Bool) → not b ≡ false → b ≡ true
not_false true h = refl
not_false false h = absurd (false≢true (sym h))

pub not_true : (b : Bool) → not b ≡ true → b ≡ false
not_true true h = false_true h
not_true false h = refl

-- grids, the rest of them and words are put together
pub merged : (a r v w mw s ml ms : Bool) → v ≡ ((w || mw) || r) → (a || r) ≡ (((s || false) || ml) || ms) → (a || v) ≡ ((s || w) || ((ml || ms) || mw))
merged a r v w mw s ml ms set is =
    ap (λ t. a || t) set ∙ aside a (w || mw) r ∙ ap (λ t. t || (w || mw)) is ∙ turn s ml ms w mw
  where
    aside : (a b r : Bool) → (a || (b || r)) ≡ ((a || r) || b)
    aside true b r = refl
    aside false b r = or_comm b r

    turn : (s ml ms w mw : Bool) → ((((s || false) || ml) || ms) || (w || mw)) ≡ ((s || w) || ((ml || ms) || mw))
    turn true ml ms w mw = refl
    turn false true ms true mw = refl
    turn false true ms false mw = refl
    turn false false true true mw = refl
    turn false false true false mw = refl
    turn false false false true mw = refl
    turn false false false false mw = refl
