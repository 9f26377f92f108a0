-- What the kind of a token tells of it, and of the token after it.
use Rattle.std.proofs.Common.{◌≡◌, ◌+◌, ◌==◌, ◌<◌, ◌||◌, ◌≢◌, inl, inr, nat_lt, ℕ, zero, suc, Bool, true, false, cond, List, [], ◌∷◌, refl, ◌∙◌, arith}
use Rattle.std.specs.Prelude.{codes, bytes_eq, ◌&&◌, not}
use Rattle.std.proofs.lemmas.Bool.{eqb-true, eqb-false, ltb-true}
use Rattle.nd_model.specs.Grammar.Grammar.{has}
use Rattle.nd_model.specs.Grammar.Predict.{next_in}
use Rattle.nd_model.specs.Grammar.Token.{Word, Name, Keyword, Token}
use Rattle.nd_model.specs.Grammar.Kinds.{kind_of_symbol, kind_in, keyword_kinds, name_kinds, before, before_next, is_before, is_before_name, holds_comma, refined, kind_of_word, kind_of, kind, NAME, BOUND, OPERAND, PLACE, ASSIGNMENT, SUFFIX}
use Rattle.nd_model.proofs.Parsing.Sets.{which, and_true, not_not}

-- ---- tests of kinds

pub or_second : (a b : Bool) → a ≡ false → (a || b) ≡ true → b ≡ true
or_second true b p h = absurd cc
or_second false b p h = h

by_test : (P : ℕ → Type 0) (b : Bool) (m n : ℕ) → P m → P n → P (cond b m n)
by_test P true m n p q = p
by_test P false m n p q = q

-- by the test, which holds where the first is chosen
chosen_by : (P : ℕ → Type 0) (b : Bool) (m n : ℕ) → (b ≡ true → P m) → P n → P (cond b m n)
chosen_by P true m n p q = p refl
chosen_by P false m n p q = q

-- the test holds of each kind of the table
abbrev pub each : (ℕ → Bool) → List (List ℕ × ℕ) → Bool
each f [] = true
each f (e ∷ es) = f e.1 && each f es

pub by_table : (f : ℕ → Bool) (table : List (List ℕ × ℕ)) (other : ℕ) (n : List ℕ) → (f other && each f table) ≡ true → f (kind_in table other n) ≡ true
by_table f table other n h = go table (and_true _ _ h).1
  where
    go : (table : List (List ℕ × ℕ)) → each f table ≡ true → f (kind_in table other n) ≡ true
    go [] q = (and_true _ _ h).0
    go (e ∷ es) q = let r = and_true _ _ q in by_test (λ k. f k ≡ true) (bytes_eq n e.0) e.1 _ r.0 (go es r.1)

-- the test holds of each kind below
abbrev pub all_below : ℕ → (ℕ → Bool) → Bool
all_below zero f = true
all_below (suc n) f = f n && all_below n f

by_kind : (f : ℕ → Bool) (n k : ℕ) → all_below n f ≡ true → k < n → f k ≡ true
by_kind f zero k h lt = absurd (omega arith)
by_kind f (suc n) k h lt = go (k == n) refl (λ s. by_kind f n k (and_true _ _ h).1 s)
  where
    go : (b : Bool) → (k == n) ≡ b → (k < n → f k ≡ true) → f k ≡ true
    go true e q = (let s : k ≡ n = eqb-true _ _ e in rw s (and_true _ _ h).0)
    go false e q = (let ne : k ≢ n = eqb-false _ _ e in q (omega arith))

-- the test holds of each kind of a symbol
abbrev pub symbols : (ℕ → Bool) → Bool
symbols f = f 126 && all_below 40 f

pub by_symbol : (f : ℕ → Bool) (w : Word) → symbols f ≡ true → f (kind_of_symbol w) ≡ true
by_symbol f w h = let p = and_true _ _ h in go (kind_of_symbol w) (is_symbol w) p.0 p.1
  where
    is_symbol : (w : Word) → (nat_lt (kind_of_symbol w) 40 || kind_of_symbol w == 126) ≡ true
    is_symbol (Name n) = refl
    is_symbol _ = refl

    go : (k : ℕ) → (nat_lt k 40 || k == 126) ≡ true → f 126 ≡ true → all_below 40 f ≡ true → f k ≡ true
    go k e p q = elim (which (nat_lt k 40)) [
      | inl l ↦ by_kind f 40 k q (ltb-true k 40 l)
      | inr l ↦ (let s : k ≡ 126 = eqb-true _ _ (or_second _ _ l e) in rw s p)
    ]

-- where the one holds the other does
abbrev pub implied : Bool → Bool → Bool
implied a b = not a || b

pub so : (a b : Bool) → implied a b ≡ true → a ≡ true → b ≡ true
so true b h e = h
so false b h e = absurd cc

-- the test holds of each kind of a symbol, and of the kind that it has before some tokens
abbrev pub both_kinds : (ℕ → ℕ → Bool) → Bool
both_kinds f = symbols (λ k. f k k) && f 16 30 && f 16 37 && f 12 31 && f 12 36 && f 20 32 && f 20 35

pub by_both : (f : ℕ → ℕ → Bool) (w : Word) (rest : List Token) → both_kinds f ≡ true → f (kind_of_symbol w) (refined (kind_of_symbol w) rest) ≡ true
by_both f w rest h =
    let p = and_true _ _ h in
    let q = and_true _ _ p.0 in
    let r = and_true _ _ q.0 in
    let s = and_true _ _ r.0 in
    let t = and_true _ _ s.0 in
    let u = and_true _ _ t.0 in
    go (kind_of_symbol w) (by_symbol (λ k. f k k) w u.0) u.1 t.1 s.1 r.1 q.1 p.1
  where
    at_kind : (k n m : ℕ) (b c : Bool) → f n m ≡ true → (k == n && b) ≡ c → c ≡ true → f k m ≡ true
    at_kind k n m b c h e t = let s : k ≡ n = eqb-true _ _ (and_true _ _ (e ∙ t)).0 in rw s h

    go : (k : ℕ) → f k k ≡ true → f 16 30 ≡ true → f 16 37 ≡ true → f 12 31 ≡ true → f 12 36 ≡ true → f 20 32 ≡ true → f 20 35 ≡ true → f k (refined k rest) ≡ true
    go k o a b c d x y =
        chosen_by (λ m. f k m ≡ true) (k == 16 && is_before 15 rest) 30 _ (at_kind k 16 30 _ _ a refl)
        (chosen_by (λ m. f k m ≡ true) (k == 16 && is_before 13 rest) 37 _ (at_kind k 16 37 _ _ b refl)
        (chosen_by (λ m. f k m ≡ true) (k == 12 && is_before 13 rest) 31 _ (at_kind k 12 31 _ _ c refl)
        (chosen_by (λ m. f k m ≡ true) (k == 12 && holds_comma 0 rest) 36 _ (at_kind k 12 36 _ _ d refl)
        (chosen_by (λ m. f k m ≡ true) (k == 20 && is_before_name (codes "newaxis") rest) 32 _ (at_kind k 20 32 _ _ x refl)
        (chosen_by (λ m. f k m ≡ true) (k == 20 && is_before_name (codes "save") rest) 35 _ (at_kind k 20 35 _ _ y refl) o)))))

pub by_before : (P : ℕ → Type 0) (rest : List Token) → P 0 → P 1 → P 2 → P (before_next rest)
by_before P [] p0 p1 p2 = p0
by_before P (t ∷ rest) p0 p1 p2 =
    by_test P (kind_of_symbol t.word == 17 || kind_of_symbol t.word == 18) 1 _ p1 (by_test P (kind_of_symbol t.word == 12) 2 0 p2 p0)

pub by_place : (P : ℕ → Type 0) (t : Token) (rest : List Token) → P 127 → P (kind_of_word t.word rest) → P (kind_of t rest)
by_place P t rest p q = by_test P (t.starts && not (t.column == 1)) 127 _ p q

-- a kind of a name, and the two behind it, are not in the set
abbrev pub outside : ℕ → ℕ → Bool
outside set k = not (has set k) && not (has set (k + 1)) && not (has set (k + 2))

-- no kind of a name is in the set
abbrev pub IsNameless : ℕ → Type 0
IsNameless set = (outside set 40 && each (outside set) name_kinds) ≡ true

pub no_name : (set : ℕ) (n : List ℕ) (rest : List Token) → IsNameless set → has set (kind_in name_kinds 40 n + before_next rest) ≡ false
no_name set n rest h =
    let p = and_true _ _ (by_table (outside set) name_kinds 40 n h) in
    let q = and_true _ _ p.0 in
    by_before (λ b. has set (kind_in name_kinds 40 n + b) ≡ false) rest
    (let z : kind_in name_kinds 40 n + 0 ≡ kind_in name_kinds 40 n = omega arith in rw z (not_not _ q.0)) (not_not _ q.1) (not_not _ p.1)

pub no_keyword : (set : ℕ) (k : List ℕ) → (not (has set 126) && each (λ k. not (has set k)) keyword_kinds) ≡ true → has set (kind_in keyword_kinds 126 k) ≡ false
no_keyword set k h = not_not _ (by_table (λ k. not (has set k)) keyword_kinds 126 k h)

-- ---- the token after a name

-- what a word of the set says to a name before it
module _ (set place : ℕ) where
  abbrev tells : ℕ → ℕ → Bool
  tells k m = implied (has set m) (before k == place)

  told_by : (w : Word) (rest : List Token) → IsNameless set → (not (has set 126) && each (λ k. not (has set k)) keyword_kinds) ≡ true → both_kinds tells ≡ true
      → has set (kind_of_word w rest) ≡ true → before (kind_of_symbol w) ≡ place
  told_by (Name n) rest a b c h = absurd (let k = no_name set n rest a in cc)
  told_by (Keyword k) rest a b c h = absurd (let k = no_keyword set k b in cc)
  told_by w rest a b c h = eqb-true _ _ (so (has set (refined (kind_of_symbol w) rest)) (before (kind_of_symbol w) == place) (by_both tells w rest c) h)

  pub told : (ts : List Token) → has set 127 ≡ false → IsNameless set → (not (has set 126) && each (λ k. not (has set k)) keyword_kinds) ≡ true → both_kinds tells ≡ true
      → next_in kind set ts ≡ true → before_next ts ≡ place
  told [] o a b c h = absurd cc
  told (t ∷ rest) o a b c h = by_place (λ k. has set k ≡ true → before (kind_of_symbol t.word) ≡ place) t rest (λ h. absurd cc) (told_by t.word rest a b c) h

before_assignment : (ts : List Token) → next_in kind ASSIGNMENT ts ≡ true → before_next ts ≡ 1
unfolding has name_kinds keyword_kinds
before_assignment ts h = told ASSIGNMENT 1 ts refl refl refl refl h

before_suffix : (ts : List Token) → next_in kind SUFFIX ts ≡ true → before_next ts ≡ 0
unfolding has name_kinds keyword_kinds
before_suffix ts h = told SUFFIX 0 ts refl refl refl refl h

-- ---- the kind of a name

bound_word : (w : Word) (rest : List Token) → before_next rest ≡ 1 → has NAME (kind_of_word w rest) ≡ true → has BOUND (kind_of_word w rest) ≡ true
unfolding has name_kinds keyword_kinds
bound_word (Name n) rest e h = rw e (by_table (λ k. has BOUND (k + 1)) name_kinds 40 n refl)
bound_word (Keyword k) rest e h = absurd (let p = no_keyword NAME k refl in cc)
bound_word w rest e h = absurd (let p = so _ false (by_both (λ k m. implied (has NAME m) false) w rest refl) h in cc)

-- a name before an operator of assignment
pub bound_name : (t : Token) (rest : List Token) → next_in kind ASSIGNMENT rest ≡ true → has NAME (kind (t ∷ rest)) ≡ true → has BOUND (kind (t ∷ rest)) ≡ true
unfolding has
bound_name t rest n h =
    by_place (λ k. has NAME k ≡ true → has BOUND k ≡ true) t rest (λ h. absurd cc) (bound_word t.word rest (before_assignment rest n)) h

place_word : (w : Word) (rest : List Token) → before_next rest ≡ 0 → has OPERAND (kind_of_word w rest) ≡ true → has PLACE (kind_of_word w rest) ≡ true
unfolding has name_kinds keyword_kinds
place_word (Name n) rest e h = rw e (by_table (λ k. has PLACE (k + 0)) name_kinds 40 n refl)
place_word (Keyword k) rest e h = so _ _ (by_table (λ k. implied (has OPERAND k) (has PLACE k)) keyword_kinds 126 k refl) h
place_word w rest e h = so _ _ (by_both (λ k m. implied (has OPERAND m) (has PLACE m)) w rest refl) h

-- an operand before an index or a method
pub place_operand : (t : Token) (rest : List Token) → next_in kind SUFFIX rest ≡ true → has OPERAND (kind (t ∷ rest)) ≡ true → has PLACE (kind (t ∷ rest)) ≡ true
unfolding has
place_operand t rest n h =
    by_place (λ k. has OPERAND k ≡ true → has PLACE k ≡ true) t rest (λ h. absurd cc) (place_word t.word rest (before_suffix rest n)) h

-- ---- how many kinds there are

below_bits : (w : Word) (rest : List Token) → nat_lt (kind_of_word w rest) 128 ≡ true
unfolding name_kinds keyword_kinds
below_bits (Name n) rest =
    by_before (λ b. nat_lt (kind_in name_kinds 40 n + b) 128 ≡ true) rest
    (by_table (λ k. nat_lt (k + 0) 128) name_kinds 40 n refl)
    (by_table (λ k. nat_lt (k + 1) 128) name_kinds 40 n refl)
    (by_table (λ k. nat_lt (k + 2) 128) name_kinds 40 n refl)
below_bits (Keyword k) rest = by_table (λ k. nat_lt k 128) keyword_kinds 126 k refl
below_bits w rest = by_both (λ k m. nat_lt m 128) w rest refl

pub word_below : (w : Word) (rest : List Token) → kind_of_word w rest < 128
word_below w rest = ltb-true _ _ (below_bits w rest)
