-- Sets of kinds that hold all kinds of a token, or none, and parts of grammars with such sets at each place.
use Rattle.std.proofs.Common.{◌≡◌, ◌+◌, ◌==◌, ℕ, zero, suc, Bool, true, false, cond, List, inl, inr, refl, sym, ap, ◌∙◌, arith}
use Rattle.std.specs.Prelude.{◌&&◌, ◌||◌, not, bit_or, max}
use Rattle.std.specs.Int.{bit_at}
use Rattle.std.proofs.lemmas.Bool.{eqb-true}
use Rattle.std.proofs.lemmas.Nat.Bits.{bit_at_or}
use Rattle.nd_model.specs.Grammar.Grammar.{Gram, Done, Here, One, Then, Or, Many, Shut, has}
use Rattle.nd_model.specs.Grammar.Predict.{look}
use Rattle.nd_model.specs.Grammar.Token.{Word, Name, Keyword, Token}
use Rattle.nd_model.specs.Grammar.Kinds.{kind_of_symbol, kind_in, name_kinds, before_next, refined, kind_of_word}
use Rattle.nd_model.specs.Grammar.Lookahead.{IsSettled, from, AreSettled}
use Rattle.nd_model.proofs.Parsing.Sets.{which, and_true, and_both, eq-true}
use Rattle.nd_model.proofs.Parsing.Words.{or_second, by_table, all_below, by_both, by_before}

-- ---- sets

-- both kinds are in the set, or neither is
abbrev pub same : ℕ → ℕ → ℕ → Bool
same set k m = bit_at set k == bit_at set m

-- a kind of a name, and the two behind it
abbrev pub triple : ℕ → ℕ → Bool
triple set k = same set k (k + 1) && same set k (k + 2)

abbrev pub symbols_settled : ℕ → Bool
symbols_settled set = same set 16 30 && same set 16 37 && same set 12 31 && same set 12 36 && same set 20 32 && same set 20 35

-- the test holds of every third number, n times from this one on
abbrev thirds_hold : (ℕ → Bool) → ℕ → ℕ → Bool
thirds_hold f zero k = true
thirds_hold f (suc n) k = f k && thirds_hold f n (k + 3)

abbrev pub names_settled : ℕ → Bool
names_settled set = thirds_hold (triple set) 26 40

abbrev pub settled : ℕ → Bool
settled set = symbols_settled set && names_settled set

same_or : (a b k m : ℕ) → same a k m ≡ true → same b k m ≡ true → same (bit_or a b) k m ≡ true
same_or a b k m p q =
    let x : bit_at a k ≡ bit_at a m = eqb-true _ _ p in
    let y : bit_at b k ≡ bit_at b m = eqb-true _ _ q in
    eq-true _ _ (bit_at_or a b k ∙ ap (λ n. max n (bit_at b k)) x ∙ ap (max (bit_at a m)) y ∙ sym (bit_at_or a b m))

and_or : (f g h : Bool) → (f ≡ true → g ≡ true → h ≡ true) → (i j k : Bool) → (i ≡ true → j ≡ true → k ≡ true) → (f && i) ≡ true → (g && j) ≡ true → (h && k) ≡ true
and_or f g h p i j k q x y =
    let a = and_true f i x in
    let b = and_true g j y in
    and_both h k (p a.0 b.0) (q a.1 b.1)

triple_or : (a b k : ℕ) → triple a k ≡ true → triple b k ≡ true → triple (bit_or a b) k ≡ true
triple_or a b k = and_or _ _ _ (same_or a b k (k + 1)) _ _ _ (same_or a b k (k + 2))

names_or : (a b n k : ℕ) → thirds_hold (triple a) n k ≡ true → thirds_hold (triple b) n k ≡ true → thirds_hold (triple (bit_or a b)) n k ≡ true
names_or a b zero k p q = refl
names_or a b (suc n) k p q = and_or _ _ _ (triple_or a b k) _ _ _ (names_or a b n (k + 3)) p q

symbols_or : (a b : ℕ) → symbols_settled a ≡ true → symbols_settled b ≡ true → symbols_settled (bit_or a b) ≡ true
symbols_or a b =
    and_or _ _ _ (and_or _ _ _ (and_or _ _ _ (and_or _ _ _ (and_or _ _ _ (same_or a b 16 30) _ _ _ (same_or a b 16 37)) _ _ _ (same_or a b 12 31)) _ _ _ (same_or a b 12 36)) _ _ _ (same_or a b 20 32)) _ _ _ (same_or a b 20 35)

pub settled_or : (a b : ℕ) → settled a ≡ true → settled b ≡ true → settled (bit_or a b) ≡ true
settled_or a b = and_or _ _ _ (symbols_or a b) (names_settled a) (names_settled b) (names_settled (bit_or a b)) (names_or a b 26 40)

-- ---- tokens

same_self : (set k : ℕ) → same set k k ≡ true
same_self set k = eq-true _ _ refl

all_same : (set n : ℕ) → all_below n (λ k. same set k k) ≡ true
all_same set zero = refl
all_same set (suc n) = and_both _ _ (same_self set n) (all_same set n)

has_same : (set k m : ℕ) → same set k m ≡ true → has set m ≡ has set k
unfolding has
has_same set k m h = let e : bit_at set k ≡ bit_at set m = eqb-true _ _ h in ap (λ b. b == 1) (sym e)

symbol_same : (set : ℕ) (w : Word) (rest : List Token) → symbols_settled set ≡ true → has set (refined (kind_of_symbol w) rest) ≡ has set (kind_of_symbol w)
symbol_same set w rest h =
    let p = and_true _ _ h in
    let q = and_true _ _ p.0 in
    let r = and_true _ _ q.0 in
    let s = and_true _ _ r.0 in
    let t = and_true _ _ s.0 in
    has_same set _ _ (by_both (same set) w rest
    (and_both _ _ (and_both _ _ (and_both _ _ (and_both _ _ (and_both _ _ (and_both _ _ (and_both _ _ (same_self set 126) (all_same set 40)) t.0) t.1) s.1) r.1) q.1) p.1))

-- one of the numbers of which the test holds
abbrev is_third : ℕ → ℕ → ℕ → Bool
is_third zero k m = false
is_third (suc n) k m = m == k || is_third n (k + 3) m

by_third : (f : ℕ → Bool) (n k m : ℕ) → thirds_hold f n k ≡ true → is_third n k m ≡ true → f m ≡ true
by_third f zero k m h e = absurd cc
by_third f (suc n) k m h e = let p = and_true _ _ h in elim (which (m == k)) [
  | inl s ↦ (let t : m ≡ k = eqb-true _ _ s in rw t p.0)
  | inr s ↦ by_third f n (k + 3) m p.1 (or_second _ _ s e)
]

name_is_third : (n : List ℕ) → is_third 26 40 (kind_in name_kinds 40 n) ≡ true
unfolding name_kinds
name_is_third n = by_table (is_third 26 40) name_kinds 40 n refl

name_same : (set : ℕ) (n : List ℕ) (rest : List Token) → names_settled set ≡ true → has set (kind_in name_kinds 40 n + before_next rest) ≡ has set (kind_in name_kinds 40 n)
name_same set n rest h =
    let p = and_true _ _ (by_third (triple set) 26 40 (kind_in name_kinds 40 n) h (name_is_third n)) in
    by_before (λ b. has set (kind_in name_kinds 40 n + b) ≡ has set (kind_in name_kinds 40 n)) rest
    (let z : kind_in name_kinds 40 n + 0 ≡ kind_in name_kinds 40 n = omega arith in rw z refl)
    (has_same set _ _ p.0) (has_same set _ _ p.1)

word_same : (set : ℕ) (w : Word) (rest other : List Token) → settled set ≡ true → has set (kind_of_word w rest) ≡ has set (kind_of_word w other)
word_same set (Name n) rest other h = let p = and_true _ _ h in name_same set n rest p.1 ∙ sym (name_same set n other p.1)
word_same set (Keyword k) rest other h = refl
word_same set w rest other h = let p = and_true _ _ h in symbol_same set w rest p.0 ∙ sym (symbol_same set w other p.0)

pub settled_is : (set : ℕ) → settled set ≡ true → IsSettled set
settled_is set h t rest other = go (t.starts && not (t.column == 1)) (word_same set t.word rest other h)
  where
    go : (b : Bool) → has set (kind_of_word t.word rest) ≡ has set (kind_of_word t.word other) → has set (cond b 127 (kind_of_word t.word rest)) ≡ has set (cond b 127 (kind_of_word t.word other))
    go true e = refl
    go false e = e

-- ---- parts of grammars

abbrev pub places : {C : Type 0} → Gram Token C → ℕ → Bool
places (Done c) next = true
places (Here f) next = true
places (One set f) next = settled next
places (Then f a b) next = places a (from (look b) next) && places b next
places (Or set a b) next = places a next && places b next
places (Many set f a) next = places a (bit_or (look a).first next)
places (Shut set why) next = true

pub places_are : {C : Type 0} (g : Gram Token C) (next : ℕ) → places g next ≡ true → AreSettled g next
places_are (Done c) next h = tt
places_are (Here f) next h = tt
places_are (One set f) next h = settled_is next h
places_are (Then f a b) next h = let p = and_true _ _ h in (places_are a _ p.0, places_are b next p.1)
places_are (Or set a b) next h = let p = and_true _ _ h in (places_are a next p.0, places_are b next p.1)
places_are (Many set f a) next h = places_are a _ h
places_are (Shut set why) next h = tt
