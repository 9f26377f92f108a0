-- Reading the lines of a cell as a loop does.
use Rattle.std.proofs.Common.{◌≡◌, ◌-◌, ◌==◌, ℕ, zero, suc, true, false, List, [], ◌∷◌, ◌++◌, Result, Ok, Err, refl, sym, ap, arith, append_assoc, nat_lt, inl, inr}
use Rattle.std.proofs.lemmas.List.{append-nil}
use Rattle.std.proofs.lemmas.Bool.{lt-ltb, ltb-true, eqb-true}
use Rattle.nd_model.specs.Grammar.Grammar as grammar
use Rattle.nd_model.specs.Grammar.Grammar.{Gram}
use Rattle.nd_model.specs.Grammar.Predict.{next_in, stop, read}
use Rattle.nd_model.specs.Grammar.Token.{Token}
use Rattle.nd_model.specs.Grammar.Syntax.{Stmt, Line}
use Rattle.nd_model.specs.Grammar.Kinds.{kind, START, ANY}
use Rattle.nd_model.specs.Grammar.Cells.{too_many, line, lines}
use Rattle.nd_model.proofs.Parsing.Sets.{which, and_true, and_both, true_false}
use Rattle.nd_model.proofs.Parsing.Loops.{mapped}
use Rattle.nd_parse.specs.declared.reader.read.Failure.{Failure}
use Rattle.nd_parse.specs.Reader.Gives.{Fails}
use Rattle.nd_parse.specs.Cells.Readers.{goes_on, is_over}
use Rattle.nd_parse.proofs.reader.Stops.{fails_on}

-- what is left to read, behind these lines
abbrev pub after : Gram Token Stmt → List Line → ℕ → List Token → Result (List Line × List Token) grammar.Stop
after s before n ts = mapped (λ ls. before ++ ls) (read kind (lines s n) ts)

one_more : (l : Line) (before : List Line) (r : Result (List Line × List Token) grammar.Stop) → mapped (λ ls. before ++ ls) (mapped (λ ls. l ∷ ls) r) ≡ mapped (λ ls. (before ++ l ∷ []) ++ ls) r
one_more l before (Ok x) = ap (λ ls. Ok (ls, x.1)) (sym (append_assoc before (l ∷ []) x.0))
one_more l before (Err s) = refl

-- ---- what comes

starts : (n : ℕ) (ts : List Token) → goes_on (suc n) ts ≡ true → next_in kind START ts ≡ true
starts n ts h = (and_true (nat_lt 0 (suc n)) (next_in kind START ts) h).1

starts_not : (n : ℕ) (ts : List Token) → goes_on (suc n) ts ≡ false → next_in kind START ts ≡ false
starts_not n ts h = elim (which (next_in kind START ts)) [
  | inl p ↦ true_false _ (and_both (nat_lt 0 (suc n)) (next_in kind START ts) (lt-ltb 0 (suc n) (omega arith)) p) h
  | inr p ↦ p
]

none_left : (ts : List Token) → goes_on 0 ts ≡ true → ⊥
none_left ts h = let lt = ltb-true 0 0 (and_true (nat_lt 0 0) (next_in kind START ts) h).0 in omega arith

over : (ts : List Token) → is_over 0 ts ≡ true → next_in kind ANY ts ≡ true
over ts h = (and_true (0 == 0) (next_in kind ANY ts) h).1

over_not : (ts : List Token) → is_over 0 ts ≡ false → next_in kind ANY ts ≡ false
over_not ts h = elim (which (next_in kind ANY ts)) [ inl p ↦ true_false _ (and_both (0 == 0) (next_in kind ANY ts) refl p) h | inr p ↦ p ]

some_left : (n : ℕ) (ts : List Token) → is_over (suc n) ts ≡ true → ⊥
some_left n ts h = let e = eqb-true (suc n) 0 (and_true (suc n == 0) (next_in kind ANY ts) h).0 in omega arith

-- ---- the loop

pub lines_go_on : (s : Gram Token Stmt) (before : List Line) (n : ℕ) (ts rest : List Token) (l : Line) → goes_on n ts ≡ true → read kind (line s) ts ≡ Ok (l, rest)
    → after s before n ts ≡ after s (before ++ l ∷ []) (n - 1) rest
unfolding lines
lines_go_on s before zero ts rest l h e = absurd (none_left ts h)
lines_go_on s before (suc n) ts rest l h e =
    let one : suc n - 1 ≡ n = omega arith in
    rw (starts n ts h, e, one) (one_more l before (read kind (lines s n) rest))

pub lines_fail : (s : Gram Token Stmt) (before : List Line) (n : ℕ) (ts : List Token) (e : Failure) → goes_on n ts ≡ true → Fails e (read kind (line s) ts) → Fails e (after s before n ts)
unfolding lines
lines_fail s before zero ts e h f = absurd (none_left ts h)
lines_fail s before (suc n) ts e h f = rw (starts n ts h) (fails_on e _ _ (fails_on e _ _ f))

pub lines_over : (s : Gram Token Stmt) (before : List Line) (n : ℕ) (ts : List Token) → is_over n ts ≡ true → after s before n ts ≡ Err (stop too_many ts)
unfolding lines
lines_over s before zero ts h = rw (over ts h) refl
lines_over s before (suc n) ts h = absurd (some_left n ts h)

pub lines_end : (s : Gram Token Stmt) (before : List Line) (n : ℕ) (ts : List Token) → goes_on n ts ≡ false → is_over n ts ≡ false → after s before n ts ≡ Ok (before, ts)
unfolding lines
lines_end s before zero ts h o = rw (over_not ts o) (ap (λ ls. Ok (ls, ts)) (append-nil before))
lines_end s before (suc n) ts h o = rw (starts_not n ts h) (ap (λ ls. Ok (ls, ts)) (append-nil before))

pub lines_begin : (s : Gram Token Stmt) (before : List Line) (n : ℕ) (ts rest : List Token) → before ≡ [] → rest ≡ ts → after s before n rest ≡ read kind (lines s n) ts
lines_begin s before n ts rest none same = rw (none, same) (go (read kind (lines s n) ts))
  where
    go : (r : Result (List Line × List Token) grammar.Stop) → mapped (λ ls. [] ++ ls) r ≡ r
    go (Ok x) = refl
    go (Err s) = refl
