-- Reading a rule that opens a level.
use Rattle.std.proofs.Common.{cond, ◌≡◌, ◌≢◌, ◌-◌, ℕ, zero, suc, List, length, Err, refl, ap, arith}
use Rattle.nd_model.specs.Grammar.Grammar.{Gram}
use Rattle.nd_model.specs.Grammar.Predict.{next_in, read}
use Rattle.nd_model.specs.Grammar.Token as model
use Rattle.nd_model.specs.Grammar.Kinds.{kind, OPEN, OPEN_NONE, OPEN_BRACKET, CLOSE, CLOSE_BRACKET}
use Rattle.nd_model.specs.Grammar.Cells.{too_deep, Inside, enter, under, between, quoted, no_lengths, empty, pair, fields, dtype, type_argument}
use Rattle.nd_model.proofs.Parsing.Loops.{Shrinks, one_shrinks, then_shrinks, shut_shrinks}
use Rattle.nd_token.specs.declared.token.Token.{Token}
use Rattle.nd_parse.specs.declared.reader.read.Reason.TheVariants as reasons
use Rattle.nd_parse.specs.Reader.Gives.{tokens_of, stop_of, inside}
use Rattle.nd_parse.specs.Reader.Parts.{quoted_text, closed, opened, field, some_fields, behind_comma}
use Rattle.nd_parse.proofs.reader.Stops.{shut_is}

pub enter_shut : {C : Type 0} (n set : ℕ) (k : Inside → Gram model.Token C) (ts : List Token) → n ≡ 0
    → read kind (enter (under n) set k) (tokens_of ts) ≡ Err (stop_of (record { left = length ts; why = cond (next_in kind set (tokens_of ts)) reasons.TooDeep reasons.Itself }))
unfolding under
enter_shut n set k ts z = rw z (ap (λ s. Err s) (shut_is ts (next_in kind set (tokens_of ts)) reasons.TooDeep))

pub enter_in : {C : Type 0} (n set : ℕ) (k : Inside → Gram model.Token C) (ts : List model.Token) → n ≢ 0
    → read kind (enter (under n) set k) ts ≡ read kind (k (inside (n - 1))) ts
unfolding under
enter_in zero set k ts z = absurd (z refl)
enter_in (suc n) set k ts z = let e : suc n - 1 ≡ n = omega arith in rw e refl

pub enter_shrinks : {C : Type 0} (n set : ℕ) (k : Inside → Gram model.Token C) → ((i : Inside) → Shrinks kind (k i)) → Shrinks kind (enter (under n) set k)
unfolding under
enter_shrinks zero set k s = shut_shrinks kind set too_deep
enter_shrinks (suc n) set k s = s (inside n)

pub comma_shrinks : {A : Type 0} (comma : ℕ) (part : Gram model.Token A) → Shrinks kind (behind_comma comma part)
comma_shrinks comma part = then_shrinks kind _ _ _ (one_shrinks kind comma (λ t. t))

-- ---- parts of calls, where a level may be opened

pub quoted_is : (n : ℕ) (ts : List model.Token) → n ≢ 0 → read kind (quoted (under n)) ts ≡ read kind (between OPEN quoted_text CLOSE) ts
unfolding quoted
quoted_is n ts z = enter_in n OPEN (λ i. between OPEN quoted_text CLOSE) ts z

pub no_lengths_is : (n : ℕ) (ts : List model.Token) → n ≢ 0 → read kind (no_lengths (under n)) ts ≡ read kind closed ts
unfolding no_lengths
no_lengths_is n ts z = enter_in n OPEN_NONE (λ i. closed) ts z

pub empty_is : (n : ℕ) (ts : List model.Token) → n ≢ 0 → read kind (empty (under n)) ts ≡ read kind opened ts
unfolding empty
empty_is n ts z = enter_in n OPEN (λ i. opened) ts z

pub pair_is : (n : ℕ) (ts : List model.Token) → n ≢ 0 → read kind (pair (under n)) ts ≡ read kind (between OPEN field CLOSE) ts
unfolding pair
pair_is n ts z = enter_in n OPEN (λ i. between OPEN field CLOSE) ts z

pub fields_is : (n : ℕ) (ts : List model.Token) → n ≢ 0 → read kind (fields (under n)) ts ≡ read kind (between OPEN_BRACKET (some_fields (under (n - 1))) CLOSE_BRACKET) ts
unfolding fields
fields_is n ts z = enter_in n OPEN_BRACKET (λ i. between OPEN_BRACKET (some_fields i.level) CLOSE_BRACKET) ts z

pub type_argument_is : (n : ℕ) (ts : List model.Token) → n ≢ 0 → read kind (type_argument (under n)) ts ≡ read kind (between OPEN (dtype (under (n - 1))) CLOSE) ts
unfolding type_argument
type_argument_is n ts z = enter_in n OPEN (λ i. between OPEN (dtype i.level) CLOSE) ts z
