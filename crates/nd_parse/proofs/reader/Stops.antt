-- Where a reader stops, as its function says it, and one token that it reads.
use Rattle.std.proofs.Common.{cond, ◌≡◌, ℕ, Bool, true, false, List, [], ◌∷◌, inl, inr, length, Result, Ok, Err, refl, ap}
use Rattle.std.proofs.lemmas.List.{length-map}
use Rattle.nd_model.specs.Grammar.Grammar as grammar
use Rattle.nd_model.specs.Grammar.Grammar.{Gram, One, Many, has}
use Rattle.nd_model.specs.Grammar.Predict.{◌>>=◌, next_in, stop, read}
use Rattle.nd_model.specs.Grammar.Token as model
use Rattle.nd_model.specs.Grammar.Kinds.{kind}
use Rattle.nd_model.specs.Grammar.Cells.{token}
use Rattle.nd_model.proofs.Parsing.Sets.{chosen, ok_is}
use Rattle.nd_model.proofs.Parsing.Loops.{Shrinks, many_err}
use Rattle.nd_token.specs.declared.token.Token.{Token}
use Rattle.nd_parse.specs.declared.reader.read.Reason.{Reason}
use Rattle.nd_parse.specs.declared.reader.read.Reason.TheVariants as reasons
use Rattle.nd_parse.specs.declared.reader.read.Failure.{Failure}
use Rattle.nd_parse.specs.declared.reader.read.Failure.TheVariants as failures
use Rattle.nd_parse.specs.Reader.Gives.{tokens_of, reason_of, stop_of, Fails}

pub fails_on : {Y Z : Type 0} (e : Failure) (r : Result Y grammar.Stop) (k : Y → Result Z grammar.Stop) → Fails e r → Fails e (r >>= k)
fails_on (failures.Memory m) r k h = tt
fails_on (failures.Stopped s) r k h = rw h refl

pub many_fails : {A C : Type 0} (set : ℕ) (g : List A → C) (a : Gram model.Token A) (ts : List model.Token) (e : Failure) → Shrinks kind a → next_in kind set ts ≡ true
    → Fails e (read kind a ts) → Fails e (read kind (Many set g a) ts)
many_fails set g a ts (failures.Memory m) s h f = tt
many_fails set g a ts (failures.Stopped x) s h f = many_err kind set g a ts (stop_of x) s h f

-- the same stop, as the code has it
pub stop_is : (ts : List Token) (why : Reason) → stop (reason_of why) (tokens_of ts) ≡ stop_of (record { left = length ts; why = why })
stop_is ts why = ap (λ n. record { left = n; why = reason_of why }) (length-map ts _)

pub shut_is : (ts : List Token) (b : Bool) (why : Reason) → stop (cond b (reason_of why) 0) (tokens_of ts) ≡ stop_of (record { left = length ts; why = cond b why reasons.Itself })
shut_is ts true why = stop_is ts why
shut_is ts false why = stop_is ts reasons.Itself

-- ---- one token, as a rule sees it

pub one_is : {C : Type 0} (set : ℕ) (f : model.Token → C) (ts : List model.Token) (t : model.Token) (rest : List model.Token) → read kind (token set) ts ≡ Ok (t, rest) → read kind (One set f) ts ≡ Ok (f t, rest)
one_is set f [] t rest e = absurd cc
one_is {C} set f (u ∷ us) t rest e =
    elim (chosen (has set (kind (u ∷ us))) (Ok (u, us)) (Err (stop 0 (u ∷ us))) (Ok (t, rest)) e) [
      | inl c ↦ (let p = ok_is (u, us) (t, rest) c.1 in rw c.0 (ap (λ (q : model.Token × List model.Token). Ok (f q.0, q.1)) p))
      | inr c ↦ absurd (let h = c.1 in cc)
    ]
