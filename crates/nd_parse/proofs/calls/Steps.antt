-- Reading a rule as its function does.
use Rattle.std.proofs.Common.{◌≡◌, ◌≢◌, ◌+◌, ◌-◌, ℕ, zero, suc, List, Result, Ok, Err, refl, ap, ◌∙◌, arith}
use Rattle.nd_model.specs.Grammar.Grammar.{Gram, Then}
use Rattle.nd_model.specs.Grammar.Predict.{Look, read, ◌>>=◌}
use Rattle.nd_model.specs.Grammar.Token as model
use Rattle.nd_model.specs.Grammar.Kinds.{kind, OPEN, CLOSE, SIGN, POWER}
use Rattle.nd_model.specs.Grammar.Cells.{Anywhere, Level, Inside, enter, token, under, between, suffix, exponent, signed, unary, operation, arange, filled, full, new_array, broadcast_to, two, reduce, accumulate, axes, lengths, reduction, reduction_options, accumulation}
use Rattle.nd_model.proofs.Parsing.Looks.{look_suffix, known}
use Rattle.nd_model.proofs.Parsing.Loops.{Shrinks, shrinks}
use Rattle.nd_parse.specs.declared.reader.read.Failure.{Failure}
use Rattle.nd_parse.specs.Reader.Gives.{Fails, inside}
use Rattle.nd_parse.proofs.reader.Levels.{enter_in}
use Rattle.nd_parse.proofs.reader.Stops.{fails_on}
use Rattle.nd_parse.specs.Calls.Readers.{opens, with_sign, arange_body, filled_body, full_body, new_array_body, broadcast_to_body, two_body, reduce_body, accumulate_body, axes_body, lengths_body, accumulation_body}

-- ---- levels

pub signed_is : (n : ℕ) (ts : List model.Token) → n ≢ 0 → read kind (signed (under n)) ts ≡ read kind (with_sign (unary Anywhere (under (n - 1)))) ts
unfolding signed
signed_is n ts z = enter_in n SIGN (λ i. with_sign i.unary) ts z

pub exponent_is : (n : ℕ) (ts : List model.Token) → n ≢ 0 → read kind (exponent (under n)) ts ≡ read kind (operation POWER (unary Anywhere (under (n - 1)))) ts
unfolding exponent
exponent_is n ts z = enter_in n POWER (λ i. operation POWER i.unary) ts z

-- what stands in brackets, with the one that ends it
abbrev pub ends : {A : Type 0} → Gram model.Token A → Gram model.Token A
ends part = Then (λ x _. x) part (token CLOSE)

ok_again : {A E : Type 0} (r : Result A E) → (r >>= λ x. Ok x) ≡ r
ok_again (Ok x) = refl
ok_again (Err e) = refl

opened : {A : Type 0} (body : Inside → Gram model.Token A) (n : ℕ) (ts : List model.Token)
    → read kind (enter (under n) OPEN (λ i. between OPEN (body i) CLOSE)) ts ≡ (read kind (opens OPEN (under n)) ts >>= λ x. read kind (ends (body (inside (n - 1)))) x.1 >>= λ y. Ok y)
unfolding under
opened body zero ts = refl
opened body (suc n) ts = let e : suc n - 1 ≡ n = omega arith in rw e refl

-- A rule in brackets, behind the one that opens its level.
abbrev pub Enters : {A : Type 0} → (Level → Gram model.Token A) → (Inside → Gram model.Token A) → Type 0
Enters rule body =
    (n m : ℕ) (ts : List model.Token) (t : model.Token) (rest : List model.Token) → n ≡ m + 1 → read kind (opens OPEN (under n)) ts ≡ Ok (t, rest)
    → read kind (rule (under n)) ts ≡ read kind (ends (body (inside m))) rest

enters : {A : Type 0} (body : Inside → Gram model.Token A) → Enters (λ l. enter l OPEN (λ i. between OPEN (body i) CLOSE)) body
enters body n m ts t rest e r =
    let d : n - 1 ≡ m = omega (arith, e) in
    opened body n ts ∙ rw (r, d) (ok_again (read kind (ends (body (inside m))) rest))

-- A rule in brackets is refused where the one that opens its level is.
abbrev pub Refuses : {A : Type 0} → (Level → Gram model.Token A) → Type 0
Refuses rule = (n : ℕ) (ts : List model.Token) (e : Failure) → Fails e (read kind (opens OPEN (under n)) ts) → Fails e (read kind (rule (under n)) ts)

refuses : {A : Type 0} (body : Inside → Gram model.Token A) → Refuses (λ l. enter l OPEN (λ i. between OPEN (body i) CLOSE))
refuses body n ts e h = rw (opened body n ts) (fails_on e (read kind (opens OPEN (under n)) ts) (λ x. read kind (ends (body (inside (n - 1)))) x.1 >>= λ y. Ok y) h)

pub arange_is : Enters arange arange_body
unfolding arange
arange_is = enters arange_body

pub arange_refused : Refuses arange
unfolding arange
arange_refused = refuses arange_body

pub filled_is : Enters filled filled_body
unfolding filled
filled_is = enters filled_body

pub filled_refused : Refuses filled
unfolding filled
filled_refused = refuses filled_body

pub full_is : Enters full full_body
unfolding full
full_is = enters full_body

pub full_refused : Refuses full
unfolding full
full_refused = refuses full_body

pub new_array_is : Enters new_array new_array_body
unfolding new_array
new_array_is = enters new_array_body

pub new_array_refused : Refuses new_array
unfolding new_array
new_array_refused = refuses new_array_body

pub broadcast_to_is : Enters broadcast_to broadcast_to_body
unfolding broadcast_to
broadcast_to_is = enters broadcast_to_body

pub broadcast_to_refused : Refuses broadcast_to
unfolding broadcast_to
broadcast_to_refused = refuses broadcast_to_body

pub two_is : Enters two two_body
unfolding two
two_is = enters two_body

pub two_refused : Refuses two
unfolding two
two_refused = refuses two_body

pub reduce_is : Enters reduce reduce_body
unfolding reduce
reduce_is = enters reduce_body

pub reduce_refused : Refuses reduce
unfolding reduce
reduce_refused = refuses reduce_body

pub accumulate_is : Enters accumulate accumulate_body
unfolding accumulate
accumulate_is = enters accumulate_body

pub accumulate_refused : Refuses accumulate
unfolding accumulate
accumulate_refused = refuses accumulate_body

pub axes_is : Enters axes axes_body
unfolding axes
axes_is = enters axes_body

pub axes_refused : Refuses axes
unfolding axes
axes_refused = refuses axes_body

pub lengths_is : Enters lengths lengths_body
unfolding lengths
lengths_is = enters lengths_body

pub lengths_refused : Refuses lengths
unfolding lengths
lengths_refused = refuses lengths_body

pub reduction_is : Enters reduction reduction_options
unfolding reduction
reduction_is = enters reduction_options

pub reduction_refused : Refuses reduction
unfolding reduction
reduction_refused = refuses reduction_options

pub accumulation_is : Enters accumulation accumulation_body
unfolding accumulation
accumulation_is = enters accumulation_body

pub accumulation_refused : Refuses accumulation
unfolding accumulation
accumulation_refused = refuses accumulation_body

-- ---- parts that take a token

pub suffix_shrinks : (levels : ℕ) → Shrinks kind (suffix (under levels))
suffix_shrinks levels =
    let looked = look_suffix (under levels) (known levels) in
    shrinks kind (suffix (under levels)) (ap (λ (l : Look). l.fits) looked) (ap (λ (l : Look). l.empty) looked)
