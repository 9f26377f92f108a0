-- The keys that a cell reads, listed as it comes to them.
use Rattle.std.proofs.Common.{◌≡◌, ℕ, Bool, eqb, eqb-true, true, false, cond, not, ◌&&◌, ◌||◌, List, [], ◌∷◌, ◌++◌, length, Option, Some, None, Result, Ok, Err, refl, sym, ap, ap₂, ◌∙◌, inl, inr}
use Rattle.std.specs.Prelude.{nat_eq, nat_le}
use Rattle.std.proofs.lemmas.Bool.{cases_Bool}
use Rattle.nd_model.specs.Arrays.Value.{Base, same_base, Value, Int, Truth, Scalar, Array, Row}
use Rattle.nd_model.specs.Cells.Session.{Session, lookup}
use Rattle.nd_model.specs.Cells.Running.{Key, Name, Input, Length, Byte, OfRule, Inputs, Rule, Python, Atomic, World, Running, start, is_own, is_name, is_length, is_byte, is_length_of, Act, Lookup, Ask, Use, Make, asked, reply, after, Effect, Nothing, Prints, Saves, Binding, Unbinding, Storing, done, Output}
use Rattle.nd_model.specs.Cells.Fault.{Fault, Refusal}
use Rattle.nd_model.specs.Grammar.Syntax.{Stmt, Line, Parsed}
use Rattle.nd_model.specs.Cells.Evaluation.{Eval, Gives, Refuses, Asks, run}
use Rattle.nd_model.specs.Cells.Meaning.{meaning}
use Rattle.nd_model.specs.Cells.Cell.{Saved, Ended, had, statement, statements, and_then, with_save, most_text, ran, under, cell}
use Rattle.nd_model.proofs.Lists.{same_bytes}
use Rattle.nd_model.proofs.Storing.{equal_bases}
use Rattle.nd_exact.specs.Reads.{is_key, is_among, bytes_at, ReadsAreFinite}

-- ---- keys

or_false : (b : Bool) → (b || false) ≡ b
or_false true = refl
or_false false = refl

and_left : (a b : Bool) → (a && b) ≡ true → a ≡ true
and_left true b h = refl
and_left false b h = absurd (cc)

and_right : (a b : Bool) → (a && b) ≡ true → b ≡ true
and_right true b h = h
and_right false b h = absurd (cc)

pub same_key : (j k : Key) → is_key j k ≡ true → j ≡ k
same_key (Name n) (Name m) h = ap Name (same_bytes n m h)
same_key (Name n) (Input m) h = absurd (cc)
same_key (Name n) (Length c) h = absurd (cc)
same_key (Name n) (Byte c q) h = absurd (cc)
same_key (Name n) OfRule h = absurd (cc)
same_key (Input n) (Name m) h = absurd (cc)
same_key (Input n) (Input m) h = ap Input (same_bytes n m h)
same_key (Input n) (Length c) h = absurd (cc)
same_key (Input n) (Byte c q) h = absurd (cc)
same_key (Input n) OfRule h = absurd (cc)
same_key (Length b) (Name m) h = absurd (cc)
same_key (Length b) (Input m) h = absurd (cc)
same_key (Length b) (Length c) h = ap Length (equal_bases b c h)
same_key (Length b) (Byte c q) h = absurd (cc)
same_key (Length b) OfRule h = absurd (cc)
same_key (Byte b p) (Name m) h = absurd (cc)
same_key (Byte b p) (Input m) h = absurd (cc)
same_key (Byte b p) (Length c) h = absurd (cc)
same_key (Byte b p) (Byte c q) h =
    let place : eqb q p ≡ true = sym (or_false _) ∙ and_right _ _ h in
    ap₂ Byte (equal_bases b c (and_left _ _ h)) (sym (eqb-true q p place))
same_key (Byte b p) OfRule h = absurd (cc)
same_key OfRule (Name m) h = absurd (cc)
same_key OfRule (Input m) h = absurd (cc)
same_key OfRule (Length c) h = absurd (cc)
same_key OfRule (Byte c q) h = absurd (cc)
same_key OfRule OfRule h = refl

-- ---- lists of keys

abbrev pub keep : (Key → Bool) → List Key → List Key
keep test [] = []
keep test (j ∷ js) = cond (test j) (j ∷ keep test js) (keep test js)

-- these too, but for those that are the cell's own doing or stand there already
abbrev pub with_keys : Running → List Key → List Key → List Key
with_keys r js ks = ks ++ keep (λ j. not (is_own r j) && not (is_among ks j)) js

or_assoc : (a b c : Bool) → ((a || b) || c) ≡ (a || (b || c))
or_assoc true b c = refl
or_assoc false b c = refl

among-append : (ks js : List Key) (k : Key) → is_among (ks ++ js) k ≡ (is_among ks k || is_among js k)
among-append [] js k = refl
among-append (i ∷ ks) js k = ap (λ b. is_key i k || b) (among-append ks js k) ∙ sym (or_assoc (is_key i k) (is_among ks k) (is_among js k))

and_false : (b : Bool) → (b && false) ≡ false
and_false true = refl
and_false false = refl

among-keep : (test : Key → Bool) (js : List Key) (k : Key) → is_among (keep test js) k ≡ (is_among js k && test k)
among-keep test [] k = refl
among-keep test (j ∷ js) k = elim (cases_Bool (test j)) [
  | inl kept ↦ rw kept (elim (cases_Bool (is_key j k)) [
    | inl is ↦ rw is (sym (ap test (sym (same_key j k is)) ∙ kept))
    | inr other ↦ rw other (among-keep test js k)
  ])
  | inr left ↦ rw left (elim (cases_Bool (is_key j k)) [
    | inl is ↦ let out : test k ≡ false = ap test (sym (same_key j k is)) ∙ left in rw (is, among-keep test js k, out) (and_false (is_among js k))
    | inr other ↦ rw other (among-keep test js k)
  ])
]

merge : (a b c : Bool) → (a || (b && not c)) ≡ (a || (b && (not c && not a)))
merge true b c = refl
merge false false c = refl
merge false true true = refl
merge false true false = refl

-- a session has read these keys
abbrev Listed : Running → List Key → Type 0
Listed r ks = (k : Key) → r.read k ≡ is_among ks k

more : (r : Running) (js ks : List Key) (asks : Key → Bool) → Listed r ks → ((k : Key) → asks k ≡ is_among js k) → (k : Key)
    → (r.read k || (asks k && not (is_own r k))) ≡ is_among (with_keys r js ks) k
more r js ks asks h is k =
    ap₂ (λ a b. a || (b && not (is_own r k))) (h k) (is k) ∙ merge (is_among ks k) (is_among js k) (is_own r k)
    ∙ sym (among-append ks _ k ∙ ap (λ b. is_among ks k || b) (among-keep (λ j. not (is_own r j) && not (is_among ks j)) js k))

-- ---- what is asked

abbrev pub length_keys : Option Value → List Key
length_keys None = []
length_keys (Some (Int n)) = []
length_keys (Some (Truth t)) = []
length_keys (Some (Scalar e n)) = []
length_keys (Some (Array b g)) = Length b ∷ []
length_keys (Some (Row b g)) = Length b ∷ []

abbrev pub asked_keys : Act → Running → List Key
asked_keys (Lookup n) r = Name n ∷ length_keys (lookup n r.names)
asked_keys (Ask n) r = Input n ∷ []
asked_keys (Use b ps) r = bytes_at b ps
asked_keys (Make bytes) r = []

length_listed : (v : Option Value) (k : Key) → is_length_of v k ≡ is_among (length_keys v) k
length_listed None k = refl
length_listed (Some (Int n)) k = refl
length_listed (Some (Truth t)) k = refl
length_listed (Some (Scalar e n)) k = refl
length_listed (Some (Array b g)) k = sym (or_false _)
length_listed (Some (Row b g)) k = sym (or_false _)

both_or : (s p q : Bool) → (s && (p || q)) ≡ ((s && (p || false)) || (s && q))
both_or true true q = refl
both_or true false q = refl
both_or false p q = refl

bytes_listed : (b : Base) (ps : List ℕ) (k : Key) → is_byte b ps k ≡ is_among (bytes_at b ps) k
bytes_listed b [] (Name m) = refl
bytes_listed b [] (Input m) = refl
bytes_listed b [] (Length c) = refl
bytes_listed b [] (Byte c q) = and_false (same_base b c)
bytes_listed b [] OfRule = refl
bytes_listed b (p ∷ ps) (Name m) = bytes_listed b ps (Name m)
bytes_listed b (p ∷ ps) (Input m) = bytes_listed b ps (Input m)
bytes_listed b (p ∷ ps) (Length c) = bytes_listed b ps (Length c)
bytes_listed b (p ∷ ps) (Byte c q) =
    both_or (same_base b c) (nat_eq q p) _
    ∙ ap (λ t. (same_base b c && (nat_eq q p || false)) || t) (bytes_listed b ps (Byte c q))
bytes_listed b (p ∷ ps) OfRule = bytes_listed b ps OfRule

asked_listed : (a : Act) (r : Running) (k : Key) → asked a r k ≡ is_among (asked_keys a r) k
asked_listed (Lookup n) r k = ap (λ b. is_name n k || b) (length_listed (lookup n r.names) k)
asked_listed (Ask n) r k = sym (or_false _)
asked_listed (Use b ps) r k = bytes_listed b ps k
asked_listed (Make bytes) r k = refl

after_act : (a : Act) (r : Running) (ks : List Key) → Listed r ks → Listed (after a r) (with_keys r (asked_keys a r) ks)
after_act (Lookup n) r ks h k = more r (asked_keys (Lookup n) r) ks (asked (Lookup n) r) h (asked_listed (Lookup n) r) k
after_act (Ask n) r ks h k = more r (asked_keys (Ask n) r) ks (asked (Ask n) r) h (asked_listed (Ask n) r) k
after_act (Use b ps) r ks h k = more r (asked_keys (Use b ps) r) ks (asked (Use b ps) r) h (asked_listed (Use b ps) r) k
after_act (Make bytes) r ks h k = more r (asked_keys (Make bytes) r) ks (asked (Make bytes) r) h (asked_listed (Make bytes) r) k

-- ---- an evaluation

abbrev pub run_keys : {A : Type 0} → Inputs → Eval A → Running → List Key → List Key
run_keys i (Gives x) r ks = ks
run_keys i (Refuses f) r ks = ks
run_keys i (Asks a go) r ks = run_keys i (go (reply i a r)) (after a r) (with_keys r (asked_keys a r) ks)

run_listed : {A : Type 0} (i : Inputs) (e : Eval A) (r : Running) (ks : List Key) → Listed r ks → Listed (run i e r).1 (run_keys i e r ks)
run_listed i (Gives x) r ks h = h
run_listed i (Refuses f) r ks h = h
run_listed i (Asks a go) r ks h = run_listed i (go (reply i a r)) (after a r) _ (after_act a r ks h)

-- ---- a statement

abbrev pub done_keys : Effect → Running → List Key → List Key
done_keys Nothing r ks = ks
done_keys (Prints text) r ks = ks
done_keys (Saves name file) r ks = ks
done_keys (Binding n v) r ks = ks
done_keys (Unbinding n) r ks = ks
done_keys (Storing b ws) r ks = with_keys r (Length b ∷ []) ks

done_listed : (e : Effect) (r : Running) (ks : List Key) → Listed r ks → Listed (done e r) (done_keys e r ks)
done_listed Nothing r ks h k = h k
done_listed (Prints text) r ks h k = h k
done_listed (Saves name file) r ks h k = h k
done_listed (Binding n v) r ks h k = h k
done_listed (Unbinding n) r ks h k = h k
done_listed (Storing b ws) r ks h k = more r (Length b ∷ []) ks (is_length b) h (λ j. sym (or_false _)) k

abbrev pub had_keys : Result Effect Fault × Running → List Key → List Key
had_keys (Ok e, r) ks = done_keys e r ks
had_keys (Err f, r) ks = ks

had_listed : (x : Result Effect Fault × Running) (ks : List Key) → Listed x.1 ks → Listed (had x).1 (had_keys x ks)
had_listed (Ok e, r) ks h = done_listed e r ks h
had_listed (Err f, r) ks h = h

abbrev pub statement_keys : Inputs → Stmt → Running → List Key → List Key
statement_keys i s r ks = had_keys (run i (meaning s) r) (run_keys i (meaning s) r ks)

-- ---- a cell

abbrev pub then_keys : List ℕ → Saved → Result Output Fault × Running → List Key → (List ℕ → Saved → Running → List Key → List Key) → List Key
then_keys text saves (Ok o, r) ks rest = cond (nat_le (length (text ++ o.text)) most_text) (rest (text ++ o.text) (with_save o.save saves) r ks) ks
then_keys text saves (Err f, r) ks rest = ks

abbrev pub statements_keys : Inputs → List Line → List ℕ → Saved → Running → List Key → List Key
statements_keys i [] text saves r ks = ks
statements_keys i (l ∷ ls) text saves r ks = then_keys text saves (statement i l.stmt r) (statement_keys i l.stmt r ks) (statements_keys i ls)

then_listed : (line : ℕ) (text : List ℕ) (saves : Saved) (x : Result Output Fault × Running) (ks : List Key)
    (rest : List ℕ → Saved → Running → Ended) (keys : List ℕ → Saved → Running → List Key → List Key) → Listed x.1 ks
    → ((t : List ℕ) (v : Saved) (r : Running) (js : List Key) → Listed r js → Listed (rest t v r).running (keys t v r js))
    → Listed (and_then line text saves x rest).running (then_keys text saves x ks keys)
then_listed line text saves (Ok o, r) ks rest keys h go = elim (cases_Bool (nat_le (length (text ++ o.text)) most_text)) [
  | inl fits ↦ rw fits (go (text ++ o.text) (with_save o.save saves) r ks h)
  | inr long ↦ rw long h
]
then_listed line text saves (Err f, r) ks rest keys h go = h

statements_listed : (i : Inputs) (ls : List Line) (text : List ℕ) (saves : Saved) (r : Running) (ks : List Key) → Listed r ks
    → Listed (statements i ls text saves r).running (statements_keys i ls text saves r ks)
statements_listed i [] text saves r ks h = h
statements_listed i (l ∷ ls) text saves r ks h =
    then_listed l.line text saves (statement i l.stmt r) _ (statements i ls) (statements_keys i ls)
    (had_listed (run i (meaning l.stmt) r) _ (run_listed i (meaning l.stmt) r ks h)) (statements_listed i ls)

abbrev pub ran_keys : Inputs → Parsed → Running → List Key
ran_keys i (Ok ls) r = statements_keys i ls [] [] r []
ran_keys i (Err f) r = []

ran_listed : (i : Inputs) (p : Parsed) (r : Running) → Listed r [] → Listed (ran i p r).running (ran_keys i p r)
ran_listed i (Ok ls) r h = statements_listed i ls [] [] r [] h
ran_listed i (Err f) r h = h

abbrev pub with_rule : Option (ℕ × Refusal) → List Key → List Key
with_rule None ks = ks
with_rule (Some f) ks = ks ++ OfRule ∷ []

with_rule_listed : (rule : Rule) (began : Running) (f : Option (ℕ × Refusal)) (e : Ended) (ks : List Key) → Listed e.running ks
    → Listed (under rule began f e).running (with_rule f ks)
with_rule_listed rule began None e ks h k = h k
with_rule_listed Python began (Some f) e ks h k = ap₂ ◌||◌ (h k) (sym (or_false _)) ∙ sym (among-append ks (OfRule ∷ []) k)
with_rule_listed Atomic began (Some f) e ks h k = ap₂ ◌||◌ (h k) (sym (or_false _)) ∙ sym (among-append ks (OfRule ∷ []) k)

-- ALL THAT A CELL READS
abbrev pub keys_of : ℕ → Parsed → World → Session → List Key
keys_of label p w s = with_rule (ran w.inputs p (start label s)).refusal (ran_keys w.inputs p (start label s))

pub listed : (label : ℕ) (p : Parsed) (w : World) (s : Session) → Listed (cell label p w s).running (keys_of label p w s)
listed label p w s =
    with_rule_listed w.rule (start label s) (ran w.inputs p (start label s)).refusal (ran w.inputs p (start label s)) _ (ran_listed w.inputs p (start label s) (λ k. refl))

pub reads_are_finite : ReadsAreFinite
reads_are_finite label p w s = (keys_of label p w s, listed label p w s)
