-- The rule is read by a refusal, and by nothing else.
use Rattle.std.proofs.Common.{◌≡◌, ℕ, Bool, true, false, ◌||◌, leb, List, [], ◌∷◌, ◌++◌, length, Option, Some, None, is_some, Result, Ok, Err, refl}
use Rattle.std.proofs.lemmas.Bool.{or_from, or_right}
use Rattle.nd_model.specs.Arrays.Value.{Value, Int, Truth, Scalar, Array, Row}
use Rattle.nd_model.specs.Cells.Session.{lookup, Session}
use Rattle.nd_model.specs.Cells.Running.{OfRule, Inputs, Rule, Python, Atomic, World, Running, start, Act, Lookup, Ask, Use, Make, reply, is_own, is_length_of, after, Effect, Nothing, Prints, Saves, Binding, Unbinding, Storing, done, Output}
use Rattle.nd_model.specs.Cells.Fault.{Fault, Refusal}
use Rattle.nd_model.specs.Grammar.Syntax.{Line, Parsed}
use Rattle.nd_model.specs.Cells.Evaluation.{Eval, Gives, Refuses, Asks, run}
use Rattle.nd_model.specs.Cells.Meaning.{meaning}
use Rattle.nd_model.specs.Cells.Cell.{Saved, Ended, had, statement, most_text, with_save, and_then, statements, ran, under, cell}
use Rattle.nd_model.specs.Cells.Footprint.{RuleIsRead}
use Rattle.nd_model.proofs.Frames.{either_end}

abbrev Unread : Running → Type 0
Unread r = r.read OfRule ≡ false

no_length : (o : Option Value) → is_length_of o OfRule ≡ false
no_length None = refl
no_length (Some (Int n)) = refl
no_length (Some (Truth t)) = refl
no_length (Some (Scalar e n)) = refl
no_length (Some (Array b g)) = refl
no_length (Some (Row b g)) = refl

unread_after : (a : Act) (r : Running) → Unread r → Unread (after a r)
unread_after (Lookup n) r h = or_from _ _ h (rw (no_length (lookup n r.names)) refl)
unread_after (Ask n) r h = or_from _ _ h refl
unread_after (Use b ps) r h = or_from _ _ h refl
unread_after (Make bytes) r h = or_from _ _ h refl

unread_run : {A : Type 0} (i : Inputs) (t : Eval A) (r : Running) → Unread r → Unread (run i t r).1
unread_run i (Gives x) r h = h
unread_run i (Refuses f) r h = h
unread_run i (Asks a go) r h = unread_run i (go (reply i a r)) (after a r) (unread_after a r h)

unread_done : (e : Effect) (r : Running) → Unread r → Unread (done e r)
unread_done Nothing r h = h
unread_done (Prints text) r h = h
unread_done (Saves name file) r h = h
unread_done (Binding n v) r h = h
unread_done (Unbinding n) r h = h
unread_done (Storing b ws) r h = or_from _ _ h refl

unread_had : (o : Result Effect Fault × Running) → Unread o.1 → Unread (had o).1
unread_had (Ok e, r) h = unread_done e r h
unread_had (Err f, r) h = h

unread_rest : (line : ℕ) (text : List ℕ) (saves : Saved) (o : Result Output Fault × Running) (rest : List ℕ → Saved → Running → Ended)
    → Unread o.1 → ((text : List ℕ) (saves : Saved) (r : Running) → Unread r → Unread (rest text saves r).running) → Unread (and_then line text saves o rest).running
unread_rest line text saves (Ok o, r) rest h more = either_end (leb (length (text ++ o.text)) most_text) _ _ (λ e. Unread e.running) (more (text ++ o.text) (with_save o.save saves) r h) h
unread_rest line text saves (Err f, r) rest h more = h

unread_all : (i : Inputs) (ls : List Line) (text : List ℕ) (saves : Saved) (r : Running) → Unread r → Unread (statements i ls text saves r).running
unread_all i [] text saves r h = h
unread_all i (l ∷ ls) text saves r h =
    unread_rest l.line text saves (statement i l.stmt r) (statements i ls) (unread_had (run i (meaning l.stmt) r) (unread_run i (meaning l.stmt) r h)) (λ t ss q. unread_all i ls t ss q)

unread_ran : (i : Inputs) (p : Parsed) (r : Running) → Unread r → Unread (ran i p r).running
unread_ran i (Ok ls) r h = unread_all i ls [] [] r h
unread_ran i (Err f) r h = h

by_refusal : (rule : Rule) (began : Running) (o : Option (ℕ × Refusal)) (e : Ended) → e.refusal ≡ o → Unread e.running → (under rule began o e).running.read OfRule ≡ is_some (under rule began o e).refusal
by_refusal rule began None e is h = rw (h, is) refl
by_refusal Python began (Some f) e is h = rw is (or_right _ _ refl)
by_refusal Atomic began (Some f) e is h = rw is (or_right _ _ refl)

pub rule_is_read : RuleIsRead
rule_is_read label p s w = let e : Ended = ran w.inputs p (start label s) in by_refusal w.rule (start label s) e.refusal e refl (unread_ran w.inputs p (start label s) refl)
