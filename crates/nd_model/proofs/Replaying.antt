-- The effects of a cell, put on another session, leave it sound: what a cell binds has its own bases below the next one.
use Rattle.std.proofs.Common.{◌≡◌, ℕ, ◌<◌, leb, List, [], ◌∷◌, ◌++◌, length, Option, Some, None, Result, Ok, Err, refl, sym, subst, ◌∙◌, eq-eqb, true, false, arith}
use Rattle.std.proofs.lemmas.Bool.{or_parts, and_from}
use Rattle.nd_model.specs.Arrays.View.{Geo}
use Rattle.nd_model.specs.Arrays.Value.{Base, same_base, Value, Int, Truth, Scalar, Array, Row, lies_in}
use Rattle.nd_model.specs.Cells.Session.{Names, bind, unbind, is_held, Session, held_bytes}
use Rattle.nd_model.specs.Cells.Running.{Event, Binds, Unbinds, Inputs, Rule, Python, Atomic, World, Running, start, Act, Lookup, Ask, Use, Make, reply, after, Effect, Nothing, Prints, Saves, Binding, Unbinding, Storing, done, Output}
use Rattle.nd_model.specs.Cells.Fault.{Fault, Refusal}
use Rattle.nd_model.specs.Grammar.Syntax.{Stmt, Line, Parsed}
use Rattle.nd_model.specs.Cells.Evaluation.{Eval, Gives, Refuses, Asks, run}
use Rattle.nd_model.specs.Cells.Meaning.{meaning, work}
use Rattle.nd_model.specs.Cells.Cell.{Saved, Ended, had, statement, most_text, with_save, and_then, statements, ran, under, cell}
use Rattle.nd_model.specs.Cells.Footprint.{HasNone, effects_of, replayed, with_effects}
use Rattle.nd_model.specs.Cells.Sound.{LiesIn, IsViewOf, AreViewsOf, IsHeldView, IsSound, IsSoundSession, ReplaysSound}
use Rattle.nd_model.proofs.Lists.{not_both}
use Rattle.nd_model.proofs.Frames.{either_end}
use Rattle.nd_model.proofs.Growing.{Grows, grows_run}
use Rattle.nd_model.proofs.Tracks.{tracks_cell, replay}
use Rattle.nd_model.proofs.Soundness.{E, IfGiven, views_map, safe_work, given_run, bind_views, unbind_views, statement_sound, start_sound, stays_sound}

-- ---- the values that a cell binds

abbrev AreBound : (Base → Geo → Type 0) → List Event → Type 0
AreBound P [] = Unit {0}
AreBound P (Binds n v ∷ es) = IsViewOf P v × AreBound P es
AreBound P (Unbinds n ∷ es) = AreBound P es

bound_map : (P Q : Base → Geo → Type 0) → ((b : Base) (g : Geo) → P b g → Q b g) → (es : List Event) → AreBound P es → AreBound Q es
bound_map P Q f [] h = tt
bound_map P Q f (Binds n v ∷ es) h = (views_map P Q f v h.0, bound_map P Q f es h.1)
bound_map P Q f (Unbinds n ∷ es) h = bound_map P Q f es h

bound_more : (P : Base → Geo → Type 0) (es : List Event) (e : Event) → AreBound P es → AreBound P (e ∷ []) → AreBound P (es ++ e ∷ [])
bound_more P [] e h more = more
bound_more P (Binds n v ∷ es) e h more = (h.0, bound_more P es e h.1 more)
bound_more P (Unbinds n ∷ es) e h more = bound_more P es e h more

-- what the names are bound to once the events have come
views_replayed : (P : Base → Geo → Type 0) (es : List Event) (names : Names) → AreBound P es → AreViewsOf P names → AreViewsOf P (replayed es names)
views_replayed P [] names h views = views
views_replayed P (Binds n v ∷ es) names h views = views_replayed P es (bind n v names) h.1 (bind_views P n v names h.0 views)
views_replayed P (Unbinds n ∷ es) names h views = views_replayed P es (unbind n names) h (unbind_views P n names views)

-- a base of the running cell has a number below that of the next one
abbrev IsNumbered : Running → Base → Geo → Type 0
IsNumbered r b g = b.label ≡ r.label → b.number < r.next

abbrev BindsNumbered : Running → Type 0
BindsNumbered r = AreBound (IsNumbered r) r.events

events_after : (a : Act) (r : Running) → (after a r).events ≡ r.events
events_after (Lookup n) r = refl
events_after (Ask n) r = refl
events_after (Use b ps) r = refl
events_after (Make bytes) r = refl

events_run : {A : Type 0} (i : Inputs) (t : Eval A) (r : Running) → (run i t r).1.events ≡ r.events
events_run i (Gives x) r = refl
events_run i (Refuses f) r = refl
events_run i (Asks a go) r = events_run i (go (reply i a r)) (after a r) ∙ events_after a r

numbered_grows : (x y : Running) → Grows x y → y.events ≡ x.events → BindsNumbered x → BindsNumbered y
numbered_grows x y grows events h =
    subst (AreBound (IsNumbered y)) (sym events) (bound_map (IsNumbered x) (IsNumbered y) (λ b g old e. omega (arith, grows.next, old (e ∙ grows.label))) x.events h)

numbered_done : (e : Effect) (r : Running) → BindsNumbered r → E r e → BindsNumbered (done e r)
numbered_done Nothing r h safe = h
numbered_done (Prints text) r h safe = h
numbered_done (Saves name file) r h safe = h
numbered_done (Binding n v) r h safe = bound_more (IsNumbered r) r.events (Binds n v) h (views_map (IsHeldView r) (IsNumbered r) (λ b g view. view.old) v safe, tt)
numbered_done (Unbinding n) r h safe = bound_more (IsNumbered r) r.events (Unbinds n) h tt
numbered_done (Storing b ws) r h safe = h

numbered_had : (o : Result Effect Fault) (r : Running) → BindsNumbered r → IfGiven E (o, r) → BindsNumbered (had (o, r)).1
numbered_had (Ok e) r h safe = numbered_done e r h safe
numbered_had (Err f) r h safe = h

numbered_statement : (i : Inputs) (s : Stmt) (r : Running) → IsSound r → BindsNumbered r → BindsNumbered (statement i s r).1
numbered_statement i s r sound h =
    numbered_had (run i (meaning s) r).0 (run i (meaning s) r).1 (numbered_grows r _ (grows_run i (meaning s) r) (events_run i (meaning s) r) h)
    (given_run E i r (meaning s) (safe_work (work s) i r sound))

-- ---- cells

abbrev Both : Running → Type 0
Both r = IsSound r × BindsNumbered r

both_rest : (line : ℕ) (text : List ℕ) (saves : Saved) (o : Result Output Fault × Running) (rest : List ℕ → Saved → Running → Ended) → Both o.1
    → ((text : List ℕ) (saves : Saved) (r : Running) → Both r → Both (rest text saves r).running) → Both (and_then line text saves o rest).running
both_rest line text saves (Ok o, r) rest h more = either_end (leb (length (text ++ o.text)) most_text) _ _ (λ e. Both e.running) (more (text ++ o.text) (with_save o.save saves) r h) h
both_rest line text saves (Err f, r) rest h more = h

both_all : (i : Inputs) (ls : List Line) (text : List ℕ) (saves : Saved) (r : Running) → Both r → Both (statements i ls text saves r).running
both_all i [] text saves r h = h
both_all i (l ∷ ls) text saves r h = both_rest l.line text saves (statement i l.stmt r) (statements i ls) (statement_sound i l.stmt r h.0, numbered_statement i l.stmt r h.0 h.1) (both_all i ls)

both_ran : (i : Inputs) (p : Parsed) (r : Running) → Both r → Both (ran i p r).running
both_ran i (Ok ls) r h = both_all i ls [] [] r h
both_ran i (Err f) r h = h

-- what a cell has bound at its end, under the rule
numbered_under : (label : ℕ) (s : Session) (rule : Rule) (o : Option (ℕ × Refusal)) (e : Ended) → BindsNumbered e.running → BindsNumbered (under rule (start label s) o e).running
numbered_under label s rule None e h = h
numbered_under label s Python (Some f) e h = bound_map (IsNumbered e.running) _ (λ b g n. n) e.running.events h
numbered_under label s Atomic (Some f) e h = tt

-- ---- replay

both_views : (P Q R : Base → Geo → Type 0) → ((b : Base) (g : Geo) → P b g → Q b g → R b g) → (es : Names) → AreViewsOf P es → AreViewsOf Q es → AreViewsOf R es
both_views P Q R f [] p q = tt
both_views P Q R f (e ∷ es) p q = (one e.1 p.0 q.0, both_views P Q R f es p.1 q.1)
  where
    one : (v : Value) → IsViewOf P v → IsViewOf Q v → IsViewOf R v
    one (Int z) p q = tt
    one (Truth t) p q = tt
    one (Scalar k z) p q = tt
    one (Array b g) p q = f b g p q
    one (Row b g) p q = f b g p q

-- a cell may go on in a sound session that its effects made
goes_on_sound : (label : ℕ) (p : Parsed) (s t : Session) (i : World) → HasNone label s → IsSoundSession s → HasNone label t → IsSoundSession (with_effects label (effects_of (cell label p i s)) t)
    → IsSound (record (start label (with_effects label (effects_of (cell label p i s)) t)) { next = (cell label p i s).running.next })
goes_on_sound label p s t i none sound none' lies =
    let ended : Ended = cell label p i s in
    let then : Session = with_effects label (effects_of ended) t in
    let is_labelled : ended.running.label ≡ label = (tracks_cell label p s i).labelled in
    let e : Ended = ran i.inputs p (start label s) in
    let bound : BindsNumbered ended.running = numbered_under label s i.rule e.refusal e (both_ran i.inputs p (start label s) (start_sound label s none sound, tt)).1 in
    let numbered : AreViewsOf (λ b g. b.label ≡ label → b.number < ended.running.next) then.names
    = views_replayed (λ b g. b.label ≡ label → b.number < ended.running.next) ended.running.events t.names
    (bound_map (IsNumbered ended.running) (λ b g. b.label ≡ label → b.number < ended.running.next) (λ b g h e. h (e ∙ sym is_labelled)) ended.running.events bound)
    (none_numbered t.names none'.none) in
    both_views (λ b g. LiesIn (length (held_bytes then b)) g) (λ b g. b.label ≡ label → b.number < ended.running.next) (IsHeldView (record (start label then) { next = ended.running.next }))
    (λ b g view old. record { lies = view; old = old }) then.names lies numbered
  where
    same_base_self : (b : Base) → same_base b b ≡ true
    same_base_self b = and_from _ _ (eq-eqb b.label b.label refl) (eq-eqb b.number b.number refl)

    none_numbered : (ns : Names) → ((b : Base) → b.label ≡ label → is_held b ns ≡ false) → AreViewsOf (λ b g. b.label ≡ label → b.number < (cell label p i s).running.next) ns
    none_numbered [] h = tt
    none_numbered (e ∷ ns) h = (one e.1 (λ b is. (or_parts _ _ (h b is)).0), none_numbered ns (λ b is. (or_parts _ _ (h b is)).1))
      where
        one : (v : Value) → ((b : Base) → b.label ≡ label → lies_in b v ≡ false) → IsViewOf (λ b g. b.label ≡ label → b.number < (cell label p i s).running.next) v
        one (Int z) h = tt
        one (Truth t) h = tt
        one (Scalar k z) h = tt
        one (Array b g) h = λ is. absurd (not_both _ (h b is) (same_base_self b))
        one (Row b g) h = λ is. absurd (not_both _ (h b is) (same_base_self b))

pub replays_sound : ReplaysSound
replays_sound label p s t i j none none' sound sound' agree =
    goes_on_sound label p s t i none sound none' (subst IsSoundSession (replay label p s t i j none none' agree) (stays_sound.cell label p j t none' sound'))
