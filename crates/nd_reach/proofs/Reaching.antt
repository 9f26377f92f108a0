-- Statements and cells over sessions that are the same in reach.
use Rattle.std.proofs.Common.{◌≡◌, ℕ, Bool, true, false, not, cond, ◌&&◌, ◌||◌, leb, eqb, List, [], ◌∷◌, ◌++◌, length, get_or, Option, Some, None, Result, Ok, Err, refl, sym, ap, ap₂, subst, ◌∙◌, inl, inr}
use Rattle.std.specs.Prelude.{bytes_eq, nat_eq}
use mathlib.Core.Path.{fun_ext}
use Rattle.std.proofs.lemmas.Bool.{cases_Bool, or_left, or_right, or_cases}
use Rattle.nd_model.specs.Arrays.Value.{Base, Value, lies_in}
use Rattle.nd_model.specs.Book.Sessions.{IsOnce}
use Rattle.nd_model.specs.Cells.Session.{Names, Session, lookup, bind, unbind, is_held}
use Rattle.nd_model.specs.Cells.Running.{Event, Binds, Unbinds, Inputs, Rule, Python, Atomic, World, Running, Output, start}
use Rattle.nd_model.specs.Cells.Fault.{Fault, Refusal}
use Rattle.nd_model.specs.Grammar.Syntax.{Stmt, Line, Parsed}
use Rattle.nd_model.specs.Cells.Cell.{Saved, Ended, statement, statements, and_then, most_text, with_save, ran, ruled, under, ended_under, cell, session_after}
use Rattle.nd_model.specs.Cells.Footprint.{effects_of, replayed}
use Rattle.nd_model.proofs.Lists.{not_both, same_bytes, bytes_eq_self, lookup-bind, lookup-unbind}
use Rattle.nd_model.proofs.Sessions.{once_replayed}
use Rattle.nd_model.proofs.Tracks.{tracks_cell}
use Rattle.nd_reach.specs.Reach.{is_lost, IsSameInReach, EndsInReach, ReachIsAll, HasSameEnd, EndIsAll}
use Rattle.nd_reach.proofs.Walks.{Goes, goes}

-- ---- what is the same in reach

pub reach_itself : (x : Running) → IsSameInReach x x
reach_itself x = record { rest = refl; bytes = λ b h. refl }

other_bytes : (x y : Running) → record y { bytes = x.bytes } ≡ x → y ≡ record x { bytes = y.bytes }
other_bytes x y rest = ap (λ (r : Running). record r { bytes = y.bytes }) rest

pub reach_on : (x y z : Running) → IsSameInReach x y → IsSameInReach y z → IsSameInReach x z
reach_on x y z a b = record {
  rest = ap (λ (r : Running). record r { bytes = x.bytes }) b.rest ∙ a.rest;
  bytes = λ c h. b.bytes c (ap (λ (r : Running). is_lost r c) a.rest ∙ h) ∙ a.bytes c h;
}

pub ends_on : (e f g : Ended) → EndsInReach e f → EndsInReach f g → EndsInReach e g
ends_on e f g a b = record {
  text = b.text ∙ a.text;
  refusal = b.refusal ∙ a.refusal;
  saves = b.saves ∙ a.saves;
  running = reach_on e.running f.running g.running a.running b.running;
}

pub end_itself : (e : Ended) → EndsInReach e e
end_itself e = record { text = refl; refusal = refl; saves = refl; running = reach_itself e.running }

-- ---- statements

in_reach : (i : Inputs) (s : Stmt) (x y : Running) → IsSameInReach x y → ((statement i s y).0 ≡ (statement i s x).0) × IsSameInReach (statement i s x).1 (statement i s y).1
in_reach i s x y h =
    let g : Goes i s x y.bytes = goes i s x y.bytes h.bytes in
    let e : statement i s y ≡ ((statement i s x).0, record (statement i s x).1 { bytes = g.other }) = ap (statement i s) (other_bytes x y h.rest) ∙ g.same in
    let P : Result Output Fault × Running → Type 0 = λ o. (o.0 ≡ (statement i s x).0) × IsSameInReach (statement i s x).1 o.1 in
    subst P (sym e) (refl, record { rest = refl; bytes = g.reached })

rest_in_reach : (line : ℕ) (text : List ℕ) (saves : Saved) (o p : Result Output Fault × Running) (rest : List ℕ → Saved → Running → Ended)
    → p.0 ≡ o.0 → IsSameInReach o.1 p.1
    → ((text : List ℕ) (saves : Saved) (x y : Running) → IsSameInReach x y → EndsInReach (rest text saves x) (rest text saves y))
    → EndsInReach (and_then line text saves o rest) (and_then line text saves p rest)
rest_in_reach line text saves (o, x) (p, y) rest same h more =
    subst (λ (q : Result Output Fault). EndsInReach (and_then line text saves (o, x) rest) (and_then line text saves (q, y) rest)) (sym same) (go o)
  where
    go : (o : Result Output Fault) → EndsInReach (and_then line text saves (o, x) rest) (and_then line text saves (o, y) rest)
    go (Ok o) = either (leb (length (text ++ o.text)) most_text) (more (text ++ o.text) (with_save o.save saves) x y h) (record { text = refl; refusal = refl; saves = refl; running = h })
      where
        either : (t : Bool) {a b c d : Ended} → EndsInReach a c → EndsInReach b d → EndsInReach (cond t a b) (cond t c d)
        either true first second = first
        either false first second = second
    go (Err f) = record { text = refl; refusal = refl; saves = refl; running = h }

pub reach_is_all : ReachIsAll
reach_is_all i [] text saves x y h = record { text = refl; refusal = refl; saves = refl; running = h }
reach_is_all i (l ∷ ls) text saves x y h =
    let first : ((statement i l.stmt y).0 ≡ (statement i l.stmt x).0) × IsSameInReach (statement i l.stmt x).1 (statement i l.stmt y).1 = in_reach i l.stmt x y h in
    rest_in_reach l.line text saves (statement i l.stmt x) (statement i l.stmt y) (statements i ls) first.0 first.1 (λ t ss r q. reach_is_all i ls t ss r q)

-- ---- under a rule

pub under_in_reach : (rule : Rule) (began : Running) (e f : Ended) → EndsInReach e f → EndsInReach (ended_under rule began e) (ended_under rule began f)
under_in_reach rule began e f h =
    subst (λ (o : Option (ℕ × Refusal)). EndsInReach (under rule began e.refusal e) (under rule began o f)) (sym h.refusal) (go rule e.refusal)
  where
    go : (rule : Rule) (o : Option (ℕ × Refusal)) → EndsInReach (under rule began o e) (under rule began o f)
    go rule None = h
    go Python (Some r) = record {
      text = h.text;
      refusal = h.refusal;
      saves = h.saves;
      running = record { rest = ap ruled h.running.rest; bytes = h.running.bytes };
    }
    go Atomic (Some r) = record {
      text = h.text;
      refusal = h.refusal;
      saves = refl;
      running = record { rest = ap (λ (q : Running). record began { read = (ruled q).read }) h.running.rest; bytes = λ b kept. refl };
    }

-- ---- what a cell's own names hold

-- each name that finds a value there finds it here
abbrev IsPartOf : Names → Names → Type 0
IsPartOf own all = (n : List ℕ) (v : Value) → lookup n own ≡ Some v → lookup n all ≡ Some v

same_choice : (t : Bool) (o x y : Option Value) (v : Value) → (x ≡ Some v → y ≡ Some v) → cond t o x ≡ Some v → cond t o y ≡ Some v
same_choice true o x y v h e = e
same_choice false o x y v h e = h e

part_of : (es : List Event) (own all : Names) → IsPartOf own all → IsPartOf (replayed es own) (replayed es all)
part_of [] own all h = h
part_of (Binds m w ∷ es) own all h = part_of es (bind m w own) (bind m w all)
    (λ n v e. lookup-bind n m w all ∙ same_choice (bytes_eq n m) (Some w) (lookup n own) (lookup n all) v (h n v) (sym (lookup-bind n m w own) ∙ e))
part_of (Unbinds m ∷ es) own all h = part_of es (unbind m own) (unbind m all)
    (λ n v e. lookup-unbind n m all ∙ same_choice (bytes_eq n m) None (lookup n own) (lookup n all) v (h n v) (sym (lookup-unbind n m own) ∙ e))

some_same : (x y : Value) → Some x ≡ Some y → x ≡ y
some_same x y e = cc

none_some : (v : Value) → ◌≡◌ {A = Option Value} None (Some v) → ⊥
none_some v e = absurd (cc)

record Holder (b : Base) (es : Names) : Type 0 where
  name : List ℕ
  value : Value
  found : lookup name es ≡ Some value
  lies : lies_in b value ≡ true

-- a base that is held is held by a name that finds it
holder : (b : Base) (es : Names) → IsOnce es → is_held b es ≡ true → Holder b es
holder b [] once held = absurd (let f : false ≡ true = held in cc)
holder b (e ∷ es) once held = elim (or_cases _ _ held) [
  | inl here ↦ record { name = e.0; value = e.1; found = ap (λ t. cond t (Some e.1) (lookup e.0 es)) (bytes_eq_self e.0); lies = here }
  | inr there ↦
      let more : Holder b es = holder b es once.1 there in
      let apart : bytes_eq more.name e.0 ≡ false = elim (cases_Bool (bytes_eq more.name e.0)) [
        | inl is ↦ absurd (none_some more.value (sym once.0 ∙ ap (λ m. lookup m es) (sym (same_bytes more.name e.0 is)) ∙ more.found))
        | inr other ↦ other
      ] in
      record { name = more.name; value = more.value; found = ap (λ t. cond t (Some e.1) (lookup more.name es)) apart ∙ more.found; lies = more.lies }
]

held_by : (b : Base) (n : List ℕ) (v : Value) (es : Names) → lookup n es ≡ Some v → lies_in b v ≡ true → is_held b es ≡ true
held_by b n v [] at lies = absurd (none_some v at)
held_by b n v (e ∷ es) at lies = elim (cases_Bool (bytes_eq n e.0)) [
  | inl is ↦ or_left _ _ (ap (lies_in b) (some_same e.1 v (sym (ap (λ t. cond t (Some e.1) (lookup n es)) is) ∙ at)) ∙ lies)
  | inr other ↦ or_right _ _ (held_by b n v es (sym (ap (λ t. cond t (Some e.1) (lookup n es)) other) ∙ at) lies)
]

-- a base that the cell's own names hold is held
own_held : (b : Base) (es : List Event) (names : Names) → is_held b (replayed es []) ≡ true → is_held b (replayed es names) ≡ true
own_held b es names held =
    let by : Holder b (replayed es []) = holder b (replayed es []) (once_replayed es [] tt) held in
    held_by b by.name by.value (replayed es names) (part_of es [] names (λ n v e. absurd (none_some v e)) by.name by.value by.found) by.lies

-- ---- a cell's end

kept_held : (own held : Bool) → held ≡ true → (own && not held) ≡ false
kept_held true held h = ap not h
kept_held false held h = refl

-- the end with other bytes, where the bases that are held, and those of other cells, have theirs
module _ (e : Ended) (names : Names) (is : e.running.names ≡ replayed e.running.events names) (g : Base → List ℕ) (h : (b : Base) → is_lost e.running b ≡ false → g b ≡ e.running.bytes b) where
  held_bytes_same : (b : Base) → is_held b e.running.names ≡ true → g b ≡ e.running.bytes b
  held_bytes_same b held = h b (kept_held (eqb b.label e.running.label) (is_held b e.running.names) held)

  same_bases : ◌≡◌ {A = Base → List ℕ} (λ b. cond (eqb b.label e.running.label) (cond (is_held b (replayed e.running.events [])) (g b) []) [])
      (λ b. cond (eqb b.label e.running.label) (cond (is_held b (replayed e.running.events [])) (e.running.bytes b) []) [])
  same_bases = fun_ext (λ b. ap (λ (l : List ℕ). cond (eqb b.label e.running.label) l []) (elim (cases_Bool (is_held b (replayed e.running.events []))) [
    | inl held ↦ rw held (held_bytes_same b (ap (is_held b) is ∙ own_held b e.running.events names held))
    | inr not_held ↦ rw not_held refl
  ]))

  same_writes : ◌≡◌ {A = Base → ℕ → Option ℕ} (λ b p. cond (eqb b.label e.running.label) None (cond (e.running.written b p) (Some (get_or (g b) p 0)) None))
      (λ b p. cond (eqb b.label e.running.label) None (cond (e.running.written b p) (Some (get_or (e.running.bytes b) p 0)) None))
  same_writes = fun_ext (λ b. fun_ext (λ p. elim (cases_Bool (eqb b.label e.running.label)) [
    | inl own ↦ rw own refl
    | inr other ↦ rw other (ap (λ (l : List ℕ). cond (e.running.written b p) (Some (get_or l p 0)) None) (h b (ap (λ (t : Bool). t && not (is_held b e.running.names)) other)))
  ]))

  same_held : ◌≡◌ {A = Base → List ℕ} (λ b. cond (is_held b e.running.names) (g b) []) (λ b. cond (is_held b e.running.names) (e.running.bytes b) [])
  same_held = fun_ext (λ b. elim (cases_Bool (is_held b e.running.names)) [ inl held ↦ rw held (held_bytes_same b held) | inr not_held ↦ rw not_held refl ])

pub end_is_all : EndIsAll
end_is_all label p w s f h =
    let e : Ended = cell label p w s in
    let is : e.running.names ≡ replayed e.running.events s.names = (tracks_cell label p s w).names in
    let same : f ≡ record e { running = record e.running { bytes = f.running.bytes } }
    = λ d. record { text = h.text d; refusal = h.refusal d; saves = h.saves d; running = other_bytes e.running f.running h.running.rest d } in
    record {
      reads = ap (λ (r : Running). r.read) h.running.rest;
      effects = ap effects_of same ∙ (λ d. record {
        text = e.text;
        refusal = e.refusal;
        saves = e.saves;
        events = e.running.events;
        bases = same_bases e s.names is f.running.bytes h.running.bytes d;
        writes = same_writes e s.names is f.running.bytes h.running.bytes d;
      });
      after = ap session_after same ∙ (λ d. record { names = e.running.names; bytes = same_held e s.names is f.running.bytes h.running.bytes d });
    }
