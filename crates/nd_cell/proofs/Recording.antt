-- The record of a run, from what is kept at its end.
use Rattle.std.proofs.Common.{◌≡◌, ℕ, Bool, true, false, List, [], Option, Some, None, length, option_map, refl, sym, ap, ap₂, subst, ◌∙◌}
use mathlib.Core.Path.{fun_ext}
use Rattle.std.specs.Prelude.{IsTrue, ◌||◌, is_some, if◌then◌else◌}
use Rattle.nd_model.specs.Arrays.Value.{Base}
use Rattle.nd_model.specs.Cells.Session.{Session, collected, held_bytes, is_held}
use Rattle.nd_model.specs.Cells.Running.{Key, Name, Input, Length, Byte, OfRule, Rule, Python, Atomic, Running, World, session_of, start}
use Rattle.nd_model.specs.Grammar.Syntax.{Parsed}
use Rattle.nd_model.specs.Cells.Cell.{Ended, cell, ended_under, ran, ruled, session_after}
use Rattle.nd_model.specs.Cells.Footprint.{Agree, Effects, Found, HasNone, effects_of, found, reads_of, with_effects}
use Rattle.nd_model.specs.Book.Records.{Record, StillHolds, record_of}
use Rattle.nd_model.specs.Cells.Sound.{IsHeldView, IsSound, IsSoundSession, LiesIn}
use Rattle.nd_model.proofs.Collected.{held_twice}
use Rattle.nd_model.proofs.Keeping.{found_at}
use Rattle.nd_model.proofs.Replaying.{replays_sound}
use Rattle.nd_model.proofs.Soundness.{held_map}
use Rattle.nd_model.proofs.Tracks.{tracks_cell}
use Rattle.nd_reach.specs.Reach.{EndsInReach, HasSameEnd}
use Rattle.nd_reach.proofs.Reaching.{end_is_all, under_in_reach}
use Rattle.nd_session.specs.Session.State.{State}
use Rattle.nd_session.specs.Session.Live.{live}
use Rattle.nd_session.specs.Session.Listed.{seen_of}
use Rattle.nd_session.specs.Session.Reads.{found_in, found_of, found_when_collected, is_read_by, keys_of}
use Rattle.nd_session.specs.Session.Kept.{Kept, thawed, version_of}
use Rattle.nd_session.specs.Session.Change.{HasDone}
use Rattle.nd_session.specs.Session.Changes.{bases_in, ended, going_on, writes_in}
use Rattle.nd_session.proofs.session.Listed.{listed}
use Rattle.nd_cell.specs.Records.{EndsRun, IsOfRun, RecordData, recorded, record_at_end, with_reads}
use Rattle.nd_cell.specs.Results.{refusal_of}
use Rattle.nd_cell.specs.declared.result.Refusal.{Refusal}

-- the trace tells what was read
read_listed : (s : State) (k : Key) → is_read_by (seen_of s) false k ≡ (live s).read k
read_listed s (Name n) = sym ((listed s).name n)
read_listed s (Input n) = sym ((listed s).input n)
read_listed s (Length b) = sym ((listed s).length b)
read_listed s (Byte b p) = sym ((listed s).byte b p)
read_listed s OfRule = sym (listed s).rule

or_none : (b : Bool) → (b || false) ≡ b
or_none true = refl
or_none false = refl

-- and so what a refused cell read
ruled_listed : (s : State) (k : Key) → is_read_by (seen_of s) true k ≡ (ruled (live s)).read k
ruled_listed s (Name n) = sym ((listed s).name n) ∙ sym (or_none ((live s).read (Name n)))
ruled_listed s (Input n) = sym ((listed s).input n) ∙ sym (or_none ((live s).read (Input n)))
ruled_listed s (Length b) = sym ((listed s).length b) ∙ sym (or_none ((live s).read (Length b)))
ruled_listed s (Byte b p) = sym ((listed s).byte b p) ∙ sym (or_none ((live s).read (Byte b p)))
ruled_listed s OfRule = rw ((listed s).rule) refl

-- what a cell read that ended so, whatever the rule
pub read_under : (s : State) (rule : Rule) (began : Running) (text : List ℕ) (o : Option Refusal) (saves : List (List ℕ × List ℕ)) (k : Key)
    → is_read_by (seen_of s) (is_some o) k
    ≡ (ended_under rule began (record { text = text; refusal = option_map refusal_of o; saves = saves; running = live s })).running.read k
read_under s rule began text None saves k = read_listed s k
read_under s Python began text (Some f) saves k = ruled_listed s k
read_under s Atomic began text (Some f) saves k = ruled_listed s k

found_kept : (o : Option Found) (b : Bool) (f : Found) → is_some o ≡ b → (IsTrue (is_some o) → o ≡ Some f) → o ≡ (if b then Some f else None)
found_kept None b f same h = rw (sym same) refl
found_kept (Some g) b f same h = rw (sym same) (h refl)

-- the record of an end: the session at it tells all but what was read
pub recorded_whole : (v : Session) (w : World) (r : RecordData) (e : Ended) (x : Running)
    → record { text = r.text; refusal = r.refusal; saves = r.saves; running = x } ≡ with_reads x.read e
    → r.changes.label ≡ x.label
    → ((k : Key) → keys_of r.reads k ≡ reads_of e k)
    → ((k : Key) → IsTrue (keys_of r.reads k) → found_of r.reads k ≡ Some (found_in v w k))
    → r.changes.events ≡ x.events
    → ((b : Base) → bases_in r.changes b ≡ (effects_of (ended x)).bases b)
    → ((b : Base) (p : ℕ) → writes_in r.changes b p ≡ (effects_of (ended x)).writes b p)
    → recorded r ≡ record_at_end v w e
recorded_whole v w r e x is label reads found events bases writes =
    let values : (k : Key) → found_of r.reads k ≡ (if reads_of e k then Some (found_in v w k) else None)
    = λ k. found_kept (found_of r.reads k) (reads_of e k) (found_in v w k) (reads k) (found k) in
    λ d. record {
      label = (label ∙ ap (λ (e : Ended). e.running.label) is) d;
      read = fun_ext reads d;
      values = fun_ext values d;
      effects = record {
        text = (is d).text;
        refusal = (is d).refusal;
        saves = (is d).saves;
        events = (events ∙ ap (λ (e : Ended). e.running.events) is) d;
        bases = fun_ext (λ b. bases b ∙ ap (λ (e : Ended). (effects_of e).bases b) is) d;
        writes = fun_ext (λ b. fun_ext (λ p. writes b p ∙ ap (λ (e : Ended). (effects_of e).writes b p) is)) d;
      };
    }

-- ---- the record of a run

-- a cell begins with what is collected
pub collected_start : (label : ℕ) (s : Session) → collected (session_of (start label s)) ≡ collected s
collected_start label s = ap (λ (f : Base → List ℕ). record { names = s.names; bytes = f }) (fun_ext (held_twice s))

-- the session at an end, whatever counts as read
pub session_at_end : (e f : Ended) (keys : Key → Bool) → e ≡ with_reads keys f → collected (session_of e.running) ≡ session_after f
session_at_end e f keys is = ap session_after is

-- what was found in the session that was kept is what was there
record_at_end_is : (label : ℕ) (p : Parsed) (i : World) (s : Session) → record_at_end (collected s) i (cell label p i s) ≡ record_of label p i s
record_at_end_is label p i s =
    let e : Ended = cell label p i s in
    λ d. record {
      label = (tracks_cell label p s i).labelled d;
      read = reads_of e;
      values = fun_ext (λ k. ap (λ f. if reads_of e k then Some f else None) (found_when_collected s i k)) d;
      effects = effects_of e;
    }

-- the record of an end that is another in reach
same_record : (v : Session) (i : World) (e f : Ended) → f.running.label ≡ e.running.label → HasSameEnd e f → record_at_end v i f ≡ record_at_end v i e
same_record v i e f label same = λ d. record {
  label = label d;
  read = same.reads d;
  values = λ k. if same.reads d k then Some (found_in v i k) else None;
  effects = same.effects d;
}

same_label : (e f : Ended) → EndsInReach e f → f.running.label ≡ e.running.label
same_label e f h = ap (λ (r : Running). r.label) h.running.rest

pub recorded_run : (label : ℕ) (p : Parsed) (i : World) (s v : Session) (e : Ended) (r : Record) → r ≡ record_at_end v i e → v ≡ collected s → EndsInReach (cell label p i s) e → r ≡ record_of label p i s
recorded_run label p i s v e r is kept ends =
    is ∙ ap (λ (v : Session). record_at_end v i e) kept
    ∙ same_record (collected s) i (cell label p i s) e (same_label (cell label p i s) e ends) (end_is_all label p i s e ends) ∙ record_at_end_is label p i s

pub ends_run : (label : ℕ) (p : Parsed) (i : World) (s v : Session) (e : Ended) → HasNone label s → IsSoundSession s → v ≡ collected s → EndsInReach (cell label p i s) e → EndsRun v i e
ends_run label p i s v e none sound kept ends =
    let same : e.running.label ≡ label = same_label (cell label p i s) e ends ∙ (tracks_cell label p s i).labelled in
    record {
      parsed = p;
      before = s;
      is = kept;
      none = subst (λ l. HasNone l s) (sym same) none;
      sound = sound;
      ends = subst (λ l. EndsInReach (cell l p i s) e) (sym same) ends;
    }

pub is_of_run : (r : RecordData) (v : Session) (i : World) (e : Ended) → EndsRun v i e → r.changes.label ≡ e.running.label → r.changes.next ≡ e.running.next → recorded r ≡ record_at_end v i e → IsOfRun r
is_of_run r v i e run label next is = record {
  parsed = run.parsed;
  world = i;
  before = run.before;
  none = subst (λ l. HasNone l run.before) (sym label) run.none;
  sound = run.sound;
  same = recorded_run e.running.label run.parsed i run.before v e (recorded r) is run.is run.ends ∙ ap (λ l. record_of l run.parsed i run.before) (sym label);
  next = next ∙ ap (λ (r : Running). r.next) run.ends.running.rest ∙ ap (λ l. (cell l run.parsed i run.before).running.next) (sym label);
}

-- ---- how a run ends

-- one that is not refused, as it came
pub not_refused : (rule : Rule) (began : Running) (text : List ℕ) (o : Option Refusal) (saves : List (List ℕ × List ℕ)) (x : Running) → is_some o ≡ false
    → record { text = text; refusal = option_map refusal_of o; saves = saves; running = x }
    ≡ with_reads x.read (ended_under rule began (record { text = text; refusal = option_map refusal_of o; saves = saves; running = x }))
not_refused rule began text None saves x none = refl
not_refused rule began text (Some f) saves x none = absurd cc

-- under `Python` also one that is refused
pub python_end : (rule : Rule) (began : Running) (text : List ℕ) (o : Option Refusal) (saves : List (List ℕ × List ℕ)) (x : Running) → rule ≡ Python
    → record { text = text; refusal = option_map refusal_of o; saves = saves; running = x }
    ≡ with_reads x.read (ended_under rule began (record { text = text; refusal = option_map refusal_of o; saves = saves; running = x }))
python_end rule began text None saves x is = refl
python_end rule began text (Some f) saves x is = rw is refl

-- under `Atomic` a refused one with the session that it began with, and without its files
pub atomic_end : (rule : Rule) (began : Running) (text : List ℕ) (o : Option Refusal) (saves kept : List (List ℕ × List ℕ)) (x y : Running) → rule ≡ Atomic → is_some o ≡ true
    → kept ≡ [] → y ≡ began
    → record { text = text; refusal = option_map refusal_of o; saves = kept; running = y }
    ≡ with_reads y.read (ended_under rule began (record { text = text; refusal = option_map refusal_of o; saves = saves; running = x }))
atomic_end rule began text None saves kept x y is some none back = absurd cc
atomic_end rule began text (Some f) saves kept x y is some none back = rw is (λ d. record { text = text; refusal = Some (refusal_of f); saves = none d; running = record (back d) { read = y.read } })

-- a snapshot of a cell that has begun, which goes on
pub thawed_start : (label : ℕ) (s : Session) (x : Running) (k : Kept) → x ≡ start label s → version_of k ≡ collected (session_of x) → k.label ≡ x.label → k.next ≡ x.next
    → thawed k ≡ start label s
thawed_start label s x k is kept labelled next =
    let v : version_of k ≡ collected s = kept ∙ ap (λ (x : Running). collected (session_of x)) is ∙ collected_start label s in
    let l : k.label ≡ label = labelled ∙ ap (λ (x : Running). x.label) is in
    let n : k.next ≡ 0 = next ∙ ap (λ (x : Running). x.next) is in
    λ d. record (start (l d) s) { names = (v d).names; bytes = (v d).bytes; next = n d }

-- the end of a cell that began with it
pub ended_cell : (label : ℕ) (p : Parsed) (w : World) (s : Session) (x began : Running) (e : Ended) → x ≡ start label s → began ≡ start label s → EndsInReach (ran w.inputs p x) e
    → EndsInReach (cell label p w s) (ended_under w.rule began e)
ended_cell label p w s x began e is same ends =
    subst (λ (f : Ended). EndsInReach f (ended_under w.rule began e)) (ap₂ (λ (b q : Running). ended_under w.rule b (ran w.inputs p q)) same is)
    (under_in_reach w.rule began (ran w.inputs p x) e ends)

-- ---- sessions

pub sound_now : (r : Running) → IsSound r → IsSoundSession (session_of r)
sound_now r h =
    held_map (IsHeldView r) (λ b g. LiesIn (length (held_bytes (session_of r) b)) g) r.names
    (λ b g held view. subst (λ l. LiesIn (length l) g) (sym (there b held)) view.lies) r.names (λ b l. l) h
  where
    there : (b : Base) → is_held b r.names ≡ true → held_bytes (session_of r) b ≡ r.bytes b
    there b held = rw held refl

-- what a record did may be done again where it still holds
pub redo_sound : (r : RecordData) (t : Session) (j : World) → IsOfRun r → StillHolds (recorded r) t j → IsSoundSession t → IsSound (going_on r.changes t)
redo_sound r t j run holds sound =
    let l : ℕ = r.changes.label in
    let e : Ended = cell l run.parsed run.world run.before in
    let again : StillHolds (record_of l run.parsed run.world run.before) t j = subst (λ (x : Record). StillHolds x t j) run.same holds in
    let agree : Agree (reads_of e) run.before run.world t j = found_at l run.parsed run.before t run.world j again in
    let after : IsSound (record (start l (with_effects l (effects_of e) t)) { next = e.running.next })
    = replays_sound l run.parsed run.before t run.world j run.none again.none run.sound sound agree in
    subst (λ n. IsSound (record (start l (with_effects l (recorded r).effects t)) { next = n })) (sym run.next)
    (subst (λ (x : Effects). IsSound (record (start l (with_effects l x t)) { next = e.running.next })) (sym (ap (λ (x : Record). x.effects) run.same)) after)

-- ---- changes

-- what the run did is what is kept of it
pub done_of : (r s : RecordData) → r ≡ s → HasDone r.changes (recorded s)
done_of r s same = subst (λ (s : RecordData). HasDone r.changes (recorded s)) same (record { label = refl; events = refl; bases = λ b. refl; writes = λ b p. refl })
