-- What a cell reads and does, and the laws of it.
use Rattle.std.specs.Prelude.{◌≡◌, ℕ, suc, Bool, false, IsTrue, nat_eq, if◌then◌else◌, List, [], ◌∷◌, length, slice_index, Option, Some, None, is_some, unwrap_or}
use Rattle.nd_model.specs.Arrays.Value.{Base, Value}
use Rattle.nd_model.specs.Cells.Session.{Names, lookup, bind, unbind, is_held, Session, held_bytes}
use Rattle.nd_model.specs.Cells.Running.{Key, Name, Input, Length, Byte, OfRule, Event, Binds, Unbinds, Source, Rule, World}
use Rattle.nd_model.specs.Cells.Fault.{Refusal}
use Rattle.nd_model.specs.Grammar.Syntax.{Parsed}
use Rattle.nd_model.specs.Cells.Cell.{Saved, Ended, cell, session_after}

-- what stands at a key
pub data Found : Type 0 where
  Bound : Option Value → Found
  Given : Option Source → Found
  Number : ℕ → Found
  Ruled : Rule → Found

abbrev pub found : Session → World → Key → Found
found s w (Name n) = Bound (lookup n s.names)
found s w (Input n) = Given (w.inputs n)
found s w (Length b) = Number (length (held_bytes s b))
found s w (Byte b p) = Number (slice_index (held_bytes s b) p)
found s w OfRule = Ruled w.rule

-- both have the same at each of the keys
abbrev pub Agree : (Key → Bool) → Session → World → Session → World → Type 0
Agree keys s i t j = (k : Key) → IsTrue (keys k) → found s i k ≡ found t j k

-- no base of the label is in the session
pub record HasNone (label : ℕ) (s : Session) : Type 0 where
  pub none : (b : Base) → b.label ≡ label → is_held b s.names ≡ false

-- the names after the events
abbrev pub replayed : List Event → Names → Names
replayed [] names = names
replayed (Binds n v ∷ es) names = replayed es (bind n v names)
replayed (Unbinds n ∷ es) names = replayed es (unbind n names)

-- What a cell leaves behind: what it gives, the names that it bound and unbound, the bytes of the bases that it made and
-- that a name of its own holds at its end, and the bytes that it wrote elsewhere.
pub record Effects : Type 0 where
  pub text : List ℕ
  pub refusal : Option (ℕ × Refusal)
  pub saves : Saved
  pub events : List Event
  pub bases : Base → List ℕ
  pub writes : Base → ℕ → Option ℕ

abbrev pub reads_of : Ended → Key → Bool
reads_of e = e.running.read

abbrev pub effects_of : Ended → Effects
effects_of e = record {
  text = e.text;
  refusal = e.refusal;
  saves = e.saves;
  events = e.running.events;
  bases = λ b. if nat_eq b.label e.running.label then (if is_held b (replayed e.running.events []) then e.running.bytes b else []) else [];
  writes = λ b p. if nat_eq b.label e.running.label then None else (if e.running.written b p then Some (slice_index (e.running.bytes b) p) else None);
}

-- the bytes with those replaced that were written
abbrev pub patched : (ℕ → Option ℕ) → List ℕ → List ℕ
patched w [] = []
patched w (x ∷ xs) = unwrap_or (w 0) x ∷ patched (λ p. w (suc p)) xs

-- the session after these effects of the cell of this label
abbrev pub with_effects : ℕ → Effects → Session → Session
with_effects label e s =
    let names = replayed e.events s.names in
    record {
      names = names;
      bytes = λ b. if is_held b names then (if nat_eq b.label label then e.bases b else patched (e.writes b) (held_bytes s b)) else [];
    }

-- FRAME: sessions and inputs that agree on what the cell reads in the first give it the same reads and effects
abbrev pub Frame : Type 0
Frame = (label : ℕ) (p : Parsed) (s t : Session) (i j : World) → HasNone label s → HasNone label t
    → Agree (reads_of (cell label p i s)) s i t j
    → (reads_of (cell label p i s) ≡ reads_of (cell label p j t)) × (effects_of (cell label p i s) ≡ effects_of (cell label p j t))

-- THE RULE IS READ by a cell that is refused, and by no other.
abbrev pub RuleIsRead : Type 0
RuleIsRead = (label : ℕ) (p : Parsed) (s : Session) (w : World) → reads_of (cell label p w s) OfRule ≡ is_some (cell label p w s).refusal

-- the session after a cell is the one before it with the cell's effects
abbrev pub EffectsAreAll : Type 0
EffectsAreAll = (label : ℕ) (p : Parsed) (s : Session) (i : World) → HasNone label s
    → session_after (cell label p i s) ≡ with_effects label (effects_of (cell label p i s)) s

-- REPLAY: the effects of a run on one session give the session after a run on the other
abbrev pub Replay : Type 0
Replay = (label : ℕ) (p : Parsed) (s t : Session) (i j : World) → HasNone label s → HasNone label t
    → Agree (reads_of (cell label p i s)) s i t j
    → session_after (cell label p j t) ≡ with_effects label (effects_of (cell label p i s)) t
