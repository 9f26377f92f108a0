-- What contracts see of the changes that a cell made: plain data, and the effects that they stand for.
use Rattle.std.specs.Prelude.{ℕ, List, [], nat_eq, Option, None, if◌then◌else◌, Bool, is_some}
use Rattle.nd_model.specs.Arrays.Value.{Base}
use Rattle.nd_model.specs.Cells.Session.{Names, Session, is_held, lookup}
use Rattle.nd_model.specs.Cells.Fault.{Refusal}
use Rattle.nd_model.specs.Cells.Cell.{Saved, Ended}
use Rattle.nd_model.specs.Cells.Running.{Event, Running, start}
use Rattle.nd_model.specs.Cells.Footprint.{Effects, replayed, with_effects}
use Rattle.nd_heap.specs.Live.{bytes_at}
use Rattle.nd_session.specs.Session.Found.{Found, byte_at, lookup_base}

pub record ChangesData : Type 0 where
  -- the cell, and the number of its next base
  pub label : ℕ
  pub next : ℕ
  pub events : List Event
  -- the bytes that it wrote to bases of other cells, and the blocks that it made
  pub written : List (Base × Found)
  pub blocks : List (Base × List ℕ)

-- the names that it bound and unbound
abbrev pub events_in : ChangesData → List Event
events_in c = c.events

-- a name is bound
abbrev pub is_bound : List ℕ → Names → Bool
is_bound n names = is_some (lookup n names)

-- the bytes of a base that it made, if a name of its own holds it
abbrev pub bases_in : ChangesData → Base → List ℕ
bases_in c b = if nat_eq b.label c.label then (if is_held b (replayed c.events []) then bytes_at c.blocks b else []) else []

-- the bytes that it wrote to other bases
abbrev pub writes_in : ChangesData → Base → ℕ → Option ℕ
writes_in c b p = byte_at (lookup_base b c.written) p

-- a cell's effects, with what it gave
abbrev pub effects_in : List ℕ → Option (ℕ × Refusal) → Saved → ChangesData → Effects
effects_in text refusal saves c = record {
  text = text;
  refusal = refusal;
  saves = saves;
  events = events_in c;
  bases = bases_in c;
  writes = writes_in c;
}

-- a session after the changes
abbrev pub changed : ChangesData → Session → Session
changed c s = with_effects c.label (effects_in [] None [] c) s

-- the same, while the cell that made them goes on
abbrev pub going_on : ChangesData → Session → Running
going_on c s = record (start c.label (changed c s)) { next = c.next }

-- a cell's end with nothing but its session
abbrev pub ended : Running → Ended
ended r = record { text = []; refusal = None; saves = []; running = r }
