-- What contracts see of a session's fields.
use Rattle.std.specs.Prelude.{ℕ, List, []}
use Rattle.nd_model.specs.Arrays.Value as model
use Rattle.nd_session.specs.declared.session.session.Session.TheInside.{Inside}
use Rattle.nd_session.specs.Session.State.{State}
use Rattle.nd_model.specs.Cells.Footprint.{Effects, effects_of}
use Rattle.nd_session.specs.Session.Changes.{ended}
use Rattle.nd_trace.specs.Seen.{Seen}
use Rattle.nd_session.specs.Session.Live.{running_of}

-- the state of a trace over some names and blocks
abbrev pub traced : Seen → List (List ℕ × model.Value) → List (model.Base × List ℕ) → ℕ → State
traced t names blocks next = record {
  names = names;
  blocks = blocks;
  label = t.label;
  next = next;
  events = t.events;
  written = t.written;
  looked = t.looked;
  asked = t.asked;
  lengths = t.lengths;
  used = t.used;
  room = t.room;
}

abbrev pub state_of : Inside → State
state_of s = traced s.trace s.heap.names s.heap.blocks s.next

-- the effects of a trace over some blocks
abbrev pub effects_over : Seen → List (model.Base × List ℕ) → Effects
effects_over t blocks = effects_of (ended (running_of (traced t [] blocks 0)))
