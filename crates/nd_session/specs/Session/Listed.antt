-- The trace of a session, and what it lists.
use Rattle.std.specs.Prelude.{◌≡◌, ℕ, false, List}
use Rattle.nd_model.specs.Arrays.Value.{Base}
use Rattle.nd_model.specs.Cells.Running.{Name, Input, Length, Byte, OfRule}
use Rattle.nd_heap.specs.Live.{is_base_among}
use Rattle.nd_trace.specs.Marked.{is_among}
use Rattle.nd_trace.specs.Seen.{Seen, names_read, inputs_read, bases_read, is_used, is_written}
use Rattle.nd_session.specs.Session.State.{State}
use Rattle.nd_session.specs.Session.Live.{live}

-- the trace of a session
abbrev pub seen_of : State → Seen
seen_of s = record {
  label = s.label;
  events = s.events;
  written = s.written;
  looked = s.looked;
  asked = s.asked;
  lengths = s.lengths;
  used = s.used;
  room = s.room;
}

-- THE LAW OF READERS: the trace of a session lists what has been read and written, and nothing else
pub record IsListed (s : State) : Type 0 where
  pub name : (n : List ℕ) → (live s).read (Name n) ≡ is_among (names_read (seen_of s)) n
  pub input : (n : List ℕ) → (live s).read (Input n) ≡ is_among (inputs_read (seen_of s)) n
  pub length : (b : Base) → (live s).read (Length b) ≡ is_base_among (bases_read (seen_of s)) b
  pub byte : (b : Base) (p : ℕ) → (live s).read (Byte b p) ≡ is_used (seen_of s) b p
  pub rule : (live s).read OfRule ≡ false
  pub written : (b : Base) (p : ℕ) → (live s).written b p ≡ is_written (seen_of s) b p
  pub events : (live s).events ≡ (seen_of s).events
  pub label : (live s).label ≡ (seen_of s).label
