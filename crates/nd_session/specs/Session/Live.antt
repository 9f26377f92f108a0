-- The running session that a state stands for.
use Rattle.std.specs.Prelude.{[], if◌then◌else◌}
use Rattle.nd_model.specs.Cells.Running.{Running}
use Rattle.nd_reach.specs.Reach.{is_lost}
use Rattle.nd_session.specs.Session.State.{State}
use Rattle.nd_heap.specs.Live.{bytes_at}
use Rattle.nd_trace.specs.Marked.{is_marked, is_read}

abbrev pub running_of : State → Running
running_of s = record {
  names = s.names;
  bytes = bytes_at s.blocks;
  label = s.label;
  next = s.next;
  events = s.events;
  written = is_marked s.written;
  read = is_read s.looked s.asked s.lengths s.used;
}

-- the same, as contracts say it: callers see no more of it than its fields
unfoldable pub live : State → Running
live s = running_of s

-- the running session without the bases that it made and no bound value lies in
abbrev pub own_collected : Running → Running
own_collected r = record r { bytes = λ b. if is_lost r b then [] else r.bytes b }
