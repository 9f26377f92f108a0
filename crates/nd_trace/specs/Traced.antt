-- What a trace alone stands for.
use Rattle.std.specs.Prelude.{[]}
use Rattle.nd_model.specs.Cells.Running.{Running}
use Rattle.nd_heap.specs.Live.{bytes_at}
use Rattle.nd_trace.specs.Marked.{is_marked, is_read}
use Rattle.nd_trace.specs.Seen.{Seen}

-- the running session of no names and no blocks that has read and done what the trace lists
abbrev pub trace_of : Seen → Running
trace_of t = record {
  names = [];
  bytes = bytes_at [];
  label = t.label;
  next = 0;
  events = t.events;
  written = is_marked t.written;
  read = is_read t.looked t.asked t.lengths t.used;
}
