-- What contracts see of a trace's fields, and what is true of them.
use Rattle.std.specs.Prelude.{◌≡◌, ℕ, ◌-◌, Bool, true, false, List, bytes_eq, map, min, string_bytes, vec_capacity, vec_len}
use Rattle.std.specs.Rc.{rc_str_bytes}
use Rattle.std.specs.List.{list_any}
use Rattle.indexmap.specs.IndexSet.{spare}
use Rattle.nd_model.specs.Cells.Running as running
use Rattle.nd_trace.specs.declared.trace.Event.{Event}
use Rattle.nd_trace.specs.declared.trace.Event.TheVariants.{Binds, Unbinds}
use Rattle.nd_trace.specs.declared.trace.Trace.TheInside.{Inside}
use Rattle.nd_heap.specs.Values.{base_of, value_of}
use Rattle.nd_trace.specs.Contents.{marks_of}
use Rattle.nd_trace.specs.Seen.{Seen}

abbrev pub event_of : Event → running.Event
event_of (Binds n v) = running.Binds (rc_str_bytes n) (value_of v.value)
event_of (Unbinds n) = running.Unbinds (rc_str_bytes n)

abbrev pub name_of_event : running.Event → List ℕ
name_of_event (running.Binds n v) = n
name_of_event (running.Unbinds n) = n

-- the event binds its name
abbrev pub binds : running.Event → Bool
binds (running.Binds n v) = true
binds (running.Unbinds n) = false

abbrev pub seen_in : Inside → Seen
seen_in t = record {
  label = t.label;
  events = map event_of t.events.items;
  written = marks_of t.written.entries;
  looked = map string_bytes t.looked.keys;
  asked = map string_bytes t.asked.keys;
  lengths = map base_of t.lengths.keys;
  used = marks_of t.used.entries;
  room = min (vec_capacity t.events - vec_len t.events) (spare t.touched);
}

-- the names of the events are those of the set
abbrev pub AreTouched : Inside → Type 0
AreTouched t = (n : List ℕ) → list_any (λ k. bytes_eq n (rc_str_bytes k)) t.touched.keys ≡ running.is_touched n (map event_of t.events.items)
