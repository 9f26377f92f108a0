use Rattle.std.proofs.Common.{ap, map, string_bytes}
use Rattle.nd_trace.specs.Contents.{marks_of}
use Rattle.nd_trace.specs.Events.{event_of, seen_in}
use Rattle.nd_heap.specs.Values.{base_of}
use Rattle.nd_trace.proofs.Traces.{nothing_seen}
use Rattle.nd_trace.proofs.trace.Trace.new.Goals as goal

pub returns : goal.returns
returns c = nothing_seen (seen_in (record { label = c.args.label; events = c.new.result; touched = c.new-2.result; written = c.new-3.result; looked = c.new-4.result; asked = c.new-5.result; lengths = c.new-6.result; used = c.new-7.result }))
    (ap (map event_of) c.new.ensures.items) (ap marks_of c.new-3.ensures.empty) (ap (map string_bytes) c.new-4.ensures.empty) (ap (map string_bytes) c.new-5.ensures.empty) (ap (map base_of) c.new-6.ensures.empty) (ap marks_of c.new-7.ensures.empty)
