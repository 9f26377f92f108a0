use Rattle.std.proofs.Common.{◌∙◌, ap, map, string_bytes}
use Rattle.nd_model.specs.Cells.Running as running
use Rattle.nd_trace.specs.Events.{seen_in}
use Rattle.nd_trace.specs.Traced.{trace_of}
use Rattle.nd_trace.specs.Seen.{Seen}
use Rattle.nd_trace.proofs.Traces.{asked_for}
use Rattle.nd_trace.proofs.trace.Trace.note_input.Goals as goal

pub returns-clause-after : goal.returns-clause-after
returns-clause-after c = asked_for (seen_in c.self.inside) c.args.name.now (map string_bytes c.add_text.new.texts.keys) c.in_ok-add_text.ensures.ok
    ∙ ap (λ (t : Seen). running.having_read (running.is_input c.args.name.now) (trace_of t)) c.self.view_is
