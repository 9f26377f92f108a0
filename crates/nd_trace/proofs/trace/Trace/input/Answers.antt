use Rattle.std.proofs.Common.{◌∙◌, bytes_eq, string_bytes, ap, subst, slice_get}
use Rattle.std.specs.List.{IsDistinct}
use Rattle.nd_trace.specs.Seen.{Seen, inputs_read}
use Rattle.nd_trace.proofs.Traces.{texts_once, none_past}
use Rattle.nd_trace.proofs.trace.Trace.input.Goals as goal

pub returns-in-Some-clause-once : goal.returns-in-Some-clause-once
returns-in-Some-clause-once c = subst (λ (t : Seen). IsDistinct bytes_eq (inputs_read t)) c.self.view_is (texts_once c.self.inside.asked.keys c.as_slice.ensures.unique)

pub returns-in-None-clause-once : goal.returns-in-None-clause-once
returns-in-None-clause-once c = subst (λ (t : Seen). IsDistinct bytes_eq (inputs_read t)) c.self.view_is (texts_once c.self.inside.asked.keys c.as_slice.ensures.unique)

pub returns-in-None-clause-name : goal.returns-in-None-clause-name
returns-in-None-clause-name c = none_past string_bytes c.self.inside.asked.keys c.as_slice.result.now c.args.i c.in-None.ensures.lookup.0 c.as_slice.ensures.keys
    ∙ ap (λ (t : Seen). slice_get (inputs_read t) c.args.i) c.self.view_is
