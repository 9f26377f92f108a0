use Rattle.std.proofs.Common.{◌∙◌, ap, subst, slice_get}
use Rattle.std.specs.List.{IsDistinct}
use Rattle.nd_model.specs.Arrays.Value.{same_base}
use Rattle.nd_heap.specs.Values.{base_of}
use Rattle.nd_trace.specs.Seen.{Seen, bases_read}
use Rattle.nd_trace.proofs.Traces.{bases_once, none_past}
use Rattle.nd_trace.proofs.trace.Trace.base.Goals as goal

pub returns-in-Some-clause-once : goal.returns-in-Some-clause-once
returns-in-Some-clause-once c = subst (λ (t : Seen). IsDistinct same_base (bases_read t)) c.self.view_is (bases_once c.self.inside.lengths.keys c.as_slice.ensures.unique)

pub returns-in-None-clause-once : goal.returns-in-None-clause-once
returns-in-None-clause-once c = subst (λ (t : Seen). IsDistinct same_base (bases_read t)) c.self.view_is (bases_once c.self.inside.lengths.keys c.as_slice.ensures.unique)

pub returns-in-None-clause-base : goal.returns-in-None-clause-base
returns-in-None-clause-base c = none_past base_of c.self.inside.lengths.keys c.as_slice.result.now c.args.i c.in-None.ensures.lookup.0 c.as_slice.ensures.keys
    ∙ ap (λ (t : Seen). slice_get (bases_read t) c.args.i) c.self.view_is
