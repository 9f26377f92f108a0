use Rattle.std.proofs.Common.{◌∙◌, ap, map}
use Rattle.nd_model.specs.Cells.Session.{is_held}
use Rattle.nd_model.specs.Cells.Footprint.{replayed}
use Rattle.nd_heap.specs.Contents.{bases_of}
use Rattle.nd_trace.specs.Events.{event_of}
use Rattle.nd_heap.specs.Live.{is_base_among}
use Rattle.nd_session.proofs.session.Retaining.{own_kept}
use Rattle.nd_session.proofs.session.changes.own_bases.Goals as goal

pub returns : goal.returns
returns c = λ b own. ap (λ es. is_base_among (bases_of es) b) c.retain_own.ensures ∙ own_kept c.args.label c.in_ok-own.own.entries b own
    ∙ c.in_ok-own.ensures b
    ∙ ap (λ ns. is_held b (replayed (map event_of c.args.events.now) ns)) c.new-heap.ensures.names
