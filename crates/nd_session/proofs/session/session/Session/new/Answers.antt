use Rattle.std.proofs.Common.{ap}
use Rattle.nd_model.specs.Cells.Session as model
use Rattle.nd_trace.specs.Traced.{trace_of}
use Rattle.nd_heap.specs.Live.{bytes_at}
use Rattle.nd_session.specs.Session.Live.{live}
use Rattle.nd_session.proofs.session.Sessions.{begun}
use Rattle.nd_session.proofs.session.session.Session.new.Goals as goal

pub returns : goal.returns
unfolding live
returns c = begun 0 (trace_of c.new-2.result) c.new.result.names (bytes_at c.new.result.blocks) model.no_session
    c.new-2.ensures c.new.ensures.names (λ b. ap (λ bs. bytes_at bs b) c.new.ensures.blocks)
