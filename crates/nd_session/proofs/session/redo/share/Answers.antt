use Rattle.std.proofs.Common.{◌∙◌, ap}
use Rattle.nd_model.specs.Cells.Running as running
use Rattle.nd_heap.specs.Live.{bytes_at}
use Rattle.nd_heap.specs.Values.{base_of}
use Rattle.nd_session.proofs.session.redo.share.Goals as goal

pub returns-clause-ok : goal.returns-clause-ok
returns-clause-ok c = c.in_ok-put_block.ensures.ok ∙ ap (λ bytes. running.with_base (base_of c.args.base) bytes (bytes_at c.args.heap.now.blocks)) c.in_ok-shared.ensures.cases
