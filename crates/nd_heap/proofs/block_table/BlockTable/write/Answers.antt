use Rattle.std.proofs.Common.{◌∙◌, ap}
use Rattle.nd_model.specs.Cells.Running as running
use Rattle.nd_heap.specs.Values.{base_of}
use Rattle.nd_heap.proofs.Bases.{on_err, at_err}
use Rattle.nd_heap.proofs.block_table.BlockTable.write.Goals as goal

pub returns-in_err-write_layer-clause-err : goal.returns-in_err-write_layer-clause-err
returns-in_err-write_layer-clause-err g c = on_err _ (at_err _ _ c.in_err-write_layer.was c.write_layer.ensures.err ∙ c.raise.ensures.bytes)

pub returns-clause-ok : goal.returns-clause-ok
returns-clause-ok g c = c.in_ok-write_layer.ensures.ok
    ∙ ap (λ bs. running.with_base (base_of c.args.base) (g.W.BlockWriter.written c.args.writer (bs (base_of c.args.base))) bs) c.raise.ensures.bytes
