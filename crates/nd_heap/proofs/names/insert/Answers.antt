use Rattle.std.proofs.Common.{◌∙◌, ap}
use Rattle.nd_heap.specs.Values.{names_of}
use Rattle.nd_heap.proofs.Bases.{on_err}
use Rattle.nd_heap.proofs.NameLists.{names-insert}
use Rattle.nd_heap.proofs.names.insert.Goals as goal

pub returns-clause-ok : goal.returns-clause-ok
returns-clause-ok c = ap names_of c.in_ok-insert.ensures.entries ∙ names-insert c.args.name c.args.value c.args.names.now.entries

pub returns-in_err-insert-clause-err : goal.returns-in_err-insert-clause-err
returns-in_err-insert-clause-err c = on_err _ (ap names_of c.in_err-insert.ensures.err)
