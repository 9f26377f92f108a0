use Rattle.nd_model.proofs.Parsing.Texts.{cell_is_read, read_is_cell, fault_is_read, read_is_fault}
use Rattle.nd_model.proofs.grammar.reading_is_exact.Goals as goal

pub returns-clause-statements : goal.returns-clause-statements
returns-clause-statements c = λ text ls. (read_is_cell text ls, cell_is_read text ls)

pub returns-clause-fault : goal.returns-clause-fault
returns-clause-fault c = λ text f. (read_is_fault text f, fault_is_read text f)
