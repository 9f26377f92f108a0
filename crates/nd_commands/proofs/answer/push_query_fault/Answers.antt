use Rattle.nd_commands.proofs.answer.push_query_fault.Goals as goal

pub returns-in-NoCell : goal.returns-in-NoCell
returns-in-NoCell g c = rw c.in-NoCell.is c.push_no_cell.ensures

pub returns-in-NoName : goal.returns-in-NoName
returns-in-NoName g c = rw c.in-NoName.is c.push_words.ensures

pub returns-in-NoSave : goal.returns-in-NoSave
returns-in-NoSave g c = rw c.in-NoSave.is c.push_words-in-NoSave.ensures

pub returns-in-Memory : goal.returns-in-Memory
returns-in-Memory g c = rw c.in-Memory.is c.push_text.ensures
