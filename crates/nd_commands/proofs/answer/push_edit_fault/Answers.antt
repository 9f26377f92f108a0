use Rattle.nd_commands.proofs.answer.push_edit_fault.Goals as goal

pub returns-in-NoCell : goal.returns-in-NoCell
returns-in-NoCell g c = rw c.in-NoCell.is c.push_no_cell.ensures

pub returns-in-TooManyCells : goal.returns-in-TooManyCells
returns-in-TooManyCells g c = rw c.in-TooManyCells.is c.push_text.ensures

pub returns-in-CellTooLong : goal.returns-in-CellTooLong
returns-in-CellTooLong g c = rw c.in-CellTooLong.is c.push_text-in-CellTooLong.ensures

pub returns-in-BadInputName : goal.returns-in-BadInputName
returns-in-BadInputName g c = rw c.in-BadInputName.is c.push_text-in-BadInputName.ensures

pub returns-in-InputTooLarge : goal.returns-in-InputTooLarge
returns-in-InputTooLarge g c = rw c.in-InputTooLarge.is c.push_text-in-InputTooLarge.ensures

pub returns-in-NoInputNamed : goal.returns-in-NoInputNamed
returns-in-NoInputNamed g c = rw c.in-NoInputNamed.is c.push_words.ensures

pub returns-in-Memory : goal.returns-in-Memory
returns-in-Memory g c = rw c.in-Memory.is c.push_text-in-Memory.ensures
