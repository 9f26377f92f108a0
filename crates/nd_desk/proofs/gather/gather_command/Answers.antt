use Rattle.nd_desk.proofs.Gathered.{gathers_by, gathers_to}
use Rattle.nd_desk.proofs.gather.gather_command.Goals as goal

pub returns-in-Insert-clause-done : goal.returns-in-Insert-clause-done
returns-in-Insert-clause-done g c = rw c.in-Insert.is (gathers_to _ _ _ c.open_text.ensures)

pub returns-in-Edit-clause-done : goal.returns-in-Edit-clause-done
returns-in-Edit-clause-done g c = rw c.in-Edit.is (gathers_to _ _ _ c.open_text-in-Edit.ensures)

pub returns-in-Remove-clause-done : goal.returns-in-Remove-clause-done
returns-in-Remove-clause-done g c = rw c.in-Remove.is (gathers_by c.keep_edit.result _ _ c.keep_edit.ensures)

pub returns-in-Move-clause-done : goal.returns-in-Move-clause-done
returns-in-Move-clause-done g c = rw c.in-Move.is (gathers_by c.keep_edit-in-Move.result _ _ c.keep_edit-in-Move.ensures)

pub returns-in-SetInput-clause-done : goal.returns-in-SetInput-clause-done
returns-in-SetInput-clause-done g c = rw c.in-SetInput.is (gathers_by c.keep_input.result _ _ c.keep_input.ensures)

pub returns-in-DropInput-clause-done : goal.returns-in-DropInput-clause-done
returns-in-DropInput-clause-done g c = rw c.in-DropInput.is (gathers_by c.keep_drop.result _ _ c.keep_drop.ensures)

pub returns-in-PythonRule-clause-done : goal.returns-in-PythonRule-clause-done
returns-in-PythonRule-clause-done g c = rw c.in-PythonRule.is (gathers_by c.keep_edit-in-PythonRule.result _ _ c.keep_edit-in-PythonRule.ensures)

pub returns-in-AtomicRule-clause-done : goal.returns-in-AtomicRule-clause-done
returns-in-AtomicRule-clause-done g c = rw c.in-AtomicRule.is (gathers_by c.keep_edit-in-AtomicRule.result _ _ c.keep_edit-in-AtomicRule.ensures)

pub returns-in-Show-clause-done : goal.returns-in-Show-clause-done
returns-in-Show-clause-done g c = rw c.in-Show.is c.refuse_line.ensures

pub returns-in-Source-clause-done : goal.returns-in-Source-clause-done
returns-in-Source-clause-done g c = rw c.in-Source.is c.refuse_line-in-Source.ensures

pub returns-in-Names-clause-done : goal.returns-in-Names-clause-done
returns-in-Names-clause-done g c = rw c.in-Names.is c.refuse_line-in-Names.ensures

pub returns-in-Value-clause-done : goal.returns-in-Value-clause-done
returns-in-Value-clause-done g c = rw c.in-Value.is c.refuse_line-in-Value.ensures

pub returns-in-Saved-clause-done : goal.returns-in-Saved-clause-done
returns-in-Saved-clause-done g c = rw c.in-Saved.is c.refuse_line-in-Saved.ensures

pub returns-in-Count-clause-done : goal.returns-in-Count-clause-done
returns-in-Count-clause-done g c = rw c.in-Count.is c.refuse_line-in-Count.ensures

pub returns-in-Bad-clause-done : goal.returns-in-Bad-clause-done
returns-in-Bad-clause-done g c = rw c.in-Bad.is c.refuse_line-in-Bad.ensures
