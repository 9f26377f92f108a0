-- The change that a shared one stands for.
use Rattle.std.specs.Prelude.{Option, Some, None}
use Rattle.std.proofs.Common.{Global}
use Rattle.std.specs.declared.rc.Rc.{Rc}
use Rattle.nd_change.specs.Change.{Change}
use Rattle.nd_session.specs.Session.Change.{ChangeData, change_of}
use Rattle.nd_notebook.specs.declared.shared_change.SharedChange.{SharedChange}

-- what is held, or nothing
abbrev pub held_change : Option (Rc ChangeData Global) → Change
held_change None = λ _. None
held_change (Some held) = change_of held.value

abbrev pub changed_in : SharedChange → Change
changed_in c = held_change c.held
