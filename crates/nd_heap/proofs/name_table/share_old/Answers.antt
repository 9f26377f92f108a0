use Rattle.std.proofs.Common.{ap, ⊎_elim}
use Rattle.nd_heap.specs.Sharing.{held_in}
use Rattle.nd_heap.specs.Values.{names_of}
use Rattle.nd_heap.proofs.Marks.{same_items}
use Rattle.nd_heap.proofs.NameLists.{cloned_names}
use Rattle.nd_heap.proofs.name_table.share_old.Goals as goal

pub returns-in-Ok-clause-names : goal.returns-in-Ok-clause-names
returns-in-Ok-clause-names c = ⊎_elim (λ e. ap (λ m. names_of m.entries) e) (cloned_names _ _) c.in_ok-names.ensures

pub returns-in-Ok-clause-marks : goal.returns-in-Ok-clause-marks
returns-in-Ok-clause-marks c = ⊎_elim (λ e. ap (λ v. v.items) e) (λ same. same_items (held_in c.args.marks.now).items (held_in c.in-Ok.marks).items same.0) c.in-Ok.ensures
