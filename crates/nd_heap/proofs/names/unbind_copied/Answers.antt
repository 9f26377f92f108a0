use Rattle.std.proofs.Common.{◌∙◌, ap, ⊎_elim}
use Rattle.std.specs.Prelude.{is_ok}
use Rattle.nd_model.specs.Cells.Session as model
use Rattle.nd_heap.specs.Values.{names_of}
use Rattle.nd_heap.proofs.Bases.{on_err, at_err}
use Rattle.nd_heap.proofs.NameLists.{cloned_names}
use Rattle.nd_heap.proofs.names.unbind_copied.Goals as goal

pub returns-in_err-own-clause-err : goal.returns-in_err-own-clause-err
returns-in_err-own-clause-err c = on_err _ (⊎_elim (λ e. ap (λ m. names_of m.entries) e) (cloned_names _ _) (at_err _ _ c.in_err-own.was c.make_mut.follows.holds-at-none))

pub returns-clause-ok : goal.returns-clause-ok
returns-clause-ok c = ap (λ m. names_of m.entries) (c.make_mut.follows.holds c.remove.new.names (ap is_ok c.in_ok-own.was)) ∙ c.remove.ensures
    ∙ ap (model.unbind c.args.name.now) (⊎_elim (λ e. ap (λ m. names_of m.entries) e) (cloned_names _ _) c.in_ok-own.ensures.value)
