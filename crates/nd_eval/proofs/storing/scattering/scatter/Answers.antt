use Rattle.std.proofs.Common.{◌≡◌, inl, inr, sym, subst}
use Rattle.std.specs.Prelude.{OnOk}
use Rattle.nd_model.specs.Cells.Running as running
use Rattle.nd_heap.specs.Values.{base_of}
use Rattle.nd_heap.specs.declared.value.Value.{Value}
use Rattle.nd_session.specs.Session.Live.{live}
use Rattle.nd_eval.specs.Choosing.Selections.{selected}
use Rattle.nd_eval.specs.Choosing.Targets.{writes_to}
use Rattle.nd_eval.specs.Storing.Operands.{operand_over}
use Rattle.nd_eval.proofs.storing.scattering.scatter.Goals as goal

-- an array and a row of the same elements are stored alike
pub returns-in-Array : goal.returns-in-Array
returns-in-Array c =
    let r = live c.args.session.now in
    let Stores : Value → Type 0 = λ v. OnOk c.scatter_elements.result (live c.scatter_elements.new.session
    ≡ running.done (running.Storing (base_of c.args.base) (writes_to (selected c.args.selection.now) (operand_over r.bytes v))) r) in
    elim c.in-Array.is [
      | inl array ↦ subst Stores (sym array) c.scatter_elements.ensures
      | inr row ↦ subst Stores (sym row) c.scatter_elements.ensures
    ]
