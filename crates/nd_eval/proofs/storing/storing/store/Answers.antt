use Rattle.std.proofs.Common.{◌≡◌, inl, inr, sym, subst}
use Rattle.std.specs.Prelude.{OnOk}
use Rattle.nd_model.specs.Cells.Running as running
use Rattle.nd_heap.specs.Values.{base_of, geo_of}
use Rattle.nd_heap.specs.declared.value.Value.{Value}
use Rattle.nd_session.specs.Session.Live.{live}
use Rattle.nd_eval.specs.Choosing.Targets.{writes_to}
use Rattle.nd_eval.specs.Storing.Operands.{operand_over}
use Rattle.nd_eval.proofs.storing.storing.store.Goals as goal

-- an array and a row of the same elements are stored alike
pub returns-in-Array : goal.returns-in-Array
returns-in-Array c =
    let r = live c.args.session.now in
    let Stores : Value → Type 0 = λ v. OnOk c.store_elements.result (live c.store_elements.new.session
    ≡ running.done (running.Storing (base_of c.args.target.now.base) (writes_to (geo_of c.args.target.now) (operand_over r.bytes v))) r) in
    elim c.in-Array.is [
      | inl array ↦ subst Stores (sym array) c.store_elements.ensures
      | inr row ↦ subst Stores (sym row) c.store_elements.ensures
    ]
