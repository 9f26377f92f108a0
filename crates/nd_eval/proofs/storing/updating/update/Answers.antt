use Rattle.std.proofs.Common.{◌≡◌, Ok, inl, inr, sym, subst}
use Rattle.std.specs.Prelude.{OnOk}
use Rattle.nd_model.specs.Making.Augmenting.{in_place_kind}
use Rattle.nd_model.specs.Cells.Running as running
use Rattle.nd_heap.specs.Values.{base_of, geo_of}
use Rattle.nd_heap.specs.declared.value.Value.{Value}
use Rattle.nd_session.specs.Session.Live.{live}
use Rattle.nd_syntax.specs.Trees.Syntax.{binary_op}
use Rattle.nd_types.specs.Kinds.{kind_of}
use Rattle.nd_eval.specs.Storing.Operands.{operand_over}
use Rattle.nd_eval.specs.Storing.Updatable.{updates}
use Rattle.nd_eval.proofs.storing.updating.update.Goals as goal

pub update_by_elements-requires-clause-kind : goal.update_by_elements-requires-clause-kind
update_by_elements-requires-clause-kind c =
    let r = live c.args.session.now in
    let Has : Value → Type 0 = λ v. in_place_kind (binary_op c.args.op) (geo_of c.args.target.now) (operand_over r.bytes v) ≡ Ok (kind_of c.args.kind) in
    elim c.in-Array.is [
      | inl array ↦ subst Has array c.requires.kind
      | inr row ↦ subst Has row c.requires.kind
    ]

-- an array and a row of the same elements count alike
pub returns-in-Array : goal.returns-in-Array
returns-in-Array c =
    let r = live c.args.session.now in
    let Updates : Value → Type 0 = λ v. OnOk c.update_by_elements.result (live c.update_by_elements.new.session
    ≡ running.done (running.Storing (base_of c.args.target.now.base) (updates (kind_of c.args.kind) (binary_op c.args.op) r.bytes c.args.target.now v)) r) in
    elim c.in-Array.is [
      | inl array ↦ subst Updates (sym array) c.update_by_elements.ensures
      | inr row ↦ subst Updates (sym row) c.update_by_elements.ensures
    ]
