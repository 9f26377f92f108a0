use Rattle.std.proofs.Common.{sym, ap, ◌∙◌}
use Rattle.nd_types.specs.Types.{type_of}
use Rattle.nd_operation.proofs.operators.Decoding.{numbers_are, structures_are}
use Rattle.nd_operation.proofs.operators.operand.BorrowedArray.soundness.Goals as goal

pub returns-in-One : goal.returns-in-One
returns-in-One c =
    let e = c.args.self.now in
    numbers_are e.view.now c.in-One.field-0 e.block.now (sym c.elem.ensures ∙ ap type_of c.in-One.is) e.held

pub returns-in-Rec : goal.returns-in-Rec
returns-in-Rec c =
    let e = c.args.self.now in
    let s = c.in-Rec.structure.value in
    structures_are e.view.now s.0 s.1 e.block.now (sym c.elem.ensures ∙ ap type_of c.in-Rec.is) (rw c.deref.ensures at c.fields.ensures.inside) e.held
