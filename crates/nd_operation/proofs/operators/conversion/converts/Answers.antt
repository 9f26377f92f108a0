use Rattle.std.proofs.Common.{◌≡◌, ◌↔◌, IsTrue, sym, ap, subst, ◌∙◌}
use Rattle.nd_model.specs.Arrays.View.{ElementType, Structure}
use Rattle.nd_model.specs.Making.Conversion.{converts}
use Rattle.nd_types.specs.Types.{type_of}
use Rattle.nd_operation.proofs.operators.Converting.{structure_converts}
use Rattle.nd_operation.proofs.operators.conversion.converts.Goals as goal

pub returns-in-Rec : goal.returns-in-Rec
returns-in-Rec c =
    let s = c.in-Rec.field-0.value in
    let to = type_of c.args.to.now in
    let same : type_of c.args.from.now ≡ Structure s.0 s.1 = ap type_of c.in-Rec.is in
    structure_converts s.0 s.1 to c.is_same.result (subst (λ (t : ElementType). IsTrue c.is_same.result ↔ (t ≡ to)) same c.is_same.ensures) ∙ ap (λ t. converts t to) (sym same)
