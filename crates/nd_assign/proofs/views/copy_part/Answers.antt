use Rattle.std.proofs.Common.{◌≡◌, sym, ap, ◌∙◌}
use Rattle.nd_model.specs.Making.Conversion.{converts}
use Rattle.nd_model.specs.Arrays.View.{Structure}
use Rattle.nd_types.specs.Types.{type_of}
use Rattle.nd_assign.specs.Copies.{with_copies}
use Rattle.nd_assign.proofs.SameTypes.{same_structure}
use Rattle.nd_assign.proofs.views.copy_part.Goals as goal

pub returns-in-Rec-Rec-clause-bytes : goal.returns-in-Rec-Rec-clause-bytes
returns-in-Rec-Rec-clause-bytes c =
    let a = c.args in let s = c.deref.result.now in let t = c.in-Rec-Rec.structure.value in let f = c.in-Rec-Rec.field-0-1.value in
    let to : type_of a.to.now ≡ Structure t.0 t.1 = ap type_of c.in-Rec-Rec.is-0 in
    let from : type_of a.from.now ≡ Structure f.0 f.1 = ap type_of c.in-Rec-Rec.is-1 in
    let same : Structure f.0 f.1 ≡ Structure t.0 t.1 = same_structure f.0 t.0 f.1 t.1 (sym (λ i. converts (from i) (to i)) ∙ c.requires.types) in
    let own : Structure s.0 s.1 ≡ Structure t.0 t.1 = λ i. Structure (c.deref.ensures i).0 (c.deref.ensures i).1 in
    c.copy_structures.ensures.bytes ∙ (λ i. with_copies ((own ∙ sym to) i) ((own ∙ sym same ∙ sym from) i) a.bytes.now a.run.now a.from_run.now a.out.now)
