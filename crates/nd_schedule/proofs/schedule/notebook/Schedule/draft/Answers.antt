use Rattle.std.proofs.Common.{◌≡◌, length, sym, ap, ◌∙◌, subst, arith}
use Rattle.nd_model.specs.Book.Notebook.{Sheet}
use Rattle.nd_model.specs.Book.Renaming.{AreDistinct}
use Rattle.nd_model.specs.Book.Book.{labels_of}
use Rattle.nd_schedule.specs.Cells.Labels.{AreUsed}
use Rattle.nd_schedule.specs.Cells.Source.{cells_of}
use Rattle.nd_schedule.proofs.schedule.Drafting.{copied, long}
use Rattle.nd_schedule.proofs.schedule.notebook.Schedule.draft.Goals as goal

pub invariant_of-result : goal.invariant_of-result
invariant_of-result g c =
    let same : cells_of c.in_ok-clone.field-0.items ≡ cells_of c.self.inside.cells.items = copied c.self.inside.cells.items c.in_ok-clone.field-0.items (c.in_ok-clone.ensures.cases).0 in
    let many : length c.in_ok-clone.field-0.items ≡ length c.self.inside.cells.items = sym (long c.in_ok-clone.field-0.items) ∙ ap length same ∙ long c.self.inside.cells.items in (
      subst (λ cs. AreDistinct (labels_of cs)) (sym same) (c.self.invariant.0).run.distinct,
      omega (arith, many, c.loop-place.invariant, c.loop-place-test.false, c.loop-place.auto.place-end, c.len-place-end.ensures, c.self.inside.cells.ok),
      subst (AreUsed c.self.inside.least) (sym same) c.self.invariant.2,
    )

pub returns : goal.returns
returns g c = copied c.self.inside.cells.items c.in_ok-clone.field-0.items (c.in_ok-clone.ensures.cases).0 ∙ ap (λ (s : Sheet). s.cells) c.self.view_is
