use Rattle.std.proofs.Common.{◌≡◌, ◌||◌, false, eqb, ne_eqb, refl, sym, ap₂, ◌∙◌}
use Rattle.nd_schedule.proofs.cells.Free.{marked_more}
use Rattle.nd_schedule.proofs.schedule.matching.find_label.Goals as goal

pub loop-k-preserved : goal.loop-k-preserved
loop-k-preserved c =
    let other : eqb c.args.label c.deref.result.now.label ≡ false = ne_eqb c.args.label c.deref.result.now.label (λ e. absurd (c.if-deref-label.false (sym e))) in
    sym (marked_more c.args.label c.loop-k.k c.args.cells.now c.index-cells-k.result c.deref.result.now _ _ c.loop-k-test.true c.index-cells-k.is c.deref.ensures refl refl)
    ∙ ap₂ (λ a b. a || b) c.loop-k.invariant other
