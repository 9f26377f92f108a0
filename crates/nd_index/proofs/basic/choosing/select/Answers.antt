use Rattle.std.proofs.Common.{◌≡◌, ◌-◌, ◌+◌, length, ap, ◌∙◌, sym, arith}
use Rattle.std.specs.List.{list_any}
use Rattle.nd_model.specs.Indexing.Selecting.{axes_in, has_zero_step}
use Rattle.nd_model.proofs.Selected.{filled_axes}
use Rattle.nd_index.specs.Basic.FullIndexes.{items_in}
use Rattle.nd_index.specs.Basic.Items.{items_of, kept_in}
use Rattle.nd_index.proofs.basic.Fillings.{filled_kept, filled_steps}
use Rattle.nd_index.proofs.basic.choosing.select.Goals as goal

pub outside_fault-requires-clause-axes : goal.outside_fault-requires-clause-axes
outside_fault-requires-clause-axes c =
    let missing = length c.shape-shape.result.now - c.count_items-counts.result.axes in
    ap axes_in c.fill-index.ensures.items ∙ filled_axes missing (items_of c.args.items.now) ∙ omega (arith, c.count_items-counts.ensures.axes, c.if-counts-shape.false)

pub pick-requires-clause-whole : goal.pick-requires-clause-whole
pick-requires-clause-whole c =
    let missing = length c.shape-shape.result.now - c.count_items-counts.result.axes in
    ap axes_in c.fill-index.ensures.items ∙ filled_axes missing (items_of c.args.items.now)
    ∙ omega (arith, c.count_items-counts.ensures.axes, c.if-counts-shape.false, ap length c.shape-shape.ensures.value)

pub pick-requires-clause-steps : goal.pick-requires-clause-steps
pick-requires-clause-steps c =
    let missing = length c.shape-shape.result.now - c.count_items-counts.result.axes in
    ap (list_any has_zero_step) c.fill-index.ensures.items ∙ filled_steps missing (items_of c.args.items.now) ∙ sym c.has_zero_step.ensures ∙ c.if-has_zero_step.false

pub pick-requires-clause-axes : goal.pick-requires-clause-axes
pick-requires-clause-axes c =
    let missing = length c.shape-shape.result.now - c.count_items-counts.result.axes in
    let whole : kept_in (items_in c.fill-index.result) ≡ missing + kept_in (items_of c.args.items.now)
    = ap kept_in c.fill-index.ensures.items ∙ filled_kept missing (items_of c.args.items.now) in
    omega (arith, whole, c.count_items-counts.ensures.kept, c.fill-index.ensures.missing)
