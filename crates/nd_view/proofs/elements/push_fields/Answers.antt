use Rattle.std.proofs.Common.{arith}
use Rattle.nd_view.proofs.Inner.{ends}
use Rattle.nd_view.proofs.elements.push_fields.Goals as goal

pub overflow_add-place : goal.overflow_add-place
overflow_add-place c =
    let end = ends c.args.place c.args.fields.now c.loop-field.field-index c.field-item.result c.requires c.loop-field-test.true c.field-item.is in
    omega (arith, end, c.from.ensures, c.size-size.ensures.value, c.size-size.ensures.range)

pub push_run-requires : goal.push_run-requires
push_run-requires c =
    let end = ends c.args.place c.args.fields.now c.loop-field.field-index c.field-item.result c.requires c.loop-field-test.true c.field-item.is in
    omega (arith, end, c.from.ensures, c.size-size.ensures.value, c.size-size.ensures.range)
