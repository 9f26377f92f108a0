use Rattle.std.proofs.Common.{◌≤◌, ◌^◌, arith}
use Rattle.nd_model.specs.Arrays.View.{item_size}
use Rattle.nd_types.specs.Types.{type_of}
use Rattle.nd_view.proofs.Made.{parted_fields, parted_as}
use Rattle.nd_view.proofs.strided.View.from_strides.Goals as goal

pub invariant_of-result : goal.invariant_of-result
invariant_of-result c =
    let small : item_size (type_of c.args.elem) ≤ 65536 = omega (arith, c.size-size.ensures.value, c.size-size.ensures.range) in
    let f = parted_fields (item_size (type_of c.args.elem)) c.args.shape.now c.args.strides.now c.args.offset (2 ^ 64) c.requires
    c.in_ok-from_slice.field-0.items c.in_ok-kept_steps.field-0.items c.kept_offset-start.result c.in_ok-from_slice.ensures.ok c.in_ok-kept_steps.ensures c.kept_offset-start.ensures small (omega arith) in
    record { limits = f.limits; axes = f.axes; strides = f.strides; offset = f.offset; some = omega (arith, c.size-size.ensures.value, c.size-size.ensures.range); low = f.low; high = f.high }

pub returns : goal.returns
returns c =
    parted_as (type_of c.args.elem) c.args.shape.now c.in_ok-from_slice.field-0.items c.args.strides.now c.in_ok-kept_steps.field-0.items c.args.offset c.kept_offset-start.result (2 ^ 64) c.args.writable
    c.requires c.in_ok-from_slice.ensures.ok c.in_ok-kept_steps.ensures c.kept_offset-start.ensures
