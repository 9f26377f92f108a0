use Rattle.std.proofs.Common.{◌≡◌, ◌≤◌, sym, ap, ◌∙◌, arith}
use Rattle.std.specs.Prelude.{None}
use Rattle.std.specs.Option.{option_map}
use Rattle.nd_model.specs.Arrays.Strides as model
use Rattle.nd_model.specs.Arrays.View.{item_size}
use Rattle.nd_types.specs.Types.{type_of}
use Rattle.nd_view.specs.Faults.{view_fault_of}
use Rattle.nd_view.proofs.Made.{parted_fields, parted}
use Rattle.nd_view.proofs.strided.View.from_parts.Goals as goal

abbrev none : (c : goal.After-kept_offset) → model.parts_fault (item_size (type_of c.args.elem)) c.args.shape.now c.args.strides.now c.args.offset c.args.block_len ≡ None
none c =
    ap (λ n. model.parts_fault n c.args.shape.now c.args.strides.now c.args.offset c.args.block_len) (sym c.size.ensures.value)
    ∙ sym c.parts_fault.ensures ∙ ap (option_map view_fault_of) c.in_default.is

pub invariant_of-result : goal.invariant_of-result
invariant_of-result c =
    let small : item_size (type_of c.args.elem) ≤ 65536 = omega (arith, c.size.ensures.value, c.size.ensures.range) in
    let f = parted_fields (item_size (type_of c.args.elem)) c.args.shape.now c.args.strides.now c.args.offset c.args.block_len (none c)
    c.in_ok-from_slice.field-0.items c.in_ok-kept_strides.field-0.items c.kept_offset.result c.in_ok-from_slice.ensures.ok c.in_ok-kept_strides.ensures c.kept_offset.ensures small (omega arith) in
    record { limits = f.limits; axes = f.axes; strides = f.strides; offset = f.offset; some = omega (arith, c.size.ensures.value, c.size.ensures.range); low = f.low; high = f.high }

pub returns : goal.returns
returns c =
    parted (type_of c.args.elem) c.args.shape.now c.in_ok-from_slice.field-0.items c.args.strides.now c.in_ok-kept_strides.field-0.items c.args.offset c.kept_offset.result c.args.block_len
    (none c) c.in_ok-from_slice.ensures.ok c.in_ok-kept_strides.ensures c.kept_offset.ensures
