use Rattle.std.proofs.Common.{◌≡◌, ◌≤◌, ap, ◌∙◌, arith}
use Rattle.nd_model.specs.Arrays.View.{item_size}
use Rattle.nd_types.specs.Types.{type_of}
use Rattle.nd_view.specs.Strides.{strides_of}
use Rattle.nd_view.proofs.Fields.{made}
use Rattle.nd_view.proofs.Made.{gapless_fields}
use Rattle.nd_view.proofs.strided.View.contiguous.Goals as goal

abbrev steps : (c : goal.In_ok-from_slice) → c.in_ok-strides.strides.items ≡ strides_of (item_size (type_of c.args.elem)) c.args.shape.now
steps c = c.in_ok-strides.ensures ∙ ap (λ n. strides_of n c.args.shape.now) c.size.ensures.value

pub invariant_of-result : goal.invariant_of-result
invariant_of-result c =
    let small : item_size (type_of c.args.elem) ≤ 65536 = omega (arith, c.size.ensures.value, c.size.ensures.range) in
    let f = gapless_fields (item_size (type_of c.args.elem)) c.args.shape.now c.in_ok-from_slice.field-0.items c.in_ok-strides.strides.items c.in_ok-from_slice.ensures.ok (steps c) c.requires small in
    record { limits = f.limits; axes = f.axes; strides = f.strides; offset = f.offset; some = omega (arith, c.size.ensures.value, c.size.ensures.range); low = f.low; high = f.high }

pub returns : goal.returns
returns c = made (type_of c.args.elem) c.args.shape.now c.in_ok-from_slice.field-0.items c.in_ok-strides.strides.items c.in_ok-from_slice.ensures.ok (steps c)
