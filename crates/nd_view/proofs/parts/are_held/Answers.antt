use Rattle.std.proofs.Common.{◌≡◌, ◌<◌, ◌+◌, true, false, refl, sym, ap, ◌∙◌, arith}
use Rattle.std.specs.Prelude.{nat_le, ◌&&◌}
use Rattle.std.proofs.lemmas.Bool.Decides.{nat_tests}
use Rattle.nd_model.specs.Arrays.Tuple.{elements_of}
use Rattle.nd_view.specs.Strides.{before_of, behind_of}
use Rattle.nd_view.proofs.Extents.{held_is}
use Rattle.nd_view.proofs.Tuples.{no_tuples}
use Rattle.nd_view.proofs.parts.are_held.Goals as goal

pub returns-then-element_count-eq0 : goal.returns-then-element_count-eq0
returns-then-element_count-eq0 c = rw (no_tuples c.args.shape.now (sym c.element_count.ensures ∙ c.if-element_count-eq0.true)) refl

pub returns-then-extent-offset : goal.returns-then-extent-offset
returns-then-extent-offset c =
    let some : 0 < elements_of c.args.shape.now = omega (arith, c.element_count.ensures, c.if-element_count-eq0.false) in
    let low : nat_le (before_of c.args.shape.now c.args.strides.now) c.args.offset ≡ true = grind (arith, nat_tests) in
    (λ i. nat_le (c.from-offset.ensures i + c.extent_of-extent.ensures.behind i + c.from.ensures i) (c.from-then-extent-offset.ensures i))
    ∙ sym (held_is c.args.size c.args.block_len c.args.offset c.args.shape.now c.args.strides.now (sym c.requires.axes) some
    ∙ ap (λ b. b && nat_le (c.args.offset + behind_of c.args.shape.now c.args.strides.now + c.args.size) c.args.block_len) low)

pub returns-else-extent-offset : goal.returns-else-extent-offset
returns-else-extent-offset c =
    let some : 0 < elements_of c.args.shape.now = omega (arith, c.element_count.ensures, c.if-element_count-eq0.false) in
    let low : nat_le (before_of c.args.shape.now c.args.strides.now) c.args.offset ≡ false = grind (arith, nat_tests) in
    (λ i. nat_le (c.extent_of-extent.ensures.before i) (c.from-offset.ensures i)) ∙ low
    ∙ sym (held_is c.args.size c.args.block_len c.args.offset c.args.shape.now c.args.strides.now (sym c.requires.axes) some
    ∙ ap (λ b. b && nat_le (c.args.offset + behind_of c.args.shape.now c.args.strides.now + c.args.size) c.args.block_len) low)
