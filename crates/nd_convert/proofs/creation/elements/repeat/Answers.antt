use Rattle.std.proofs.Common.{◌≡◌, ◌+◌, ◌*◌, ◌≤◌, ◌++◌, length, sym, ap, ◌∙◌, arith}
use Rattle.std.proofs.Math.Nat.{mul-le-mul_right}
use Rattle.nd_model.specs.Arrays.View.{item_size}
use Rattle.nd_model.specs.Arrays.Tuple.{indices, count_up}
use Rattle.nd_model.proofs.Tuples.{length-count_up, length-indices}
use Rattle.nd_convert.proofs.creation.NewBytes.{repeat_more, same_each}
use Rattle.nd_convert.proofs.creation.elements.repeat.Goals as goal

pub loop-init : goal.loop-init
loop-init c =
    let long : c.size-size.result ≡ length c.args.element.now = c.size-size.ensures.value ∙ ap item_size c.elem.ensures ∙ sym c.requires in
    record {
      written = c.in_ok-block.ensures.0;
      left = (let room = c.in_ok-block.ensures.1 ∙ ap (λ s. c.count-count.result * s) long in omega (arith, room));
    }

pub push-requires : goal.push-requires
push-requires c =
    let most = mul-le-mul_right (length c.args.element.now) (let next : c.loop.counter + 1 ≤ c.count-count.result = omega (arith, c.loop-test.true) in next) in
    omega (arith, c.loop.invariant.left, most)

pub loop-preserved : goal.loop-preserved
loop-preserved c = record {
  written = c.push.ensures.written ∙ ap (λ l. l ++ c.args.element.now) c.loop.invariant.written ∙ sym (repeat_more c.args.element.now c.loop.counter);
  left = omega (arith, c.loop.invariant.left, c.push.ensures.left);
}

pub finish-requires : goal.finish-requires
finish-requires c =
    let end : c.loop.counter ≡ c.count-count.result = omega (arith, c.loop-test.false, c.loop.auto.counter-end) in
    let whole = ap (λ n. n * length c.args.element.now) end in
    omega (arith, c.loop.invariant.left, whole)

pub returns : goal.returns
returns c =
    let end : c.loop.counter ≡ c.count-count.result = omega (arith, c.loop-test.false, c.loop.auto.counter-end) in
    let shape = c.args.view.now.shape in
    c.finish.ensures ∙ c.loop.invariant.written
    ∙ same_each c.args.element.now (count_up 0 c.loop.counter) (indices shape) (length-count_up 0 c.loop.counter ∙ end ∙ c.count-count.ensures.elements ∙ sym (length-indices shape))
