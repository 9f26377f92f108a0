use Rattle.std.proofs.Common.{◌≡◌, ◌+◌, ◌*◌, ◌≤◌, List, ℕ, length, sym, ap, ◌∙◌, arith, rules, length-append}
use Rattle.nd_model.specs.Arrays.View.{item_size}
use Rattle.nd_view.proofs.ByRuns.{behind_run}
use Rattle.nd_types.specs.Types.{type_of}
use Rattle.nd_scatter.specs.KeptLength.{length-scattered}
use Rattle.nd_scatter.specs.Scattered.{scattered}
use Rattle.nd_scatter.proofs.Copies.{scattered_parts}
use Rattle.nd_scatter.proofs.writing.write_found.Goals as goal

pub write_part-requires-clause-held : goal.write_part-requires-clause-held
write_part-requires-clause-held c = λ k lt.
    let part : List ℕ = c.in-Some.part.now in let step = c.args.step in let done = c.loop-part.done in
    let left : length c.loop-part.walk ≡ length part + length c.next.new.self = ap length c.in-Some.ensures.split ∙ length-append part c.next.new.self in
    let here : (done + k) * step ≡ done * step + k * step = omega arith in
    let held = c.requires.held (done + k) (omega (arith, lt, left, c.loop-part.invariant.done)) in
    omega (arith, held, here)

pub loop-part-preserved : goal.loop-part-preserved
loop-part-preserved c =
    let t = type_of c.args.elem.now in let values : List ℕ = c.args.values.now in let step = c.args.step in let done = c.loop-part.done in let out : List ℕ = c.loop-part.out in
    let part : List ℕ = c.in-Some.part.now in let rest : List ℕ = c.next.new.self in
    let left : length c.loop-part.walk ≡ length part + length rest = ap length c.in-Some.ensures.split ∙ length-append part rest in
    let next : (done + length part) * step ≡ done * step + length part * step = omega arith in
    record {
      many = search rules;
      len = ap length c.write_part.ensures ∙ length-scattered t values step (done * step) part out ∙ c.loop-part.invariant.len;
      done = omega (arith, left, c.loop-part.invariant.done);
      inside = behind_run (λ p. p + item_size t ≤ length c.args.out.now) part rest c.loop-part.walk c.in-Some.ensures.split c.loop-part.invariant.inside;
      rest = (λ i. scattered t values step (next i) rest (c.write_part.ensures i)) ∙ sym (scattered_parts t values step (done * step) part rest out)
          ∙ ap (λ ps. scattered t values step (done * step) ps out) (sym c.in-Some.ensures.split) ∙ c.loop-part.invariant.rest;
    }
