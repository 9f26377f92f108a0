use Rattle.std.proofs.Common.{◌+◌, ◌≤◌, ◌^◌, length, drop, ap, ◌∙◌, arith}
use Rattle.std.proofs.lemmas.List.Elements.{All-from_get_or}
use Rattle.nd_model.specs.Arrays.Tuple.{elements_of}
use Rattle.nd_model.specs.Arrays.View.{item_size}
use Rattle.nd_view.specs.Strides.{IsEven}
use Rattle.nd_view.proofs.Fields.{ends}
use Rattle.nd_view.proofs.ViewLoops.{inner_is}
use Rattle.nd_view.proofs.strided.View.runs.Goals as goal

pub new-requires : goal.new-requires
new-requires c =
    let even : IsEven (drop c.widest_loop.result.outer c.self.inside.shape.items) (drop c.widest_loop.result.outer c.self.inside.strides.items) c.widest_loop.result.step
    = rw (← c.as_slice.ensures, ← c.as_slice-2.ensures) c.widest_loop.ensures.even in
    inner_is c.self.inside c.self.invariant c.args.self.now c.self.view_is c.widest_loop.result
    (omega (arith, c.widest_loop.ensures.outer, ap length c.as_slice.ensures))
    (c.widest_loop.ensures.count ∙ ap (λ s. elements_of (drop c.widest_loop.result.outer s)) c.as_slice.ensures)
    even c.widest_loop.ensures.alone

pub returns-clause-ends : goal.returns-clause-ends
returns-clause-ends c =
    All-from_get_or (λ p. p + item_size c.args.self.now.element ≤ 2 ^ 64) c.args.self.now.places 0 (ends c.self.inside c.self.invariant c.args.self.now c.self.view_is)
