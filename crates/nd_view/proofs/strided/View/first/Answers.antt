use Rattle.std.proofs.Common.{◌≡◌, ◌<◌, length, replicate, ◌∙◌, ap, arith}
use Rattle.nd_model.specs.Arrays.Tuple.{elements_of}
use Rattle.nd_view.proofs.Fields.{elements_are}
use Rattle.nd_view.proofs.Steps.{zeros}
use Rattle.nd_view.proofs.strided.View.first.Goals as goal

pub returns : goal.returns
returns c =
    let same : c.in_ok-index.index.items ≡ replicate (length c.args.self.now.shape) 0
    = c.in_ok-index.ensures.items_if_clones_equal (λ y e. e) ∙ ap (λ n. replicate n 0) (c.len.ensures.value ∙ (λ i. length (c.self.view_is i).shape)) in
    let some : 0 < elements_of c.args.self.now.shape = omega (arith, elements_are c.self.inside c.self.invariant c.args.self.now c.self.view_is) in
    rw same (zeros c.args.self.now.shape some)
