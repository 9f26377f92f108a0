use Rattle.std.proofs.Common.{◌≡◌, length, ◌∙◌, arith}
use Rattle.nd_model.specs.Arrays.Tuple.{elements_of, number}
use Rattle.nd_view.proofs.Fields.{count_of}
use Rattle.nd_view.proofs.strided.View.next.Goals as goal

pub returns-clause-more : goal.returns-clause-more
returns-clause-more c =
    let same : number c.as_slice.result.now c.as_mut_slice.result.now ≡ number c.args.self.now.shape c.args.index.now.items
    = λ i. number ((c.as_slice.ensures ∙ (λ j. (c.self.view_is j).shape)) i) (c.as_mut_slice.ensures.value i) in
    let all : elements_of c.as_slice.result.now ≡ length c.args.self.now.places
    = (λ i. elements_of (c.as_slice.ensures i)) ∙ count_of c.self.inside c.self.invariant c.args.self.now c.self.view_is in
    (λ yes. omega (arith, c.advance.ensures.more.0 yes, same, all), λ more. c.advance.ensures.more.1 (omega (arith, same, all)))
