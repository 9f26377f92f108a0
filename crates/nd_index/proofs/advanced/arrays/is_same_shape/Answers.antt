use Rattle.std.proofs.Common.{sym, ◌∙◌}
use Rattle.nd_view.proofs.SameViews.{numbers}
use Rattle.nd_index.proofs.advanced.arrays.is_same_shape.Goals as goal

pub returns : goal.returns
returns c =
    let same = numbers c.args.shape.now c.args.many.now in
    (λ yes. same.0 (sym c.eq.ensures ∙ yes), λ e. c.eq.ensures ∙ same.1 e)
