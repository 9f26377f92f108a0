use Rattle.std.proofs.Common.{rules, ℤ, pos, ◌+◌, List, [], ◌∷◌, ◌++◌, get_or, FitsSigned, sym, ◌∙◌}
use Rattle.std.specs.Int.{w128}
use mir.Facts.{to_z-of_z}
use Rattle.nd_reduce.proofs.axes.Emptied.{tail_is}
use Rattle.nd_reduce.proofs.axes.Moved.{to_end_is}
use Rattle.nd_reduce.proofs.axes.axis.strides_to_end.Goals as goal

pub returns : goal.returns
returns c =
    let xs : List ℤ = c.args.strides.now in let a = c.args.axis in
    let fits : FitsSigned w128 (get_or xs a (pos 0)) = search rules in
    c.in_ok-push.ensures.ok ∙ (λ i. (c.in_ok-extend_from_slice.ensures.ok ∙ (λ j. c.in_ok-moved.ensures.ok j ++ tail_is (a + 1) xs j)) i ++ to_z-of_z fits i ∷ []) ∙ sym (to_end_is a xs (pos 0) c.requires)
