use Rattle.std.proofs.Common.{ℕ, ◌+◌, List, [], ◌∷◌, ◌++◌, get_or, sym, ap, ◌∙◌}
use Rattle.nd_reduce.proofs.axes.Emptied.{tail_is}
use Rattle.nd_reduce.proofs.axes.Moved.{to_end_is}
use Rattle.nd_reduce.proofs.axes.axis.lengths_to_end.Goals as goal

pub returns : goal.returns
returns c =
    let xs : List ℕ = c.args.lengths.now in let a = c.args.axis in
    c.in_ok-push.ensures.ok ∙ ap (λ l. l ++ get_or xs a 0 ∷ []) (c.in_ok-extend_from_slice.ensures.ok ∙ (λ i. c.in_ok-moved.ensures.ok i ++ tail_is (a + 1) xs i)) ∙ sym (to_end_is a xs 0 c.requires)
