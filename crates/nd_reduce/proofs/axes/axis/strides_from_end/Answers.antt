use Rattle.std.proofs.Common.{rules, ℤ, pos, ◌-◌, List, ◌∷◌, ◌++◌, length, get_or, take, drop, FitsSigned, sym, ◌∙◌}
use Rattle.std.specs.Int.{w128}
use mir.Facts.{to_z-of_z}
use Rattle.nd_reduce.proofs.axes.Unmoved.{put_last_is}
use Rattle.nd_reduce.proofs.axes.axis.strides_from_end.Goals as goal

pub returns : goal.returns
returns c =
    let xs : List ℤ = c.args.strides.now in let a = c.args.axis in
    let fits : FitsSigned w128 (get_or xs (length xs - 1) (pos 0)) = search rules in
    c.in_ok-insert.ensures.ok ∙ (λ i. take a (c.in_ok-moved.ensures.ok i) ++ to_z-of_z fits i ∷ drop a (c.in_ok-moved.ensures.ok i)) ∙ sym (put_last_is a xs (pos 0) c.requires)
