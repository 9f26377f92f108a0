use Rattle.std.proofs.Common.{◌*◌, ◌++◌, ap, sym, ◌∙◌, arith}
use Rattle.std.proofs.lemmas.List.{append-nil, drop_all}
use Rattle.nd_view.proofs.Walked.{walked, walked-strides}
use Rattle.nd_view.proofs.shapes.steps.Goals as goal

pub returns : goal.returns
returns c =
    sym (append-nil c.loop-length.strides.items)
    ∙ ap (λ r. c.loop-length.strides.items ++ walked c.loop-length.step r) (sym (drop_all c.loop-length.length-index c.args.shape.now (omega arith)))
    ∙ c.loop-length.invariant
    ∙ ap (λ n. walked (n * c.args.size) c.args.shape.now) c.element_count.ensures
    ∙ walked-strides c.args.size c.args.shape.now
