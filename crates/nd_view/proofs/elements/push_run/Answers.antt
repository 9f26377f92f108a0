use Rattle.std.proofs.Common.{◌+◌, ◌++◌, ◌∷◌, [], ap, sym, ◌∙◌, append_assoc}
use Rattle.nd_model.specs.Arrays.Tuple.{count_up}
use Rattle.nd_view.proofs.Tuples.{count_up_more}
use Rattle.nd_view.proofs.elements.push_run.Goals as goal

pub loop-at-preserved : goal.loop-at-preserved
loop-at-preserved c =
    c.in_ok-push.ensures.items ∙ ap (λ xs. xs ++ (c.args.first + c.loop-at.at) ∷ []) c.loop-at.invariant
    ∙ append_assoc c.args.places.now.items (count_up c.args.first c.loop-at.at) ((c.args.first + c.loop-at.at) ∷ [])
    ∙ ap (λ xs. c.args.places.now.items ++ xs) (sym (count_up_more c.args.first c.loop-at.at))
