use Rattle.std.proofs.Common.{◌∙◌, ap}
use Rattle.nd_model.specs.Cells.Session.{unbind}
use Rattle.nd_session.specs.Inputs.Values.{given_of}
use Rattle.nd_session.proofs.inputs.Inputs.{given-remove, cloned_inputs}
use Rattle.nd_session.proofs.inputs.input.without_input.Goals as goal

pub returns : goal.returns
returns c =
    ap given_of c.shift_remove.ensures.entries
    ∙ given-remove c.args.name.now c.in_ok-all.all.entries c.get_index_of.ensures.unique
    ∙ ap (unbind c.args.name.now) (cloned_inputs _ _ c.in_ok-all.ensures.cases)
