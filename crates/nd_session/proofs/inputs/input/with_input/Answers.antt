use Rattle.std.proofs.Common.{◌∙◌, ap, ap₂}
use Rattle.nd_model.specs.Cells.Session.{bind}
use Rattle.nd_input.specs.Sources.{source_of}
use Rattle.nd_session.specs.Inputs.Values.{given_of}
use Rattle.nd_session.proofs.inputs.Inputs.{given-insert, cloned_inputs}
use Rattle.nd_session.proofs.inputs.input.with_input.Goals as goal

pub returns : goal.returns
returns c =
    ap given_of c.in_ok-insert.ensures.entries
    ∙ given-insert c.in_ok-key.key c.in_ok-shared.shared c.in_ok-all.all.entries
    ∙ ap (bind _ _) (cloned_inputs _ _ c.in_ok-all.ensures.cases)
    ∙ ap₂ (λ n s. bind n s (given_of c.args.inputs.now.entries)) c.in_ok-key.ensures.ok (ap source_of c.in_ok-shared.ensures.ok)
