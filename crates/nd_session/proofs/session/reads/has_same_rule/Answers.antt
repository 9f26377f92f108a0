use Rattle.std.proofs.Common.{◌≡◌, option_map, ap}
use Rattle.nd_model.specs.Cells.Running as running
use Rattle.nd_session.specs.Inputs.Values.{rule_of}
use Rattle.nd_session.proofs.session.Fitting.{for_some}
use Rattle.nd_session.proofs.session.reads.has_same_rule.Goals as goal

pub returns-in-Some : goal.returns-in-Some
returns-in-Some c =
    for_some (λ (x : running.Rule). x ≡ rule_of c.args.rule) c.is_same.result (option_map rule_of c.args.found) _ (ap (option_map rule_of) c.in-Some.is) c.is_same.ensures
