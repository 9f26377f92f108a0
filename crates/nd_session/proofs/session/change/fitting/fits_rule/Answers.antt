use Rattle.std.proofs.Common.{option_map, ap, sym}
use Rattle.nd_session.specs.Inputs.Values.{rule_of}
use Rattle.nd_session.specs.Session.Change.{FitsAt}
use Rattle.nd_session.proofs.session.Fitting.{fits_some, for_some}
use Rattle.nd_session.proofs.session.change.fitting.fits_rule.Goals as goal

pub returns-in-Some-Some : goal.returns-in-Some-Some
returns-in-Some-Some c =
    for_some (FitsAt (option_map rule_of c.args.now)) c.is_same.result (option_map rule_of c.args.found) _ (ap (option_map rule_of) c.in-Some-Some.is-1)
    (fits_some (option_map rule_of c.args.now) _ _ c.is_same.result (ap (option_map rule_of) c.in-Some-Some.is-0)
    (λ yes. sym (c.is_same.ensures.0 yes), λ same. c.is_same.ensures.1 (sym same)))
