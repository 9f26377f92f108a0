use Rattle.std.proofs.Common.{◌∙◌, ap, Some}
use Rattle.nd_input.specs.Sources.{source_of}
use Rattle.nd_session.proofs.session.reads.share_input.Goals as goal

pub returns-in_ok-clone-in-Some : goal.returns-in_ok-clone-in-Some
returns-in_ok-clone-in-Some c = ap (λ x. Some (source_of x)) c.in_ok-clone-in-Some.ensures.cases ∙ c.in-Some.ensures
