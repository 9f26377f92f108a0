use Rattle.std.proofs.Common.{◌∙◌, sym}
use Rattle.nd_session.proofs.session.found.FoundBytes.meets.Goals as goal

pub returns : goal.returns
returns c = (
  λ h. let found = c.meets.ensures.0 h in (found.0, sym (c.offsets.ensures found.0) ∙ found.1, sym (c.offsets-2.ensures found.0) ∙ found.2),
  λ found. c.meets.ensures.1 (found.0, c.offsets.ensures found.0 ∙ found.1, c.offsets-2.ensures found.0 ∙ found.2),
)
