use Rattle.std.proofs.Common.{subst}
use Rattle.nd_model.specs.Cells.Sound.{IsSound}
use Rattle.nd_session.specs.Session.Fields.{state_of}
use Rattle.nd_session.specs.Session.Live.{live}
use Rattle.nd_session.specs.Session.State.{State}
use Rattle.nd_session.proofs.session.Intact.{is_sound}
use Rattle.nd_session.proofs.session.session.Session.soundness.Goals as goal

pub returns : goal.returns
returns c = subst (λ (s : State). IsSound (live s)) c.self.view_is (is_sound (state_of c.self.inside) c.self.invariant)
