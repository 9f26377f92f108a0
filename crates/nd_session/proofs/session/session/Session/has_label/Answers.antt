use Rattle.std.proofs.Common.{subst}
use Rattle.std.specs.Prelude.{◌↔◌, IsFalse}
use Rattle.nd_model.specs.Cells.Running as running
use Rattle.nd_model.specs.Cells.Footprint.{HasNone}
use Rattle.nd_session.specs.Session.Live.{live}
use Rattle.nd_session.specs.Session.State.{State}
use Rattle.nd_session.proofs.session.session.Session.has_label.Goals as goal

pub returns : goal.returns
unfolding live
returns c = subst (λ (s : State). IsFalse c.is_label_held.result ↔ HasNone c.args.label (running.session_of (live s))) c.self.view_is (
  λ f. record { none = c.is_label_held.ensures.0 f },
  λ h. c.is_label_held.ensures.1 h.none,
)
