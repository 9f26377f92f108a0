-- What a trace lists.
use Rattle.std.proofs.Common.{refl}
use Rattle.nd_session.specs.Session.Live.{live}
use Rattle.nd_session.specs.Session.State.{State}
use Rattle.nd_session.specs.Session.Listed.{IsListed}

pub listed : (s : State) → IsListed s
unfolding live
listed s = record {
  name = λ n. refl;
  input = λ n. refl;
  length = λ b. refl;
  byte = λ b p. refl;
  rule = refl;
  written = λ b p. refl;
  events = refl;
  label = refl;
}
