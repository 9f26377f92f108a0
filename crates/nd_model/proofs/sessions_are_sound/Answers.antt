use Rattle.nd_model.proofs.Sessions.{sessions_are_sound}
use Rattle.nd_model.proofs.sessions_are_sound.Goals as goal

pub returns : goal.returns
returns c = sessions_are_sound
