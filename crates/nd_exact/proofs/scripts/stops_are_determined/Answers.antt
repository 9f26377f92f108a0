use Rattle.nd_exact.proofs.Written.{stops_are_determined}
use Rattle.nd_exact.proofs.scripts.stops_are_determined.Goals as goal

pub returns : goal.returns
returns c = stops_are_determined
