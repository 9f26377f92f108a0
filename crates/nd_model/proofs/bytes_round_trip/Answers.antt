use Rattle.nd_model.proofs.Residues.{bytes_round_trip}
use Rattle.nd_model.proofs.bytes_round_trip.Goals as goal

pub returns : goal.returns
returns c = bytes_round_trip
