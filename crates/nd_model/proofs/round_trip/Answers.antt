use Rattle.nd_model.proofs.Values.{round_trip}
use Rattle.nd_model.proofs.round_trip.Goals as goal

pub returns : goal.returns
returns c = round_trip
