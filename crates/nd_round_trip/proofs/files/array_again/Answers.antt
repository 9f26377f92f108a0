use Rattle.nd_round_trip.proofs.files.Arrays as arrays
use Rattle.nd_round_trip.proofs.files.array_again.Goals as goal

pub returns : goal.returns
returns c = arrays.array_again c.file_again.ensures
