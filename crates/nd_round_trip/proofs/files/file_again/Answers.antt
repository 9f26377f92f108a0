use Rattle.nd_round_trip.proofs.files.Again as again
use Rattle.nd_round_trip.proofs.files.file_again.Goals as goal

pub returns : goal.returns
returns c = again.file_again c.rest_is_ignored.ensures
