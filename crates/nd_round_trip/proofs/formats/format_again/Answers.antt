use Rattle.nd_round_trip.proofs.formats.Again as again
use Rattle.nd_round_trip.proofs.formats.format_again.Goals as goal

pub returns : goal.returns
returns c = again.format_again c.reading_is_exact.ensures
