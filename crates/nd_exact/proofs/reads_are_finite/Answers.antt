use Rattle.nd_exact.proofs.Listing.{reads_are_finite}
use Rattle.nd_exact.proofs.reads_are_finite.Goals as goal

pub returns : goal.returns
returns c = reads_are_finite
