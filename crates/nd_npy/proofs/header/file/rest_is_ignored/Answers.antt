use Rattle.nd_npy.proofs.header.Following as following
use Rattle.nd_npy.proofs.header.file.rest_is_ignored.Goals as goal

pub returns : goal.returns
returns c = following.rest_is_ignored
