use Rattle.nd_npy.proofs.header.Meaning as meaning
use Rattle.nd_npy.proofs.header.literal.header_is_read.Goals as goal

pub returns : goal.returns
returns c = meaning.header_is_read
