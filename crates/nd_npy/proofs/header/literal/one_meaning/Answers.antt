use Rattle.nd_npy.proofs.header.Meaning as meaning
use Rattle.nd_npy.proofs.header.literal.one_meaning.Goals as goal

pub returns : goal.returns
returns c = meaning.one_meaning
