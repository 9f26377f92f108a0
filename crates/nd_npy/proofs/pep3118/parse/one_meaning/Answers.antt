use Rattle.nd_npy.proofs.pep3118.Meaning as meaning
use Rattle.nd_npy.proofs.pep3118.parse.one_meaning.Goals as goal

pub returns : goal.returns
returns c = meaning.one_meaning
