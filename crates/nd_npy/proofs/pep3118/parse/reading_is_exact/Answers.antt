use Rattle.nd_npy.proofs.pep3118.Meaning as meaning
use Rattle.nd_npy.proofs.pep3118.parse.reading_is_exact.Goals as goal

pub returns : goal.returns
returns c = meaning.reading_is_exact
