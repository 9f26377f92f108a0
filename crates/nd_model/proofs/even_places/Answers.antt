use Rattle.nd_model.proofs.EvenPlaces.{even_places}
use Rattle.nd_model.proofs.even_places.Goals as goal

pub returns : goal.returns
returns c = even_places
