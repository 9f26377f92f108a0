-- What is chosen as the definitions have it.
use Rattle.nd_model.specs.Arrays.View.{Geo}
use Rattle.nd_index.specs.declared.advanced.choosing.ChosenPlaces.{ChosenPlaces}

-- the elements of a view at these places
abbrev pub view_at : Geo → ChosenPlaces → Geo
view_at g p = record g { shape = p.shape.items; places = p.places }
