-- Places that an index with arrays chose.
use Rattle.std.specs.Prelude.{◌≡◌, ◌+◌, ◌^◌, ◌≤◌, length}
use Rattle.std.specs.List.{All}
use Rattle.nd_model.specs.Arrays.Strides.{IsInLimits}
use Rattle.nd_model.specs.Arrays.Tuple.{elements_of}
use Rattle.nd_model.specs.Arrays.View.{Geo, item_size}
use Rattle.nd_index.specs.declared.advanced.choosing.ChosenPlaces.{ChosenPlaces}

-- in the limits of arrays, one place for each element
pub record AreChosen (g : Geo) (p : ChosenPlaces) : Type 0 where
  pub limits : IsInLimits (item_size g.element) p.shape.items
  pub count : length p.places ≡ elements_of p.shape.items
  pub ends : All (λ q. q + item_size g.element ≤ 2 ^ 64) p.places
