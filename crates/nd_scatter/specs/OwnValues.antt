-- Arrays whose bytes are those of the values that they are assigned as.
use Rattle.std.specs.Prelude.{◌≡◌, ◌≢◌, ◌^◌, ◌<◌, ◌≤◌, length}
use Rattle.nd_model.specs.Arrays.Element.{Boolean, Element, size_of}
use Rattle.nd_model.specs.Arrays.View.{Geo, One}
use Rattle.nd_view.specs.SideBySide.{side_by_side}

-- numbers of the target's type, which are no Booleans, in the target's shape, and side by side from the first byte on
pub record AreOwnValues (g v : Geo) : Type 0 where
  pub elem : Element
  pub target : g.element ≡ One elem
  pub source : v.element ≡ One elem
  pub number : elem.kind ≢ Boolean
  pub shape : v.shape ≡ g.shape
  pub places : v.places ≡ side_by_side (size_of elem.kind) 0 (length v.places)
  pub some : 0 < length v.places
  pub few : length v.places ≤ 2 ^ 24
