-- A target that is all of a block.
use Rattle.std.specs.Prelude.{◌≡◌, ℕ, ◌*◌, length}
use Rattle.nd_model.specs.Arrays.Element.{Element, size_of}
use Rattle.nd_model.specs.Arrays.View.{Geo, One}
use Rattle.nd_view.specs.SideBySide.{side_by_side}

-- the elements are numbers of this type, contiguous in C order, and their bytes are those of a block of `len` bytes
pub record Covers (e : Element) (len : ℕ) (g : Geo) : Type 0 where
  pub element : g.element ≡ One e
  pub places : g.places ≡ side_by_side (size_of e.kind) 0 (length g.places)
  pub bytes : length g.places * size_of e.kind ≡ len
