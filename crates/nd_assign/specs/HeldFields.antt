-- Structures that hold their fields.
use Rattle.std.specs.Prelude.{◌+◌, ◌≤◌}
use Rattle.std.specs.List.{All}
use Rattle.nd_model.specs.Arrays.Element.{size_of}
use Rattle.nd_model.specs.Arrays.View.{Field, ElementType, One, Structure}

-- the fields of a structure lie inside its size
abbrev pub HoldsFields : ElementType → Type 0
HoldsFields (One e) = Unit {0}
HoldsFields (Structure fields size) = All (λ (f : Field). f.at + size_of f.element.kind ≤ size) fields
