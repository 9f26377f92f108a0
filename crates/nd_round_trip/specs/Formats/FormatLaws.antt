-- The law of written formats: a type is read back from its format string.
use Rattle.std.specs.Prelude.{◌≡◌, ℕ, Bool, true, ◌&&◌, List, [], ◌∷◌, Ok}
use Rattle.std.specs.Str.{is_utf8}
use Rattle.nd_model.specs.Arrays.Element.{Element, is_canonical}
use Rattle.nd_model.specs.Arrays.View.{Field, ElementType, One, Structure, item_size}
use Rattle.nd_model.specs.Arrays.Structure.{is_structure}
use Rattle.nd_model.specs.Formats.Format.{format_text}
use Rattle.nd_model.specs.Formats.FormatReading.{read_format}

-- a single byte has no order, and names are texts
abbrev pub are_fields : List Field → Bool
are_fields [] = true
are_fields (f ∷ fs) = is_canonical f.element.kind f.element.big && is_utf8 f.name && are_fields fs

-- what the elements of an array may be
abbrev pub is_type : ElementType → Bool
is_type (One e) = is_canonical e.kind e.big
is_type (Structure fields size) = are_fields fields && is_structure fields size

-- FORMAT AGAIN: the written form of a type is a format of it
abbrev pub FormatAgain : Type 0
FormatAgain = (t : ElementType) → is_type t ≡ true → read_format (format_text t) (item_size t) ≡ Ok t
