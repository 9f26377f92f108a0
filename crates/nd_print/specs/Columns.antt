-- Columns: the numbers that each element of an array has, and how wide each of them is shown.
use Rattle.std.specs.Prelude.{ℕ, max, Bool, true, false, if◌then◌else◌, List, [], ◌∷◌, map, length, drop}
use Rattle.nd_model.specs.Arrays.Element.{Kind, Element}
use Rattle.nd_model.specs.Arrays.Content.{number_at}
use Rattle.nd_model.specs.Text.Text as text
use Rattle.nd_model.specs.Text.Text.{number_text}
use Rattle.nd_model.specs.Arrays.View.{Field, ElementType, One, Structure}
use Rattle.nd_print.specs.declared.columns.Column.{Column}

-- numbers are padded in arrays that have axes
abbrev pub least_width : Bool → Kind → ℕ
least_width padded k = if padded then text.least_width k else 0

abbrev pub least_column : Bool → ℕ → Element → Column
least_column padded at e = record { at = at; elem = e; width = least_width padded e.kind }

abbrev pub least_columns : Bool → List Field → List Column
least_columns padded fields = map (λ (f : Field). least_column padded f.at f.element) fields

-- the fields of an element: a number is one
abbrev pub fields_in : ElementType → List Field
fields_in (One e) = record { name = []; at = 0; element = e } ∷ []
fields_in (Structure fields size) = fields

-- the text of the column's number of an element of these bytes
abbrev pub plain_text : List ℕ → Column → List ℕ
plain_text element c = number_text c.elem.kind (number_at c.elem element c.at)

-- the column, as wide as that text at least
abbrev pub wider_column : List ℕ → Column → Column
wider_column element c = record { at = c.at; elem = c.elem; width = max c.width (length (plain_text element c)) }

-- the columns, as wide as the texts of the elements at these places at least
abbrev pub wider_columns : List ℕ → List ℕ → List Column → List Column
wider_columns bytes [] cs = cs
wider_columns bytes (p ∷ ps) cs = wider_columns bytes ps (map (wider_column (drop p bytes)) cs)

abbrev pub is_structure : ElementType → Bool
is_structure (One e) = false
is_structure (Structure fields size) = true

abbrev pub has_axes : List ℕ → Bool
has_axes [] = false
has_axes (n ∷ shape) = true
