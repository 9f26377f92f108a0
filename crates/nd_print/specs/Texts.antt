-- The text of a number outside arrays, and of an element of an array.
use Rattle.std.specs.Prelude.{ℕ, Bool, true, false, List, [], ◌∷◌, ◌++◌, map, drop}
use Rattle.std.specs.Fmt.{signed_decimal}
use Rattle.nd_model.specs.Text.StructureText.{in_parentheses}
use Rattle.nd_model.specs.Text.Text.{truth_text, number_text, aligned, joined}
use Rattle.nd_types.specs.declared.num.Num.{Num}
use Rattle.nd_types.specs.declared.num.Num.TheVariants.{Int, Bool as Truth, Scalar}
use Rattle.nd_types.specs.Kinds.{kind_of}
use Rattle.nd_print.specs.Columns.{plain_text}
use Rattle.nd_print.specs.declared.columns.Column.{Column}

abbrev pub num_text : Num → List ℕ
num_text (Int z) = signed_decimal z
num_text (Truth t) = truth_text t
num_text (Scalar k z) = number_text (kind_of k) z

-- the number of a column, as wide as the column
abbrev pub column_text : List ℕ → Column → List ℕ
column_text element c = aligned c.width (plain_text element c)

-- the numbers of an element of these bytes, with commas between them
abbrev pub columns_text : List Column → List ℕ → List ℕ
columns_text cs element = joined (44 ∷ 32 ∷ []) (map (column_text element) cs)

-- an element of these bytes
abbrev pub element_text : Bool → List Column → List ℕ → List ℕ
element_text true cs element = in_parentheses (map (column_text element) cs)
element_text false cs element = columns_text cs element

-- the element at a place of these bytes
abbrev pub text_at : Bool → List Column → List ℕ → ℕ → List ℕ
text_at structure cs bytes p = element_text structure cs (drop p bytes)

-- the elements of the last axis, in brackets
abbrev pub row_text : (ℕ → List ℕ) → List ℕ → List ℕ
row_text f places = 91 ∷ joined (32 ∷ []) (map f places) ++ 93 ∷ []
