-- The text of operands.
use Rattle.std.specs.Prelude.{ℕ, List, [], ◌∷◌, ◌++◌, map, Result, Ok}
use Rattle.std.specs.Fmt.{signed_decimal}
use Rattle.nd_model.specs.Cells.Fault.{Fault}
use Rattle.nd_model.specs.Making.Operand.{Int, Truth, Scalar, Operand, Plain, Elements, Deed, PrintsText}
use Rattle.nd_model.specs.Text.Text.{truth_text, number_text, joined}
use Rattle.nd_model.specs.Text.StructureText.{elements_text}

abbrev pub text_of : Operand → List ℕ
text_of (Plain (Int z)) = signed_decimal z
text_of (Plain (Truth t)) = truth_text t
text_of (Plain (Scalar k z)) = number_text k z
text_of (Elements row g cs) = elements_text g.element g.shape cs

-- the texts of all, with a space between two of them, and a newline
abbrev pub printed_line : List Operand → List ℕ
printed_line os = joined (32 ∷ []) (map text_of os) ++ 10 ∷ []

abbrev pub print_deed : List Operand → Result Deed Fault
print_deed os = Ok (PrintsText (printed_line os))
