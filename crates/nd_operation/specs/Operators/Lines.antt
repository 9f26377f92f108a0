-- Texts that are no longer than a cell's may be.
use Rattle.std.specs.Prelude.{ℕ, nat_le, if◌then◌else◌, List, ◌++◌, length, Result, Ok, Err}
use Rattle.nd_model.specs.Cells.Fault.{Fault, Stmt, TextTooLong}
use Rattle.nd_model.specs.Making.Operand.{Operand}
use Rattle.nd_model.specs.Text.Printing.{text_of}
use Rattle.nd_model.specs.Cells.Cell.{most_text}

-- a text over the limit is refused
abbrev pub limit_line : List ℕ → Result (List ℕ) Fault
limit_line t = if nat_le (length t) most_text then Ok t else Err (Stmt TextTooLong)

-- a line with an operand's text behind it
abbrev pub line_with : List ℕ → Operand → List ℕ
line_with line o = line ++ text_of o
