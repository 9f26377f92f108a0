-- What the text of a cell means. A text is a cell with these statements, or it has one fault: `is_cell` and `has_fault` say
-- which by the grammar, and `reading` computes it.
use Rattle.std.specs.Prelude.{◌≡◌, ℕ, ◌-◌, ◌==◌, if◌then◌else◌, List, length, slice_get, Option, Some, None, Result, Ok, Err, ◌⊎◌}
use Rattle.nd_model.specs.Grammar.Grammar.{Stop}
use Rattle.nd_model.specs.Grammar.Faults.{Means, HasFault}
use Rattle.nd_model.specs.Grammar.Predict.{read_all}
use Rattle.nd_model.specs.Grammar.Token.{Word, Keyword, Quoted, Semicolon, At, ColonEqual, Token}
use Rattle.nd_model.specs.Cells.Fault.{ParseKind, Unexpected, TooDeep, TooManyStatements, UnknownCall, LeftOut, ParseFault}
use Rattle.nd_model.specs.Grammar.Syntax.{Line, Parsed}
use Rattle.nd_model.specs.Grammar.Lexing.{tokens}
use Rattle.nd_model.specs.Grammar.Kinds.{kind}
use Rattle.nd_model.specs.Grammar.Cells.{too_deep, left_out, too_many, unknown_call}
use Rattle.nd_model.specs.Grammar.Cells as cells
use Rattle.nd_model.specs.Grammar.Factored as factored

-- the fault of a token that is refused for no reason of its place
abbrev pub fault_of_word : Word → ParseKind
fault_of_word (Keyword k) = LeftOut
fault_of_word (Quoted bs) = LeftOut
fault_of_word Semicolon = LeftOut
fault_of_word At = LeftOut
fault_of_word ColonEqual = LeftOut
fault_of_word _ = Unexpected

abbrev pub fault_kind : ℕ → Word → ParseKind
fault_kind why w =
    if why == too_deep then TooDeep
    else (if why == left_out then LeftOut
    else (if why == too_many then TooManyStatements
    else (if why == unknown_call then UnknownCall
    else fault_of_word w)))

-- the end of a statement is a token, so that there is always one to point at
abbrev pub fault_at_token : ℕ → Option Token → ParseFault
fault_at_token why None = record { kind = Unexpected; line = 1; column = 1 }
fault_at_token why (Some t) = record { kind = fault_kind why t.word; line = t.line; column = t.column }

abbrev pub fault_at : List Token → Stop → ParseFault
fault_at ts s = fault_at_token s.why (slice_get ts (length ts - s.left))

-- ---- by the grammar

-- the text is a cell of these statements
abbrev pub IsCell : List ℕ → List Line → Type 0
IsCell text ls = (ts : List Token) × (tokens text ≡ Ok ts) × Means kind cells.cell ts ls

-- The text has this fault: a place that is no token, or else the token behind the longest front of a cell.
abbrev pub HasCellFault : List ℕ → ParseFault → Type 0
HasCellFault text f =
    (tokens text ≡ Err f) ⊎ ((ts : List Token) × (s : Stop) × (tokens text ≡ Ok ts) × HasFault kind cells.cell ts s × (f ≡ fault_at ts s))

-- ---- by reading

abbrev pub parsed : List Token → Result (List Line) Stop → Parsed
parsed ts (Ok ls) = Ok ls
parsed ts (Err s) = Err (fault_at ts s)

abbrev pub reading_of : Result (List Token) ParseFault → Parsed
reading_of (Ok ts) = parsed ts (read_all kind factored.cell ts)
reading_of (Err f) = Err f

-- WHAT A TEXT MEANS
unfoldable pub reading : List ℕ → Parsed
reading text = reading_of (tokens text)
