-- Where a pass over a text stands, and what it meets.
use Rattle.std.specs.Prelude.{ℕ, ◌+◌, ◌≤◌}
use Rattle.std.specs.Option.{option_map}
use Rattle.nd_model.specs.Grammar.Lexing as model
use Rattle.nd_token.specs.Tokens.{word_of}
use Rattle.nd_token.specs.declared.scan.Place.{Place}
use Rattle.nd_token.specs.declared.scan.State.{State}
use Rattle.nd_token.specs.declared.scan.Piece.{Piece}
use Rattle.nd_token.specs.declared.scan.Piece.TheVariants as pieces

abbrev pub place_of : Place → model.Place
place_of p = record { line = p.line; column = p.column }

abbrev pub state_of : State → model.State
state_of s = record { here = place_of s.here; depth = s.depth; behind = option_map place_of s.behind }

abbrev pub piece_of : Piece → model.Piece
piece_of (pieces.Blank n) = model.Blank n
piece_of pieces.Newline = model.Newline
piece_of (pieces.Lexeme w n) = model.Lexeme (word_of w) n

-- how many bytes a piece has
abbrev pub size_of : model.Piece → ℕ
size_of (model.Blank n) = n
size_of model.Newline = 1
size_of (model.Lexeme w n) = n

-- after this many bytes no number of the state is larger than they allow
pub record IsWithin (count : ℕ) (s : model.State) : Type 0 where
  pub line : s.here.line ≤ count + 1
  pub column : s.here.column ≤ count + 1
  pub depth : s.depth ≤ count
