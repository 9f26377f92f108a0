-- The tokens of a cell's text.
use Rattle.std.specs.Prelude.{ℕ, Bool, List}

pub data Word : Type 0 where
  -- a name, by its bytes, that is neither reserved nor a keyword
  Name : List ℕ → Word
  Integer : ℕ → Word
  -- a text in quotes, by the bytes between them
  Quoted : List ℕ → Word
  -- one of Python's keywords, by its bytes
  Keyword : List ℕ → Word
  -- the reserved names
  Np : Word
  Print : Word
  Abs : Word
  Buffer : Word
  -- symbols
  Plus : Word
  Minus : Word
  Star : Word
  DoubleStar : Word
  DoubleSlash : Word
  Slash : Word
  Percent : Word
  ShiftLeft : Word
  ShiftRight : Word
  Ampersand : Word
  Bar : Word
  Caret : Word
  Tilde : Word
  Less : Word
  LessEqual : Word
  Greater : Word
  GreaterEqual : Word
  DoubleEqual : Word
  NotEqual : Word
  Equal : Word
  PlusEqual : Word
  MinusEqual : Word
  StarEqual : Word
  DoubleStarEqual : Word
  DoubleSlashEqual : Word
  SlashEqual : Word
  PercentEqual : Word
  ShiftLeftEqual : Word
  ShiftRightEqual : Word
  AmpersandEqual : Word
  BarEqual : Word
  CaretEqual : Word
  OpenParen : Word
  CloseParen : Word
  OpenBracket : Word
  CloseBracket : Word
  Comma : Word
  Colon : Word
  Dot : Word
  Ellipsis : Word
  Semicolon : Word
  At : Word
  ColonEqual : Word
  -- the end of a statement
  End : Word

-- A token with its place: line and column in bytes, both from 1. The end of a statement stands just behind its last token.
pub record Token : Type 0 where
  pub word : Word
  pub line : ℕ
  pub column : ℕ
  -- whether it is the first of its statement
  pub starts : Bool
