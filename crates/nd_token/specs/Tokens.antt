-- Tokens of the code as those that a text has.
use Rattle.std.specs.Prelude.{ℕ, List, map, Result, Ok, Err, Vec}
use Rattle.std.specs.Borrow.{Bor}
use Rattle.nd_token.specs.declared.token.Word.{Word}
use Rattle.nd_token.specs.declared.token.Word.TheVariants as words
use Rattle.std.specs.declared.alloc.Global.{Global}
use Rattle.nd_token.specs.declared.token.Token.{Token}
use Rattle.nd_token.specs.declared.token.BadToken.{BadToken}
use Rattle.nd_model.specs.Cells.Fault.{ParseFault}
use Rattle.nd_model.specs.Cells.Fault as fault
use Rattle.nd_model.specs.Grammar.Token as model

abbrev pub word_of : Word → model.Word
word_of (words.Name text) = model.Name text.now
word_of (words.Integer n) = model.Integer n
word_of (words.Quoted text) = model.Quoted text.now
word_of (words.Keyword text) = model.Keyword text.now
word_of words.Np = model.Np
word_of words.Print = model.Print
word_of words.Abs = model.Abs
word_of words.Buffer = model.Buffer
word_of words.Plus = model.Plus
word_of words.Minus = model.Minus
word_of words.Star = model.Star
word_of words.DoubleStar = model.DoubleStar
word_of words.DoubleSlash = model.DoubleSlash
word_of words.Slash = model.Slash
word_of words.Percent = model.Percent
word_of words.ShiftLeft = model.ShiftLeft
word_of words.ShiftRight = model.ShiftRight
word_of words.Ampersand = model.Ampersand
word_of words.Bar = model.Bar
word_of words.Caret = model.Caret
word_of words.Tilde = model.Tilde
word_of words.Less = model.Less
word_of words.LessEqual = model.LessEqual
word_of words.Greater = model.Greater
word_of words.GreaterEqual = model.GreaterEqual
word_of words.DoubleEqual = model.DoubleEqual
word_of words.NotEqual = model.NotEqual
word_of words.Equal = model.Equal
word_of words.PlusEqual = model.PlusEqual
word_of words.MinusEqual = model.MinusEqual
word_of words.StarEqual = model.StarEqual
word_of words.DoubleStarEqual = model.DoubleStarEqual
word_of words.DoubleSlashEqual = model.DoubleSlashEqual
word_of words.SlashEqual = model.SlashEqual
word_of words.PercentEqual = model.PercentEqual
word_of words.ShiftLeftEqual = model.ShiftLeftEqual
word_of words.ShiftRightEqual = model.ShiftRightEqual
word_of words.AmpersandEqual = model.AmpersandEqual
word_of words.BarEqual = model.BarEqual
word_of words.CaretEqual = model.CaretEqual
word_of words.OpenParen = model.OpenParen
word_of words.CloseParen = model.CloseParen
word_of words.OpenBracket = model.OpenBracket
word_of words.CloseBracket = model.CloseBracket
word_of words.Comma = model.Comma
word_of words.Colon = model.Colon
word_of words.Dot = model.Dot
word_of words.Ellipsis = model.Ellipsis
word_of words.Semicolon = model.Semicolon
word_of words.At = model.At
word_of words.ColonEqual = model.ColonEqual
word_of words.End = model.End

-- a word, and how many bytes it has
abbrev pub lexed : Word × ℕ → model.Word × ℕ
lexed w = (word_of w.0, w.1)

-- a symbol with its bytes
abbrev pub entry : Bor (List ℕ) × Word → List ℕ × model.Word
entry e = (e.0.now, word_of e.1)

abbrev pub token_of : Token → model.Token
token_of t = record { word = word_of t.word; line = t.line; column = t.column; starts = t.starts }

-- the tokens of a text, or its first place that is none
abbrev pub tokens_of : Result (Vec Token Global) BadToken → Result (List model.Token) ParseFault
tokens_of (Ok v) = Ok (map token_of v.items)
tokens_of (Err e) = Err (record { kind = fault.BadToken; line = e.line; column = e.column })
