-- The tokens of a cell's text, which is the list of its bytes: names and keywords as in Python 3.7, integers, texts in quotes,
-- symbols, and the ends of statements.
use Rattle.std.specs.Prelude.{◌≡◌, ℕ, zero, suc, ◌+◌, ◌-◌, ◌^◌, ◌≤◌, ◌==◌, Bool, true, false, ◌&&◌, ◌||◌, not, nat_le, nat_eq, bytes_eq, if◌then◌else◌, List, [], ◌∷◌, ◌++◌, take, drop, length, slice_index, codes, Option, Some, None, Result, Ok, Err, IfOk}
use Rattle.std.specs.Char.{is_ascii_alphabetic, is_ascii_digit}
use Rattle.std.specs.List.{list_any, prefix_len, starts_with}
use Rattle.std.specs.Option.{is_some, option_map}
use Rattle.std.specs.Str.Parse.{digits_value}
use Rattle.nd_model.specs.Grammar.Token.{Word, Name, Integer, Quoted, Keyword, Np, Print, Abs, Buffer, Plus, Minus, Star, DoubleStar, DoubleSlash, Slash, Percent, ShiftLeft, ShiftRight, Ampersand, Bar, Caret, Tilde, Less, LessEqual, Greater, GreaterEqual, DoubleEqual, NotEqual, Equal, PlusEqual, MinusEqual, StarEqual, DoubleStarEqual, DoubleSlashEqual, SlashEqual, PercentEqual, ShiftLeftEqual, ShiftRightEqual, AmpersandEqual, BarEqual, CaretEqual, OpenParen, CloseParen, OpenBracket, CloseBracket, Comma, Colon, Dot, Ellipsis, Semicolon, At, ColonEqual, End, Token}
use Rattle.nd_model.specs.Cells.Fault.{ParseFault, BadToken}

-- ---- names

abbrev pub begins_name : ℕ → Bool
begins_name b = is_ascii_alphabetic b || b == 95

abbrev pub is_name_byte : ℕ → Bool
is_name_byte b = begins_name b || is_ascii_digit b

-- the most bytes of a name
abbrev pub most_name : ℕ
most_name = 64

-- the keywords of Python 3.7
unfoldable pub keywords : List (List ℕ)
keywords =
    codes "False" ∷ codes "None" ∷ codes "True" ∷ codes "and" ∷ codes "as" ∷ codes "assert" ∷ codes "async" ∷ codes "await"
    ∷ codes "break" ∷ codes "class" ∷ codes "continue" ∷ codes "def" ∷ codes "del" ∷ codes "elif" ∷ codes "else"
    ∷ codes "except" ∷ codes "finally" ∷ codes "for" ∷ codes "from" ∷ codes "global" ∷ codes "if" ∷ codes "import"
    ∷ codes "in" ∷ codes "is" ∷ codes "lambda" ∷ codes "nonlocal" ∷ codes "not" ∷ codes "or" ∷ codes "pass" ∷ codes "raise"
    ∷ codes "return" ∷ codes "try" ∷ codes "while" ∷ codes "with" ∷ codes "yield" ∷ []

abbrev pub is_keyword : List ℕ → Bool
is_keyword name = list_any (λ k. bytes_eq k name) keywords

-- the word of a name's bytes
abbrev pub word_of_name : List ℕ → Word
word_of_name name =
    if is_keyword name then Keyword name
    else (if bytes_eq name (codes "np") then Np
    else (if bytes_eq name (codes "print") then Print
    else (if bytes_eq name (codes "abs") then Abs
    else (if bytes_eq name (codes "buffer") then Buffer
    else Name name))))

-- the name at the front, and how many bytes it has
abbrev pub name_at : List ℕ → Option (Word × ℕ)
name_at bs =
    let n = prefix_len is_name_byte bs in
    if nat_le n most_name then Some (word_of_name (take n bs), n) else None

-- ---- numbers

abbrev pub most_integer : ℕ
most_integer = 2 ^ 64 - 1

-- no number ends before this byte
abbrev pub joins_number : ℕ → Bool
joins_number b = is_name_byte b || b == 46

-- the digits are `0`, or the first one is another
abbrev pub is_plain : List ℕ → Bool
is_plain digits = length digits == 1 || not (slice_index digits 0 == 48)

-- the number of these digits, where they write an integer
abbrev pub integer_of : List ℕ → Option ℕ
integer_of digits = if is_plain digits && nat_le (digits_value 10 digits) most_integer then Some (digits_value 10 digits) else None

-- the number at the front, and how many bytes it has
abbrev pub number_at : List ℕ → Option (Word × ℕ)
number_at bs =
    let n = prefix_len is_ascii_digit bs in
    if joins_number (slice_index bs n) then None else option_map (λ v. (Integer v, n)) (integer_of (take n bs))

-- ---- texts in quotes

abbrev pub is_quote : ℕ → Bool
is_quote b = b == 34 || b == 39

-- the byte may stand between two of this quote: it is not the quote, a backslash or a newline
abbrev pub is_quotable : ℕ → ℕ → Bool
is_quotable quote b = not (b == quote) && not (b == 92) && not (b == 10)

-- the text in quotes at the front, and how many bytes it has with its quotes
abbrev pub quoted_at : List ℕ → Option (Word × ℕ)
quoted_at bs =
    let quote = slice_index bs 0 in
    let rest = drop 1 bs in
    let n = prefix_len (is_quotable quote) rest in
    if slice_index rest n == quote then Some (Quoted (take n rest), n + 2) else None

-- ---- symbols

-- the longer ones come first
unfoldable pub symbols : List (List ℕ × Word)
symbols =
    (codes "**=", DoubleStarEqual) ∷ (codes "//=", DoubleSlashEqual) ∷ (codes "<<=", ShiftLeftEqual)
    ∷ (codes ">>=", ShiftRightEqual) ∷ (codes "...", Ellipsis)
    ∷ (codes "**", DoubleStar) ∷ (codes "//", DoubleSlash) ∷ (codes "<<", ShiftLeft) ∷ (codes ">>", ShiftRight)
    ∷ (codes "<=", LessEqual) ∷ (codes ">=", GreaterEqual) ∷ (codes "==", DoubleEqual) ∷ (codes "!=", NotEqual)
    ∷ (codes "+=", PlusEqual) ∷ (codes "-=", MinusEqual) ∷ (codes "*=", StarEqual) ∷ (codes "/=", SlashEqual)
    ∷ (codes "%=", PercentEqual) ∷ (codes "&=", AmpersandEqual) ∷ (codes "|=", BarEqual) ∷ (codes "^=", CaretEqual)
    ∷ (codes ":=", ColonEqual)
    ∷ (codes "+", Plus) ∷ (codes "-", Minus) ∷ (codes "*", Star) ∷ (codes "/", Slash) ∷ (codes "%", Percent)
    ∷ (codes "&", Ampersand) ∷ (codes "|", Bar) ∷ (codes "^", Caret) ∷ (codes "~", Tilde) ∷ (codes "<", Less)
    ∷ (codes ">", Greater) ∷ (codes "=", Equal) ∷ (codes "(", OpenParen) ∷ (codes ")", CloseParen)
    ∷ (codes "[", OpenBracket) ∷ (codes "]", CloseBracket) ∷ (codes ",", Comma) ∷ (codes ":", Colon) ∷ (codes ".", Dot)
    ∷ (codes ";", Semicolon) ∷ (codes "@", At) ∷ []

-- the first of these symbols that stands at the front, and how many bytes it has
abbrev pub first_of : List (List ℕ × Word) → List ℕ → Option (Word × ℕ)
first_of [] bs = None
first_of (e ∷ es) bs = if starts_with nat_eq bs e.0 then Some (e.1, length e.0) else first_of es bs

abbrev pub symbol_at : List ℕ → Option (Word × ℕ)
symbol_at bs = first_of symbols bs

-- ---- what stands at the front of a text

-- the longest token that begins here, and how many bytes it has; none where no token begins
unfoldable pub word_at : List ℕ → Option (Word × ℕ)
word_at bs =
    let b = slice_index bs 0 in
    if begins_name b then name_at bs
    else (if is_ascii_digit b then number_at bs
    else (if is_quote b then quoted_at bs
    else symbol_at bs))

pub data Piece : Type 0 where
  -- this many bytes that separate tokens
  Blank : (count : ℕ) → Piece
  Newline : Piece
  -- a token of this many bytes
  Lexeme : Word → (count : ℕ) → Piece

abbrev pub lexeme : Option (Word × ℕ) → Option Piece
lexeme None = None
lexeme (Some w) = Some (Lexeme w.0 w.1)

abbrev pub is_blank : ℕ → Bool
is_blank b = b == 32 || b == 9

-- how many bytes a comment has: it goes on up to the line's end
abbrev pub comment_length : List ℕ → ℕ
comment_length bs = prefix_len (λ b. not (b == 10)) bs

-- A carriage return separates directly before a newline alone.
unfoldable pub piece_at : List ℕ → Option Piece
piece_at bs =
    let b = slice_index bs 0 in
    if b == 10 then Some Newline
    else (if is_blank b then Some (Blank 1)
    else (if b == 13 then (if slice_index bs 1 == 10 then Some (Blank 1) else None)
    else (if b == 35 then Some (Blank (comment_length bs))
    else lexeme (word_at bs))))

-- ---- places

-- line and column in bytes, both from 1
pub record Place : Type 0 where
  pub line : ℕ
  pub column : ℕ

-- where the reading stands
pub record State : Type 0 where
  -- the place of the next byte
  pub here : Place
  -- how many brackets are open
  pub depth : ℕ
  -- the place behind the last token of the statement; none before its first
  pub behind : Option Place

abbrev pub at_first : State
at_first = record { here = record { line = 1; column = 1 }; depth = 0; behind = None }

abbrev pub ahead : ℕ → Place → Place
ahead n p = record { line = p.line; column = p.column + n }

abbrev pub depth_after : Word → ℕ → ℕ
depth_after OpenParen depth = depth + 1
depth_after OpenBracket depth = depth + 1
depth_after CloseParen depth = depth - 1
depth_after CloseBracket depth = depth - 1
depth_after w depth = depth

abbrev pub after_word : Word → ℕ → State → State
after_word w n s = record { here = ahead n s.here; depth = depth_after w s.depth; behind = Some (ahead n s.here) }

abbrev pub after_blank : ℕ → State → State
after_blank n s = record s { here = ahead n s.here }

-- outside brackets a newline ends the statement
abbrev pub after_newline : State → State
after_newline s = record {
  here = record { line = s.here.line + 1; column = 1 };
  depth = s.depth;
  behind = if s.depth == 0 then None else s.behind;
}

-- the first word of a statement starts it
abbrev pub token_here : Word → State → Token
token_here w s = record { word = w; line = s.here.line; column = s.here.column; starts = not (is_some s.behind) }

-- the end of the statement, where one has begun
abbrev pub end_at : Option Place → List Token
end_at None = []
end_at (Some p) = record { word = End; line = p.line; column = p.column; starts = false } ∷ []

abbrev pub ended : State → List Token
ended s = end_at s.behind

abbrev pub ended_by_newline : State → List Token
ended_by_newline s = if s.depth == 0 then ended s else []

-- ---- the tokens of a text

-- the tokens, and then those that come behind them
abbrev pub followed : List Token → Result (List Token) ParseFault → Result (List Token) ParseFault
followed ts (Ok us) = Ok (ts ++ us)
followed ts (Err f) = Err f

-- What a piece gives. The tokens behind it are those behind that many bytes, in the state after it.
abbrev pub reads : Option Piece → State → (ℕ → State → Result (List Token) ParseFault) → Result (List Token) ParseFault
reads None s rest = Err (record { kind = BadToken; line = s.here.line; column = s.here.column })
reads (Some (Blank n)) s rest = rest n (after_blank n s)
reads (Some Newline) s rest = followed (ended_by_newline s) (rest 1 (after_newline s))
reads (Some (Lexeme w n)) s rest = followed (token_here w s ∷ []) (rest n (after_word w n s))

-- the tokens from here on, after the next few bytes, which are read already
unfoldable pub tokens_from : ℕ → List ℕ → State → Result (List Token) ParseFault
tokens_from passed [] s = Ok (ended s)
tokens_from (suc passed) (b ∷ bs) s = tokens_from passed bs s
tokens_from zero (b ∷ bs) s = reads (piece_at (b ∷ bs)) s (λ n. tokens_from (n - 1) bs)

-- THE TOKENS OF A TEXT, or the first place that is no token
unfoldable pub tokens : List ℕ → Result (List Token) ParseFault
tokens text = tokens_from 0 text at_first

-- ---- laws

abbrev pub is_end : Word → Bool
is_end End = true
is_end w = false

-- how many tokens are more than the end of a statement
abbrev pub words_in : List Token → ℕ
words_in [] = 0
words_in (t ∷ ts) = if is_end t.word then words_in ts else suc (words_in ts)

-- a text has at most as many words as bytes
abbrev pub FewWords : Type 0
FewWords = (text : List ℕ) → IfOk (tokens text) (λ ts. words_in ts ≤ length text)

-- The tokens are whole statements, each with its end: `begins` says whether one begins here, and only the first token of a
-- statement starts it.
abbrev pub AreStatements : (begins : Bool) → List Token → Type 0
AreStatements begins [] = begins ≡ true
AreStatements begins (t ∷ ts) = (t.starts ≡ begins) × AreStatements (is_end t.word) ts

-- the tokens of a text are whole statements
abbrev pub WholeStatements : Type 0
WholeStatements = (text : List ℕ) → IfOk (tokens text) (AreStatements true)
