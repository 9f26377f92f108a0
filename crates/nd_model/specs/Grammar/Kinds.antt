-- The kinds of tokens, of which a set is a number by its bits. The kind of a name depends on the token after it.
use Rattle.std.specs.Prelude.{ℕ, zero, suc, Bool, true, false, ◌+◌, ◌-◌, ◌^◌, ◌==◌, ◌&&◌, ◌||◌, not, bytes_eq, codes, if◌then◌else◌, List, [], ◌∷◌}
use Rattle.nd_model.specs.Grammar.Token.{Word, Name, Integer, Keyword, Np, Print, Abs, Buffer, Plus, Minus, Star, DoubleStar, DoubleSlash, Slash, Percent, ShiftLeft, ShiftRight, Ampersand, Bar, Caret, Tilde, Less, LessEqual, Greater, GreaterEqual, DoubleEqual, NotEqual, Equal, PlusEqual, MinusEqual, StarEqual, DoubleStarEqual, DoubleSlashEqual, SlashEqual, PercentEqual, ShiftLeftEqual, ShiftRightEqual, AmpersandEqual, BarEqual, CaretEqual, OpenParen, CloseParen, OpenBracket, CloseBracket, Comma, Colon, Dot, Ellipsis, Quoted, End, Token}

-- ---- groups of words

-- the kind of a symbol; the tokens that no rule has are 126
abbrev pub kind_of_symbol : Word → ℕ
kind_of_symbol (Integer n) = 0
kind_of_symbol Minus = 2
kind_of_symbol Plus = 3
kind_of_symbol Tilde = 4
kind_of_symbol DoubleStar = 5
kind_of_symbol Star = 6
kind_of_symbol DoubleSlash = 6
kind_of_symbol Slash = 6
kind_of_symbol Percent = 6
kind_of_symbol ShiftLeft = 7
kind_of_symbol ShiftRight = 7
kind_of_symbol Ampersand = 8
kind_of_symbol Caret = 9
kind_of_symbol Bar = 10
kind_of_symbol Less = 11
kind_of_symbol LessEqual = 11
kind_of_symbol Greater = 11
kind_of_symbol GreaterEqual = 11
kind_of_symbol DoubleEqual = 11
kind_of_symbol NotEqual = 11
kind_of_symbol OpenParen = 12
kind_of_symbol CloseParen = 13
kind_of_symbol OpenBracket = 14
kind_of_symbol CloseBracket = 15
kind_of_symbol Comma = 16
kind_of_symbol Equal = 17
kind_of_symbol PlusEqual = 18
kind_of_symbol MinusEqual = 18
kind_of_symbol StarEqual = 18
kind_of_symbol DoubleStarEqual = 18
kind_of_symbol DoubleSlashEqual = 18
kind_of_symbol SlashEqual = 18
kind_of_symbol PercentEqual = 18
kind_of_symbol ShiftLeftEqual = 18
kind_of_symbol ShiftRightEqual = 18
kind_of_symbol AmpersandEqual = 18
kind_of_symbol BarEqual = 18
kind_of_symbol CaretEqual = 18
kind_of_symbol Dot = 19
kind_of_symbol Np = 20
kind_of_symbol Print = 21
kind_of_symbol End = 25
kind_of_symbol Colon = 26
kind_of_symbol Ellipsis = 27
kind_of_symbol (Quoted bs) = 29
kind_of_symbol Abs = 33
kind_of_symbol Buffer = 34
kind_of_symbol _ = 126

-- the kind that a table has for a word, and of all other words
abbrev pub kind_in : List (List ℕ × ℕ) → ℕ → List ℕ → ℕ
kind_in [] other n = other
kind_in (e ∷ es) other n = if bytes_eq n e.0 then e.1 else kind_in es other n

unfoldable pub keyword_kinds : List (List ℕ × ℕ)
keyword_kinds = (codes "True", 1) ∷ (codes "False", 1) ∷ (codes "import", 22) ∷ (codes "as", 23) ∷ (codes "del", 24) ∷ (codes "None", 28) ∷ []

-- Some names have kinds of their own, and are plain names wherever a name may stand. Each has two more behind its own.
unfoldable pub name_kinds : List (List ℕ × ℕ)
name_kinds =
    (codes "numpy", 43)
    ∷ (codes "arange", 46)
    ∷ (codes "newaxis", 49)
    ∷ (codes "zeros", 52) ∷ (codes "ones", 52)
    ∷ (codes "full", 55)
    ∷ (codes "array", 58)
    ∷ (codes "broadcast_to", 61)
    ∷ (codes "add", 64) ∷ (codes "multiply", 64)
    ∷ (codes "minimum", 67) ∷ (codes "maximum", 67)
    ∷ (codes "absolute", 70)
    ∷ (codes "load", 73)
    ∷ (codes "save", 76)
    ∷ (codes "bool", 79) ∷ (codes "bool_", 79)
    ∷ (codes "int8", 79) ∷ (codes "int16", 79) ∷ (codes "int32", 79) ∷ (codes "int64", 79)
    ∷ (codes "uint8", 79) ∷ (codes "uint16", 79) ∷ (codes "uint32", 79) ∷ (codes "uint64", 79)
    ∷ (codes "T", 82)
    ∷ (codes "transpose", 85)
    ∷ (codes "reshape", 88)
    ∷ (codes "copy", 91)
    ∷ (codes "astype", 94) ∷ (codes "view", 94)
    ∷ (codes "sum", 97) ∷ (codes "prod", 97) ∷ (codes "min", 97) ∷ (codes "max", 97)
    ∷ (codes "any", 97) ∷ (codes "all", 97) ∷ (codes "argmin", 97) ∷ (codes "argmax", 97)
    ∷ (codes "cumsum", 100) ∷ (codes "cumprod", 100)
    ∷ (codes "reduce", 103)
    ∷ (codes "accumulate", 106)
    ∷ (codes "axis", 109)
    ∷ (codes "keepdims", 112)
    ∷ (codes "dtype", 115)
    ∷ []

-- a name stands before `=` or another operator of assignment, before `(`, where it is called, or neither
abbrev pub before : ℕ → ℕ
before k = if k == 17 || k == 18 then 1 else (if k == 12 then 2 else 0)

abbrev pub before_next : List Token → ℕ
before_next [] = 0
before_next (t ∷ rest) = before (kind_of_symbol t.word)

-- the next token is this symbol
abbrev pub is_before : ℕ → List Token → Bool
is_before k [] = false
is_before k (t ∷ rest) = kind_of_symbol t.word == k

abbrev pub is_name : List ℕ → Word → Bool
is_name n (Name m) = bytes_eq m n
is_name n w = false

-- the next tokens are a dot and this name
abbrev pub is_before_name : List ℕ → List Token → Bool
is_before_name n (a ∷ b ∷ rest) = kind_of_symbol a.word == 19 && is_name n b.word
is_before_name n ts = false

-- The bracket that is open here, n levels further out, has a comma of its own further on.
abbrev pub holds_comma : ℕ → List Token → Bool
holds_comma n [] = false
holds_comma n (t ∷ rest) =
    let k = kind_of_symbol t.word in
    if k == 12 || k == 14 then holds_comma (suc n) rest
    else (if k == 13 || k == 15 then (if n == 0 then false else holds_comma (n - 1) rest)
    else (if k == 16 && n == 0 then true
    else (if k == 25 then false
    else holds_comma n rest)))

-- A comma before `]` or `)`, `(` before `)` and `(` with a comma of its own, and `np` before `.newaxis` or `.save` have kinds of
-- their own.
abbrev pub refined : ℕ → List Token → ℕ
refined k rest =
    if k == 16 && is_before 15 rest then 30
    else (if k == 16 && is_before 13 rest then 37
    else (if k == 12 && is_before 13 rest then 31
    else (if k == 12 && holds_comma 0 rest then 36
    else (if k == 20 && is_before_name (codes "newaxis") rest then 32
    else (if k == 20 && is_before_name (codes "save") rest then 35
    else k)))))

abbrev pub kind_of_word : Word → List Token → ℕ
kind_of_word (Name n) rest = kind_in name_kinds 40 n + before_next rest
kind_of_word (Keyword k) rest = kind_in keyword_kinds 126 k
kind_of_word w rest = refined (kind_of_symbol w) rest

-- A statement begins in column 1: elsewhere its first token is 127, which no rule has.
abbrev pub kind_of : Token → List Token → ℕ
kind_of t rest = if t.starts && not (t.column == 1) then 127 else kind_of_word t.word rest

abbrev pub kind : List Token → ℕ
kind [] = 126
kind (t ∷ rest) = kind_of t rest

-- ---- sets

abbrev pub INTEGER : ℕ
INTEGER = 2 ^ 0

-- `True`, `False`
abbrev pub TRUTH : ℕ
TRUTH = 2 ^ 1

abbrev pub MINUS : ℕ
MINUS = 2 ^ 2

abbrev pub PLUS : ℕ
PLUS = 2 ^ 3

abbrev pub TILDE : ℕ
TILDE = 2 ^ 4

-- `**`
abbrev pub POWER : ℕ
POWER = 2 ^ 5

-- `*`, `//`, `/`, `%`
abbrev pub PRODUCT : ℕ
PRODUCT = 2 ^ 6

-- `<<`, `>>`
abbrev pub SHIFT : ℕ
SHIFT = 2 ^ 7

abbrev pub AMPERSAND : ℕ
AMPERSAND = 2 ^ 8

abbrev pub CARET : ℕ
CARET = 2 ^ 9

abbrev pub BAR : ℕ
BAR = 2 ^ 10

-- `<`, `<=`, `>`, `>=`, `==`, `!=`
abbrev pub COMPARISON : ℕ
COMPARISON = 2 ^ 11

abbrev pub OPEN : ℕ
OPEN = 2 ^ 12 + 2 ^ 31 + 2 ^ 36

-- `(` before `)`, `(` with a comma of its own, and any other
abbrev pub OPEN_NONE : ℕ
OPEN_NONE = 2 ^ 31

abbrev pub OPEN_TUPLE : ℕ
OPEN_TUPLE = 2 ^ 36

abbrev pub OPEN_ONE : ℕ
OPEN_ONE = 2 ^ 12

-- `(` that is not before `)`
abbrev pub OPEN_SOME : ℕ
OPEN_SOME = OPEN_ONE + OPEN_TUPLE

abbrev pub CLOSE : ℕ
CLOSE = 2 ^ 13

abbrev pub OPEN_BRACKET : ℕ
OPEN_BRACKET = 2 ^ 14

abbrev pub CLOSE_BRACKET : ℕ
CLOSE_BRACKET = 2 ^ 15

abbrev pub COMMA : ℕ
COMMA = 2 ^ 16 + 2 ^ 30 + 2 ^ 37

-- a comma before `]`, and one that is not
abbrev pub COMMA_LAST : ℕ
COMMA_LAST = 2 ^ 30

abbrev pub COMMA_MORE : ℕ
COMMA_MORE = 2 ^ 16 + 2 ^ 37

-- a comma before `)`, and one that is not
abbrev pub COMMA_CLOSING : ℕ
COMMA_CLOSING = 2 ^ 37

abbrev pub COMMA_INNER : ℕ
COMMA_INNER = 2 ^ 16 + 2 ^ 30

-- `=`, and `+=` and the like
abbrev pub ASSIGNMENT : ℕ
ASSIGNMENT = 2 ^ 17 + 2 ^ 18

-- `=`
abbrev pub EQUAL : ℕ
EQUAL = 2 ^ 17

abbrev pub DOT : ℕ
DOT = 2 ^ 19

abbrev pub NP : ℕ
NP = 2 ^ 20 + 2 ^ 32 + 2 ^ 35

-- `np` before `.newaxis`, and one that is not
abbrev pub NP_NEWAXIS : ℕ
NP_NEWAXIS = 2 ^ 32

abbrev pub NP_NO_NEWAXIS : ℕ
NP_NO_NEWAXIS = 2 ^ 20 + 2 ^ 35

-- `np` before `.save`, and one that is not
abbrev pub NP_SAVE : ℕ
NP_SAVE = 2 ^ 35

abbrev pub NP_NO_SAVE : ℕ
NP_NO_SAVE = 2 ^ 20 + 2 ^ 32

abbrev pub ABS : ℕ
ABS = 2 ^ 33

abbrev pub BUFFER : ℕ
BUFFER = 2 ^ 34

abbrev pub PRINT : ℕ
PRINT = 2 ^ 21

abbrev pub IMPORT : ℕ
IMPORT = 2 ^ 22

abbrev pub AS : ℕ
AS = 2 ^ 23

abbrev pub DEL : ℕ
DEL = 2 ^ 24

abbrev pub END : ℕ
END = 2 ^ 25

abbrev pub COLON : ℕ
COLON = 2 ^ 26

abbrev pub ELLIPSIS : ℕ
ELLIPSIS = 2 ^ 27

-- `None`
abbrev pub NONE : ℕ
NONE = 2 ^ 28

-- a text in quotes
abbrev pub QUOTED : ℕ
QUOTED = 2 ^ 29

abbrev pub ANY : ℕ
ANY = 2 ^ 128 - 1

-- one kind of each of n names: every third from this one on
abbrev pub thirds : ℕ → ℕ → ℕ
thirds zero k = 0
thirds (suc n) k = 2 ^ k + thirds n (k + 3)

-- names: before neither an operator of assignment nor `(`, before an operator of assignment, and called
abbrev pub UNBOUND : ℕ
UNBOUND = thirds 26 40

abbrev pub BOUND : ℕ
BOUND = thirds 26 41

abbrev pub CALLED : ℕ
CALLED = thirds 26 42

-- a name that is not called, and any
abbrev pub NAME : ℕ
NAME = UNBOUND + BOUND

abbrev pub ANY_NAME : ℕ
ANY_NAME = NAME + CALLED

-- the kinds of one name: where it is not called, and all
abbrev pub plain : ℕ → ℕ
plain k = 2 ^ k + 2 ^ (k + 1)

abbrev pub each : ℕ → ℕ
each k = plain k + 2 ^ (k + 2)

-- `numpy`, and where it is called
abbrev pub NUMPY : ℕ
NUMPY = plain 43

abbrev pub NUMPY_CALLED : ℕ
NUMPY_CALLED = 2 ^ 45

-- `newaxis`, and where it is called
abbrev pub NEWAXIS : ℕ
NEWAXIS = plain 49

abbrev pub NEWAXIS_CALLED : ℕ
NEWAXIS_CALLED = 2 ^ 51

-- ---- names behind `np.`

abbrev pub ARANGE : ℕ
ARANGE = each 46

-- `zeros`, `ones`
abbrev pub FILL : ℕ
FILL = each 52

abbrev pub FULL : ℕ
FULL = each 55

abbrev pub ARRAY : ℕ
ARRAY = each 58

abbrev pub BROADCAST : ℕ
BROADCAST = each 61

-- `add`, `multiply`, `minimum`, `maximum`, where they are not called
abbrev pub UFUNC : ℕ
UFUNC = plain 64 + plain 67

-- `minimum`, `maximum`, where they are called
abbrev pub EXTREMUM : ℕ
EXTREMUM = 2 ^ 69

-- `abs`, `absolute`
abbrev pub ABSOLUTE : ℕ
ABSOLUTE = ABS + each 70

abbrev pub LOAD : ℕ
LOAD = each 73

abbrev pub SAVE : ℕ
SAVE = each 76

-- the names of the kinds of numbers
abbrev pub KIND : ℕ
KIND = each 79

-- all that may stand behind `np.` where an expression is
abbrev pub FUNCTION : ℕ
FUNCTION = ARANGE + FILL + FULL + ARRAY + BROADCAST + UFUNC + EXTREMUM + each 70 + LOAD + KIND

abbrev pub NO_FUNCTION : ℕ
NO_FUNCTION = ANY_NAME - FUNCTION

-- the names of the kinds of numbers, where they are not called, and all other names
abbrev pub KIND_PLAIN : ℕ
KIND_PLAIN = plain 79

abbrev pub NO_KIND : ℕ
NO_KIND = ANY_NAME - KIND_PLAIN

-- ---- names behind a ufunc

abbrev pub REDUCE : ℕ
REDUCE = each 103

abbrev pub ACCUMULATE : ℕ
ACCUMULATE = each 106

abbrev pub NO_FOLD : ℕ
NO_FOLD = ANY_NAME - (REDUCE + ACCUMULATE)

-- ---- names of methods

abbrev pub TRANSPOSED : ℕ
TRANSPOSED = plain 82

abbrev pub TRANSPOSE : ℕ
TRANSPOSE = each 85

abbrev pub RESHAPE : ℕ
RESHAPE = each 88

abbrev pub COPY : ℕ
COPY = each 91

-- `astype`, `view`
abbrev pub CONVERSION : ℕ
CONVERSION = each 94

-- `sum` and the like
abbrev pub REDUCTION : ℕ
REDUCTION = each 97

-- `cumsum`, `cumprod`
abbrev pub ACCUMULATION : ℕ
ACCUMULATION = each 100

abbrev pub NO_METHOD : ℕ
NO_METHOD = ANY_NAME - (TRANSPOSED + TRANSPOSE + RESHAPE + COPY + CONVERSION + REDUCTION + ACCUMULATION)

-- ---- names of arguments: where they are not called, where they stand before `=` or an operator like it, and where they are called

abbrev pub AXIS : ℕ
AXIS = plain 109

abbrev pub AXIS_BOUND : ℕ
AXIS_BOUND = 2 ^ 110

abbrev pub AXIS_CALLED : ℕ
AXIS_CALLED = 2 ^ 111

abbrev pub KEEPDIMS : ℕ
KEEPDIMS = plain 112

abbrev pub KEEPDIMS_BOUND : ℕ
KEEPDIMS_BOUND = 2 ^ 113

abbrev pub KEEPDIMS_CALLED : ℕ
KEEPDIMS_CALLED = 2 ^ 114

abbrev pub DTYPE : ℕ
DTYPE = plain 115

abbrev pub DTYPE_BOUND : ℕ
DTYPE_BOUND = 2 ^ 116

abbrev pub DTYPE_CALLED : ℕ
DTYPE_CALLED = 2 ^ 117

-- ---- what a part begins with

-- an operand of one token; and those of them that do not stand before an operator of assignment
abbrev pub OPERAND : ℕ
OPERAND = NAME + INTEGER + TRUTH

abbrev pub PLACE : ℕ
PLACE = UNBOUND + INTEGER + TRUTH

-- the signs
abbrev pub SIGN : ℕ
SIGN = MINUS + TILDE

-- `+`, `-`
abbrev pub SUM : ℕ
SUM = PLUS + MINUS

-- what goes on an operand
abbrev pub SUFFIX : ℕ
SUFFIX = OPEN_BRACKET + DOT

-- what an expression begins with, and an element of a list
abbrev pub EXPR : ℕ
EXPR = OPERAND + CALLED + PLUS + NP + ABS + BUFFER + OPEN + SIGN

abbrev pub ELEMENT : ℕ
ELEMENT = EXPR + OPEN_BRACKET

-- an axis that is not named, where a named one may stand
abbrev pub FIRST_AXIS : ℕ
FIRST_AXIS = EXPR - AXIS_BOUND - KEEPDIMS_BOUND + NONE

-- what a place, and what a statement begins with
abbrev pub PLACE_START : ℕ
PLACE_START = PLACE + CALLED + PLUS + NP_NO_SAVE + ABS + BUFFER + OPEN

abbrev pub START : ℕ
START = PLACE_START + NP_SAVE + BOUND + PRINT + IMPORT + DEL
