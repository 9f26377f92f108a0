-- The tokens of some texts, computed.
use Rattle.std.specs.Prelude.{ℕ, Bool, true, false, List, [], ◌∷◌, ◌++◌, codes, Result, Ok, Err}
use Rattle.std.proofs.Common.{◌≡◌, refl}
use Rattle.nd_model.specs.Grammar.Token.{Word, Name, Integer, Plus, Equal, OpenParen, Ellipsis, Dot, Quoted, Keyword, Print, End, Token}
use Rattle.nd_model.specs.Cells.Fault.{ParseFault, BadToken}
use Rattle.nd_model.specs.Grammar.Lexing.{tokens, tokens_from, piece_at, word_at, symbols, keywords}

token : Bool → Word → ℕ → ℕ → Token
token starts word line column = record { word = word; line = line; column = column; starts = starts }

bad : ℕ → ℕ → Result (List Token) ParseFault
bad line column = Err (record { kind = BadToken; line = line; column = column })

name : List ℕ → Word
name text = Name text

nothing : tokens [] ≡ Ok []
unfolding tokens tokens_from piece_at word_at symbols keywords
nothing = refl

comment : tokens (codes "# only") ≡ Ok []
unfolding tokens tokens_from piece_at word_at symbols keywords
comment = refl

carriage_return_newline : tokens (codes "x = 1" ++ 13 ∷ 10 ∷ []) ≡ Ok (
    token true (name (codes "x")) 1 1 ∷ token false Equal 1 3 ∷ token false (Integer 1) 1 5 ∷ token false End 1 6 ∷ [])
unfolding tokens tokens_from piece_at word_at symbols keywords token name
carriage_return_newline = refl

lone_carriage_return : tokens (codes "x = 1" ++ 13 ∷ []) ≡ bad 1 6
unfolding tokens tokens_from piece_at word_at symbols keywords bad
lone_carriage_return = refl

leading_zero : tokens (codes "x = 01") ≡ bad 1 5
unfolding tokens tokens_from piece_at word_at symbols keywords bad
leading_zero = refl

too_large : tokens (codes "x = 18446744073709551616") ≡ bad 1 5
unfolding tokens tokens_from piece_at word_at symbols keywords bad
too_large = refl

later_line : tokens (codes "foo(3)" ++ 10 ∷ codes "x = $") ≡ bad 2 5
unfolding tokens tokens_from piece_at word_at symbols keywords bad
later_line = refl

newline_in_brackets : tokens (codes "x = (1 +" ++ 10 ∷ codes "y = 2") ≡ Ok (
    token true (name (codes "x")) 1 1 ∷ token false Equal 1 3 ∷ token false OpenParen 1 5 ∷ token false (Integer 1) 1 6
    ∷ token false Plus 1 8 ∷ token false (name (codes "y")) 2 1 ∷ token false Equal 2 3 ∷ token false (Integer 2) 2 5
    ∷ token false End 2 6 ∷ [])
unfolding tokens tokens_from piece_at word_at symbols keywords token name
newline_in_brackets = refl

two_statements : tokens (codes "if ....  # c" ++ 10 ∷ 10 ∷ codes "print 'a#'" ++ 10 ∷ []) ≡ Ok (
    token true (Keyword (codes "if")) 1 1 ∷ token false Ellipsis 1 4 ∷ token false Dot 1 7 ∷ token false End 1 8
    ∷ token true Print 3 1 ∷ token false (Quoted (codes "a#")) 3 7 ∷ token false End 3 11 ∷ [])
unfolding tokens tokens_from piece_at word_at symbols keywords token name
two_statements = refl

unclosed : tokens (codes "x = 'a" ++ 10 ∷ codes "'") ≡ bad 1 5
unfolding tokens tokens_from piece_at word_at symbols keywords bad
unclosed = refl
