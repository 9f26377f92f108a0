-- How many tokens the statements of a text have.
use Rattle.std.specs.Prelude.{◌≡◌, ◌≤◌, ℕ, List, length, Ok}
use Rattle.nd_model.specs.Grammar.Syntax.{Line}
use Rattle.nd_model.specs.Grammar.Tokens.{tokens_of_lines}
use Rattle.nd_model.specs.Grammar.Reading.{reading}

-- the statements of a text have together at most as many tokens as the text has bytes
abbrev pub FewTokens : Type 0
FewTokens = (text : List ℕ) (ls : List Line) → reading text ≡ Ok ls → tokens_of_lines ls ≤ length text
