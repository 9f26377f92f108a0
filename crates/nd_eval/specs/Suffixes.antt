-- How many tokens an index, a method or an axis has.
use Rattle.std.specs.Prelude.{ℕ, ◌+◌}
use Rattle.nd_model.specs.Grammar.Cells.{Suffix, AtIndex, OfMethod}
use Rattle.nd_model.specs.Grammar.Syntax.{Axis, AtAxis}
use Rattle.nd_model.specs.Grammar.Tokens.{tokens_of, tokens_of_index, tokens_of_method}

abbrev pub suffix_tokens : Suffix → ℕ
suffix_tokens (AtIndex x) = 2 + tokens_of_index x
suffix_tokens (OfMethod m) = 2 + tokens_of_method m

-- of the axis that an expression says
abbrev pub axis_tokens : Axis → ℕ
axis_tokens (AtAxis e) = tokens_of e
axis_tokens a = 0
