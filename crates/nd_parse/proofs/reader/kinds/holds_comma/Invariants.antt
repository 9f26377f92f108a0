use Rattle.std.proofs.Common.{◌≡◌, ◌≤◌, drop}
use Rattle.nd_model.specs.Grammar.Kinds.{holds_comma}
use Rattle.nd_parse.specs.Reader.Gives.{tokens_of}
use Rattle.nd_parse.proofs.reader.kinds.holds_comma.Given as goal

-- the tokens that are left give the answer, from as many levels further in
abbrev pub invariant-loop-token : goal.invariant-loop-token
invariant-loop-token l = (holds_comma l.depth (tokens_of (drop l.token-index l.tokens)) ≡ holds_comma 0 (tokens_of l.tokens)) × (l.depth ≤ l.token-index)
