use Rattle.std.proofs.Common.{◌≡◌, drop, map}
use Rattle.nd_model.specs.Grammar.Lexing.{first_of}
use Rattle.nd_token.specs.Tokens.{entry}
use Rattle.nd_token.proofs.symbol.first_of.Given as goal

-- the symbols that are left give the answer
abbrev pub invariant-loop-bytes : goal.invariant-loop-bytes
invariant-loop-bytes l = first_of (map entry (drop l.bytes-index l.symbols)) l.text ≡ first_of (map entry l.symbols) l.text
