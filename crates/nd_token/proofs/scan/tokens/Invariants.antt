use Rattle.std.proofs.Common.{length, ◌-◌, map}
use Rattle.nd_token.specs.States.{state_of}
use Rattle.nd_token.specs.Tokens.{token_of}
use Rattle.nd_token.proofs.Scanning.{Stands}
use Rattle.nd_token.proofs.scan.tokens.Given as goal

abbrev pub invariant-loop-at : goal.invariant-loop-at
invariant-loop-at l = Stands l.text l.at (map token_of l.tokens.items) (state_of l.state)

abbrev pub decreases-loop-at : goal.decreases-loop-at
decreases-loop-at l = length l.text - l.at
