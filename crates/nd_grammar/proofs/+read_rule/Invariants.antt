-- What is left is read as all of the tokens are, with the roles so far before it.
use Rattle.std.proofs.Common.{◌≡◌, ◌≤◌, List, ◌∷◌, length}
use Rattle.nd_model.specs.Formats.Rules.{Rule, Many}
use Rattle.nd_model.specs.Formats.RuleReading.{run}
use Rattle.nd_grammar.specs.Reads.{rule_of, ahead}
use Rattle.nd_grammar.proofs.+read_rule.Given as goal

abbrev pub invariant-loop-set : goal.invariant-loop-set
invariant-loop-set l =
    ((k : List Rule) → ahead l.fn.roles.items (run (Many l.set (rule_of l.part.now) ∷ k) l.tokens) ≡ ahead l.roles.items (run (Many l.set (rule_of l.part.now) ∷ k) l.rest))
    × (length l.rest ≤ length l.tokens)

abbrev pub decreases-loop-set : goal.decreases-loop-set
decreases-loop-set l = length l.rest
