use Rattle.std.proofs.Common.{◌≡◌, drop}
use Rattle.std.specs.List.{list_any}
use Rattle.nd_index.specs.Advanced.Takes.{is_spread, takes_of}
use Rattle.nd_index.proofs.advanced.sole.has_spread.Given as goal

abbrev pub invariant-loop-take : goal.invariant-loop-take
invariant-loop-take l = list_any is_spread (takes_of l.takes) ≡ list_any is_spread (takes_of (drop l.take-index l.takes))
