use Rattle.std.proofs.Common.{◌≡◌, false, take}
use Rattle.std.specs.List.{list_any}
use Rattle.nd_index.specs.Advanced.Takes.{axes_taken, is_spread, takes_of}
use Rattle.nd_index.proofs.advanced.sole.sole_array.Given as goal

abbrev pub invariant-loop-number : goal.invariant-loop-number
invariant-loop-number l = record {
  none : list_any is_spread (takes_of (take l.number l.takes)) ≡ false;
  axes : l.axis ≡ axes_taken (takes_of (take l.number l.takes));
}
