use Rattle.std.proofs.Common.{◌≡◌, ◌+◌, ◌≤◌, drop}
use Rattle.nd_index.specs.Items.Counts.{true_count}
use Rattle.nd_index.proofs.items.common.count_each.Given as goal

abbrev pub invariant-loop-at : goal.invariant-loop-at
invariant-loop-at l = record {
  total : l.count + true_count l.elem l.bytes (drop l.at l.run) ≡ true_count l.elem l.bytes l.run;
  few : l.count ≤ l.at;
}
