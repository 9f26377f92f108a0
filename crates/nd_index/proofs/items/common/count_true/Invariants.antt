use Rattle.std.proofs.Common.{◌≡◌, ◌+◌, ◌≤◌, ◌^◌, length}
use Rattle.std.specs.List.{concat}
use Rattle.nd_index.specs.Items.Counts.{true_count}
use Rattle.nd_index.proofs.items.common.count_true.Given as goal

abbrev pub invariant-loop-run : goal.invariant-loop-run
invariant-loop-run l = record {
  total : l.count + true_count l.mask.elem.now l.mask.bytes.now (concat l.runs) ≡ true_count l.mask.elem.now l.mask.bytes.now l.mask.view.now.places;
  few : l.count + length (concat l.runs) ≤ 2 ^ 24;
}

abbrev pub decreases-loop-run : goal.decreases-loop-run
decreases-loop-run l = length l.runs
