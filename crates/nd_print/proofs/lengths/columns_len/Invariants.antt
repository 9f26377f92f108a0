use Rattle.std.proofs.Common.{◌≡◌, ◌≤◌, ◌*◌, take}
use Rattle.nd_print.specs.Lengths.{columns_len}
use Rattle.nd_print.proofs.lengths.columns_len.Given as goal

abbrev pub invariant-loop-index : goal.invariant-loop-index
invariant-loop-index l = record {
  value : l.len ≡ columns_len (take l.index l.columns);
  limit : l.len ≤ 257 * l.index;
}
