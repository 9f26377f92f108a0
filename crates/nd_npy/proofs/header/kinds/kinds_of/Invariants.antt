use Rattle.std.proofs.Common.{◌≡◌, ◌++◌, drop, length}
use Rattle.nd_model.specs.Formats.NpyHeader as header
use Rattle.nd_npy.proofs.header.kinds.kinds_of.Given as goal

abbrev pub invariant-loop-at : goal.invariant-loop-at
invariant-loop-at l = record {
  all : header.kinds_of l.bytes ≡ l.kinds.items ++ header.kinds_of (drop l.at l.bytes);
  len : length l.kinds.items ≡ l.at;
}
