use Rattle.std.proofs.Common.{◌≡◌, ◌≤◌, drop}
use Rattle.nd_model.specs.Formats.NpyHeader as header
use Rattle.nd_npy.proofs.header.texts.count_in.Given as goal

abbrev pub invariant-loop-digit : goal.invariant-loop-digit
invariant-loop-digit l = record {
  value : header.count_in 0 l.digits ≡ header.count_in l.count (drop l.digit-index l.digits);
  range : l.count ≤ 65537;
}
