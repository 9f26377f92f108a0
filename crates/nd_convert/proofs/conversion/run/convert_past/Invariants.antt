use Rattle.std.proofs.Common.{◌≡◌, ◌*◌, length, take}
use Rattle.nd_model.specs.Arrays.Element.{size_of}
use Rattle.nd_convert.specs.Conversion.Converted.{converted_bytes}
use Rattle.nd_convert.proofs.conversion.run.convert_past.Given as goal

abbrev pub invariant-loop-index : goal.invariant-loop-index
invariant-loop-index l = record {
  len : length l.out ≡ length l.fn.out;
  done : take (l.index * size_of l.to.kind) l.out ≡ converted_bytes l.to l.from l.bytes (take l.index l.run);
}
