use Rattle.std.proofs.Common.{◌≡◌, ◌+◌, ◌-◌, ◌*◌, ◌≤◌, ◌++◌, length, take}
use Rattle.nd_model.specs.Arrays.Element.{size_of}
use Rattle.nd_convert.specs.Conversion.Converted.{converted_bytes}
use Rattle.nd_convert.proofs.conversion.numbers.fill_run.Given as goal

abbrev pub invariant-loop-at : goal.invariant-loop-at
invariant-loop-at l = record {
  inside : l.at ≤ length l.run;
  buffer : length l.buffer ≡ length l.fn.buffer;
  left : l.out.1 + l.at * size_of l.to.kind ≡ l.fn.out.1;
  written : l.out.0 ≡ l.fn.out.0 ++ converted_bytes l.to l.from l.bytes (take l.at l.run);
}

abbrev pub decreases-loop-at : goal.decreases-loop-at
decreases-loop-at l = length l.run - l.at
