use Rattle.std.proofs.Common.{◌≡◌, ◌*◌, ◌++◌, ◌≤◌, length, replicate, get_or}
use Rattle.nd_model.specs.Arrays.Element.{size_of}
use Rattle.nd_convert.specs.Conversion.Converted.{converted_bytes}
use Rattle.nd_assign.proofs.rewriting.repeat_number.Given as goal

abbrev pub invariant-loop-left : goal.invariant-loop-left
invariant-loop-left l = record {
  inside : l.left ≤ length l.run;
  left : l.out.1 ≡ l.left * size_of l.fn.to.kind;
  written : l.out.0 ++ converted_bytes l.fn.to l.fn.from l.bytes (replicate l.left (get_or l.run 0 0)) ≡ converted_bytes l.fn.to l.fn.from l.bytes l.run;
}

abbrev pub decreases-loop-left : goal.decreases-loop-left
decreases-loop-left l = l.left
