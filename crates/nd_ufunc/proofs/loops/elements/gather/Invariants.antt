use Rattle.std.proofs.Common.{◌≡◌, ◌-◌, ◌*◌, ◌≤◌, ◌++◌, length, take, drop}
use Rattle.nd_model.specs.Arrays.Element.{size_of}
use Rattle.nd_model.specs.Making.Elementwise.{little}
use Rattle.nd_types.specs.Kinds.{kind_of}
use Rattle.nd_convert.specs.Conversion.Converted.{converted_bytes}
use Rattle.nd_ufunc.proofs.loops.elements.gather.Given as goal

abbrev pub invariant-loop-at : goal.invariant-loop-at
invariant-loop-at l = record {
  within : l.at ≤ l.count;
  len : length l.out ≡ length l.fn.out;
  walk : l.walk ≡ drop l.at (l.first ++ l.fn.walk);
  done : take (l.at * size_of (kind_of l.kind)) l.out
      ≡ converted_bytes (little (kind_of l.kind)) l.elem l.bytes (take l.at (l.first ++ l.fn.walk));
}

abbrev pub decreases-loop-at : goal.decreases-loop-at
decreases-loop-at l = l.count - l.at
