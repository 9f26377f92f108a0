use Rattle.std.proofs.Common.{◌≡◌, ◌*◌, length, take, drop, get_or}
use Rattle.std.specs.List.{flat_map}
use Rattle.nd_model.specs.Arrays.Element.{size_of}
use Rattle.nd_model.specs.Arrays.Tuple.{count_up}
use Rattle.nd_convert.specs.Conversion.Converted.{converted_at}
use Rattle.nd_ufunc.proofs.elementwise.spread.gather_spread.Given as goal

abbrev pub invariant-loop-index : goal.invariant-loop-index
invariant-loop-index l = record {
  len : length l.out ≡ length l.fn.out;
  walk : l.spread ≡ drop l.index l.fn.spread;
  done : take (l.index * size_of l.to.kind) l.out
      ≡ flat_map (λ k. converted_at l.to l.elem l.bytes (get_or l.fn.spread k 0)) (count_up 0 l.index);
}
