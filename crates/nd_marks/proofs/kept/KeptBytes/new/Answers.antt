use Rattle.std.proofs.Common.{slice_index, arith}
use Rattle.nd_marks.specs.Kept.{places_in}
use Rattle.nd_marks.proofs.Sparse.{kept_alike}
use Rattle.nd_marks.proofs.Walks.{kept_of_block}
use Rattle.nd_marks.proofs.kept.KeptBytes.new.Goals as goal

pub invariant_of-result : goal.invariant_of-result
invariant_of-result c = kept_of_block (slice_index c.args.block.now) (places_in c.in_ok-marks.marks) c.in_ok-bytes.bytes.items c.in_ok-bytes.ensures

pub returns : goal.returns
returns c = let f = slice_index c.args.block.now in (
  omega (arith, c.count_up_to-count.ensures, c.if-count-most.false),
  λ p. kept_alike f c.args.marks.now c.in_ok-marks.marks c.in_ok-bytes.bytes.items p c.in_ok-marks.ensures c.in_ok-bytes.ensures,
)
