use Rattle.std.proofs.Common.{◌≤◌, get_or, arith}
use Rattle.nd_places.specs.Near.{is_true}
use Rattle.nd_places.proofs.Found.{count_next, one_at_most}
use Rattle.nd_places.proofs.masks.count_few.Goals as goal

pub loop-byte-preserved : goal.loop-byte-preserved
loop-byte-preserved c =
    let mask = c.args.mask.now in let k = c.loop-byte.byte-index in
    let more : c.count_of_byte-count.result ≤ 1 = one_at_most (is_true (get_or mask k 0)) _ c.count_of_byte-count.ensures in
    record {
      total = omega (arith, c.loop-byte.invariant.total, count_next mask k c.count_of_byte-count.result c.loop-byte-test.true c.count_of_byte-count.ensures);
      few = omega (arith, c.loop-byte.invariant.few, more);
    }
