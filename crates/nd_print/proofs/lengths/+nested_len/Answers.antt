use Rattle.std.proofs.Common.{◌+◌, ◌^◌, ◌≤◌, arith}
use Rattle.nd_print.proofs.Sizes.{sizes, few, some_axes}
use Rattle.nd_print.proofs.lengths.+nested_len.Goals as goal

pub overflow_mul-len : goal.overflow_mul-len
overflow_mul-len t c =
    let s = sizes c.args.shape.now (some_axes c.args.shape.now c.is_empty.result c.is_empty.ensures c.if-is_empty.false) c.requires.some in
    let a : c.from.result ≤ 2 ^ 24 = omega (arith, s.most, c.from.ensures, c.requires.limit) in
    let b : c.in_ok-part.part + c.gap_len.result ≤ 2 ^ 67 = omega (arith, c.in_ok-part.ensures, c.gap_len.ensures, c.ranges.room.fits) in
    let bound = few c.from.result (c.in_ok-part.part + c.gap_len.result) a b in omega (arith, bound)

pub overflow_add-len-2 : goal.overflow_add-len-2
overflow_add-len-2 t c =
    let s = sizes c.args.shape.now (some_axes c.args.shape.now c.is_empty.result c.is_empty.ensures c.if-is_empty.false) c.requires.some in
    let a : c.from.result ≤ 2 ^ 24 = omega (arith, s.most, c.from.ensures, c.requires.limit) in
    let b : c.in_ok-part.part + c.gap_len.result ≤ 2 ^ 67 = omega (arith, c.in_ok-part.ensures, c.gap_len.ensures, c.ranges.room.fits) in
    let bound = few c.from.result (c.in_ok-part.part + c.gap_len.result) a b in omega (arith, bound)

pub overflow_add-len-3 : goal.overflow_add-len-3
overflow_add-len-3 t c =
    let s = sizes c.args.shape.now (some_axes c.args.shape.now c.is_empty.result c.is_empty.ensures c.if-is_empty.false) c.requires.some in
    let a : c.from.result ≤ 2 ^ 24 = omega (arith, s.most, c.from.ensures, c.requires.limit) in
    let b : c.in_ok-part.part + c.gap_len.result ≤ 2 ^ 67 = omega (arith, c.in_ok-part.ensures, c.gap_len.ensures, c.ranges.room.fits) in
    let bound = few c.from.result (c.in_ok-part.part + c.gap_len.result) a b in omega (arith, bound)
