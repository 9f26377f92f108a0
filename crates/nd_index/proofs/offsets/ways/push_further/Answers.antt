use Rattle.std.proofs.Common.{◌≡◌, ◌<◌, ◌++◌, map, length, get_or, pos, to_z, of_z, ◌∙◌, arith}
use Rattle.std.specs.Int.{w128}
use Rattle.std.specs.Prelude.{◌+ℤ◌}
use Rattle.std.proofs.lemmas.Int.{ints, fits_signed_from_abs, to_z-of_z}
use Rattle.std.proofs.lemmas.List.{take_all}
use Rattle.nd_index.proofs.offsets.Pushed.{mapped_again}
use Rattle.nd_index.proofs.offsets.Rows.{near_at}
use Rattle.nd_index.proofs.offsets.ways.push_further.Goals as goal

pub overflow_add-by : goal.overflow_add-by
overflow_add-by c = fits_signed_from_abs w128 _ (omega (arith, ints, near_at c.args.ways.now c.loop-way.way-index c.requires.near, c.requires.by))

pub loop-way-preserved : goal.loop-way-preserved
loop-way-preserved c =
    let ways = c.args.ways.now in let k = c.loop-way.way-index in let by = to_z w128 (of_z w128 c.args.by) in
    let lt : k < length ways = omega (arith, c.loop-way-test.true) in
    let sum : to_z w128 (of_z w128 (by +ℤ to_z w128 (of_z w128 (get_or ways k (pos 0))))) ≡ by +ℤ get_or ways k (pos 0)
    = omega (arith, ints, near_at ways k c.requires.near, c.requires.by) in
    mapped_again (λ z. by +ℤ z) ways k (pos 0) c.args.out.now.items c.loop-way.out.items c.push.new.self.items _ lt c.in_ok-push.ensures.items sum c.loop-way.invariant

pub returns : goal.returns
returns c =
    c.loop-way.invariant
    ∙ (λ i. c.args.out.now.items ++ map (λ z. to_z-of_z w128 c.args.by c.ranges.by i +ℤ z) (take_all c.loop-way.way-index c.args.ways.now (omega (arith, c.loop-way-test.false)) i))
