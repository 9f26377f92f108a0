use Rattle.std.proofs.Common.{◌<◌, [], map, length, pos, ap, arith}
use Rattle.std.specs.Prelude.{◌+ℤ◌}
use Rattle.std.specs.Int.{w128}
use Rattle.std.proofs.lemmas.Int.{ints, fits_signed_from_abs}
use Rattle.nd_index.specs.Offsets.RowPlaces.{way_on}
use Rattle.nd_index.proofs.offsets.Pushed.{joined_again}
use Rattle.nd_index.proofs.offsets.Rows.{near_at}
use Rattle.nd_index.proofs.advanced.by_rows.row_starts.Goals as goal

pub overflow_add-from : goal.overflow_add-from
overflow_add-from c =
    let kept = c.args.kept.now in
    fits_signed_from_abs w128 _ (omega (arith, ints, near_at kept.before.now c.loop-way.way-index kept.first, c.from.ensures))

pub push_starts-requires-clause-start : goal.push_starts-requires-clause-start
push_starts-requires-clause-start c =
    let kept = c.args.kept.now in
    omega (arith, ints, near_at kept.before.now c.loop-way.way-index kept.first, c.from.ensures)

pub loop-way-preserved : goal.loop-way-preserved
loop-way-preserved c =
    let kept = c.args.kept.now in let before = kept.before.now in let k = c.loop-way.way-index in let ks = c.args.numbers.now in let axes = c.args.axes.now in
    let lt : k < length before = omega (arith, c.loop-way-test.true) in
    let found = c.in_ok-push_starts.ensures c.if-not-branch.false in
    record {
      near = found.0;
      done = joined_again (λ b. map (λ n. (pos kept.offset +ℤ b) +ℤ way_on axes n) ks) before k (pos 0) [] c.loop-way.starts.items c.push_starts.new.starts.items _ lt found.1
          (ap (λ x. map (λ n. x +ℤ way_on axes n) ks) (omega (arith, ints, near_at before k kept.first))) c.loop-way.invariant.done;
    }
