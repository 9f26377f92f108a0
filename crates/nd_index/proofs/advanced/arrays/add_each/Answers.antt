use Rattle.std.proofs.Common.{◌<◌, ◌++◌, length, drop, sym, ap, ◌∙◌, arith, append-nil}
use Rattle.std.specs.Int.{w128}
use Rattle.std.proofs.lemmas.Int.{ints, fits_signed_from_abs}
use Rattle.std.proofs.lemmas.List.{drop_all}
use Rattle.nd_index.specs.Offsets.Ways.{sums_of}
use Rattle.nd_index.proofs.offsets.Rows.{summed_again, near_at}
use Rattle.nd_index.proofs.advanced.arrays.add_each.Goals as goal

pub overflow_add-way : goal.overflow_add-way
overflow_add-way c =
    fits_signed_from_abs w128 _ (omega (arith, ints, near_at c.args.ways.now c.loop-at.at c.requires.near.0, near_at c.args.own.now c.loop-at.at c.requires.near.1))

pub loop-at-preserved : goal.loop-at-preserved
loop-at-preserved c =
    let ways = c.args.ways.now in let own = c.args.own.now in let k = c.loop-at.at in
    let lt : k < length ways = omega (arith, c.loop-at-test.true) in
    summed_again ways own k c.loop-at.sums.items c.push.new.self.items (sums_of ways own) _ lt (omega (arith, lt, c.requires.each)) c.in_ok-push.ensures.items
    (omega (arith, ints, near_at ways k c.requires.near.0, near_at own k c.requires.near.1)) c.loop-at.invariant

pub returns : goal.returns
returns c =
    let ways = c.args.ways.now in let rest = drop c.loop-at.at c.args.own.now in let done = c.loop-at.sums.items in
    sym (append-nil done) ∙ ap (λ l. done ++ sums_of l rest) (sym (drop_all c.loop-at.at ways (omega (arith, c.loop-at-test.false)))) ∙ c.loop-at.invariant
