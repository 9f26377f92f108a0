use Rattle.std.proofs.Common.{◌≤◌, map, get_or, sym, subst, arith}
use Rattle.std.proofs.lemmas.List.{get_or-map}
use borrow.Author.Count.{below_more}
use Rattle.nd_schedule.proofs.schedule.snapshots.count_front.Goals as goal

pub loop-k-preserved : goal.loop-k-preserved
loop-k-preserved g c =
    let lt = c.loop-k-test.true in
    below_more (λ j. get_or (map (λ s. s.place) c.args.snapshots.now) j 0 ≤ c.args.front) c.loop-k.k c.loop-k.invariant
    (subst (λ n. n ≤ c.args.front) (sym (get_or-map (λ s. s.place) c.args.snapshots.now c.loop-k.k c.index-snapshots-k.result 0 lt)) (omega arith))
