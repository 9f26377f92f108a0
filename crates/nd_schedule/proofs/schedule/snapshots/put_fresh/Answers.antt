use Rattle.std.proofs.Common.{◌≡◌, ◌<◌, length, map, get_or, arith}
use Rattle.std.proofs.lemmas.Iterator.Adapters.{YieldsList-from_vec}
use Rattle.std.proofs.lemmas.Iterator.Consumers.{YieldsList-turn}
use Rattle.nd_schedule.specs.Schedule.Snapshot.{IsSnapshot}
use Rattle.nd_schedule.proofs.schedule.Standing.{one_of}
use Rattle.nd_schedule.proofs.schedule.snapshots.put_fresh.Goals as goal

pub loop-made-preserved : goal.loop-made-preserved
loop-made-preserved g c = λ old new behind made olds.
    let turn : (length c.loop-made.yielded < length c.args.fresh.items) × (c.in-Some.made ≡ get_or c.args.fresh.items (length c.loop-made.yielded) c.in-Some.made) =
    YieldsList-turn (YieldsList-from_vec {s = c.into_iter-made-iterator.result} c.args.fresh.items c.into_iter-made-iterator.ensures.into_iter_gives.0 (omega (arith, c.into_iter-made-iterator.ensures.into_iter_gives.1))) c.loop-made.yielded c.loop-made.made-iterator c.loop-made.yielded_by c.next.result c.next.new.self c.in-Some.made c.in-Some.is c.next.ensures.steps in
    c.put_in_front.ensures old new behind
    (one_of (λ s. IsSnapshot old s.place (g.C.CellRunner.kept_session s.version) (map g.C.CellRunner.change_of s.pending.items)) c.args.fresh.items (length c.loop-made.yielded) c.in-Some.made made turn.0 turn.1)
    (c.loop-made.invariant old new behind made olds)

pub returns : goal.returns
returns g c = λ old new behind made olds. c.thin.ensures new (c.loop-made.invariant old new behind made olds)
