use Rattle.std.proofs.Common.{map, arith}
use Rattle.std.proofs.lemmas.Grind.{common_steps}
use Rattle.std.proofs.lemmas.List.Elements.{All-set}
use Rattle.nd_schedule.specs.Schedule.Snapshot.{IsSnapshot}
use Rattle.nd_schedule.proofs.schedule.Standing.{All-inserted, kept_in_front}
use Rattle.nd_schedule.proofs.schedule.snapshots.put_in_front.Goals as goal

pub returns : goal.returns
returns g c = λ old new behind one all.
    All-inserted (λ s. IsSnapshot new s.place (g.C.CellRunner.kept_session s.version) (map g.C.CellRunner.change_of s.pending.items)) c.insert-room.result _ _ _ _ c.insert-room.ensures.items all
    (kept_in_front old new c.args.front c.args.snapshot.place _ _ behind (omega arith) one)

pub first_behind-behind-requires : goal.first_behind-behind-requires
first_behind-behind-requires g c = grind (arith, common_steps)

pub index-requires : goal.index-requires
index-requires g c = grind (arith, common_steps)

pub index-requires-then-index-snapshot : goal.index-requires-then-index-snapshot
index-requires-then-index-snapshot g c = grind (arith, common_steps)

pub index_mut-requires : goal.index_mut-requires
index_mut-requires g c = grind (arith, common_steps)

pub insert-room-requires : goal.insert-room-requires
insert-room-requires g c = grind (arith, common_steps)

pub overflow_sub-behind : goal.overflow_sub-behind
overflow_sub-behind g c = grind (arith, common_steps)

pub overflow_sub-behind-then-index-snapshot : goal.overflow_sub-behind-then-index-snapshot
overflow_sub-behind-then-index-snapshot g c = grind (arith, common_steps)

pub overflow_sub-behind-then-index-snapshot-2 : goal.overflow_sub-behind-then-index-snapshot-2
overflow_sub-behind-then-index-snapshot-2 g c = grind (arith, common_steps)

pub returns-then-snapshot-front : goal.returns-then-snapshot-front
returns-then-snapshot-front g c = grind (arith, common_steps)

pub returns-then-index-snapshot : goal.returns-then-index-snapshot
returns-then-index-snapshot g c = λ old new behind one all.
    All-set (λ s. IsSnapshot new s.place (g.C.CellRunner.kept_session s.version) (map g.C.CellRunner.change_of s.pending.items)) _ _ _
    (kept_in_front old new c.args.front c.args.snapshot.place _ _ behind (omega arith) one) all
