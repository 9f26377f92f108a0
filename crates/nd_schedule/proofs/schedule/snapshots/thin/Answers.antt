use Rattle.std.proofs.Common.{map}
use Rattle.nd_schedule.specs.Schedule.Snapshot.{IsSnapshot}
use Rattle.nd_schedule.proofs.schedule.Standing.{All-remove, kept_lists}
use Rattle.nd_schedule.proofs.schedule.snapshots.thin.Goals as goal

pub loop-snapshots-preserved : goal.loop-snapshots-preserved
loop-snapshots-preserved g c = λ b all.
    c.raise_cost.ensures.snapshots b
    (kept_lists (λ s. IsSnapshot b s.place (g.C.CellRunner.kept_session s.version) (map g.C.CellRunner.change_of s.pending.items)) (λ s. IsSnapshot b s.place (g.C.CellRunner.kept_session s.version) (map g.C.CellRunner.change_of s.pending.items)) _ _ c.remove-gone.ensures.items (λ s one. one)
    (All-remove (λ s. IsSnapshot b s.place (g.C.CellRunner.kept_session s.version) (map g.C.CellRunner.change_of s.pending.items)) c.loop-snapshots.snapshots.items c.in-Some.k (c.loop-snapshots.invariant b all)))
