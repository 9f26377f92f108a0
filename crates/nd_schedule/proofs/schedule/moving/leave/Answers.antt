use Rattle.std.proofs.Common.{◌<◌, length, refl, ap, ◌∙◌, arith}
use Rattle.nd_schedule.proofs.schedule.Kept.{as_many}
use Rattle.nd_schedule.proofs.schedule.Sweeping.{record_there}
use Rattle.nd_schedule.proofs.schedule.Turning.{left_at}
use Rattle.nd_schedule.proofs.schedule.moving.leave.Goals as goal

pub returns-clause-at : goal.returns-clause-at
returns-clause-at g c = λ old new j run place at.
    let lt : c.args.i < length old.cells = omega (arith, as_many (λ r. g.C.CellRunner.recorded r.value) old c.args.records.now run.records) in
    left_at old new c.args.i j lt run.distinct _ _ (g.C.CellRunner.session_of c.come_to.new.state.session) (c.in_ok-come_to.ensures.at old new j run place at)
    (g.C.CellRunner.recorded c.deref.result.now)
    (ap g.C.CellRunner.recorded c.deref.ensures ∙ record_there (λ r. g.C.CellRunner.recorded r.value) old c.args.records.now c.index-records-i.result c.args.i run.records lt c.index-records-i.is)
    c.in_ok-went.ensures _ refl
