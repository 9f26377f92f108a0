use Rattle.std.proofs.Common.{sym, subst}
use Rattle.nd_schedule.specs.Schedule.Sweep.{IsAt}
use Rattle.nd_schedule.proofs.schedule.sweep.come_to.Goals.{in-Ok-Some, in_default+in_ok-catch_up}
use Rattle.nd_schedule.proofs.schedule.sweep.come_to.Goals as goal

pub returns-clause-at : goal.returns-clause-at
returns-clause-at g c = λ old new j run place at. elim c.match-nearer.branch [
  | in-Ok-Some w ↦
      let nearer = rw w.in-Ok-Some.field-0-is at w.in-Ok-Some.ensures in
      subst (λ u. IsAt old new c.args.i j (g.C.CellRunner.change_of u.change) (g.C.CellRunner.session_of u.session) c.args.i) (sym w.state-is)
      (record { over = at.over; hand = nearer old new j run place (record { within = place.now; over = at.over }) })
  | in_default+in_ok-catch_up w ↦
      subst (λ u. IsAt old new c.args.i j (g.C.CellRunner.change_of u.change) (g.C.CellRunner.session_of u.session) c.args.i) (sym w.state-is)
      (record { over = at.over; hand = w.in_ok-catch_up.ensures old new j run place at.hand })
]
