use Rattle.std.proofs.Common.{◌≡◌, sym, subst, arith}
use Rattle.std.proofs.lemmas.Bool.Decides.{nat_tests}
use Rattle.nd_schedule.specs.Schedule.Sweep.{IsAt}
use Rattle.nd_schedule.proofs.schedule.Standing.{hand_there}
use Rattle.nd_schedule.proofs.schedule.stopping.stop_at.Goals as goal

pub returns-clause-noted : goal.returns-clause-noted
returns-clause-noted g c = λ old new place at all.
    c.note.ensures.noted old new (record { within = place.now; over = at.over })
    (λ there. let is : c.args.state.now.since ≡ c.args.i = grind (arith, nat_tests) in hand_there old new c.args.i c.args.now _ _ _ at is)
    all

pub returns-clause-at : goal.returns-clause-at
returns-clause-at g c = λ old new at.
    subst (λ u. IsAt old new c.args.i c.args.now (g.C.CellRunner.change_of c.args.state.now.change) u c.args.state.now.since) (sym c.note.ensures.same) at
