use Rattle.std.proofs.Common.{◌<◌, ap, arith}
use Rattle.std.proofs.lemmas.Grind.{common_steps}
use Rattle.nd_change.specs.Steps.{IsWordOf}
use Rattle.nd_schedule.specs.Schedule.Sweep.{fit_at}
use Rattle.nd_schedule.proofs.schedule.Kept.{fit_there}
use Rattle.nd_schedule.proofs.schedule.ran.note_places.Goals as goal

pub loop-k-preserved : goal.loop-k-preserved
loop-k-preserved g c = λ n small all.
    let fit : (c.index-changed-k.result.place < n) × IsWordOf g.C.CellRunner.covers c.index-changed-k.result.word (g.C.CellRunner.recorded c.index-changed-k.result.record.value) =
    fit_there g.C.CellRunner.covers (λ c'. fit_at c'.place (g.C.CellRunner.recorded c'.record.value) c'.word) n c.args.changed.now c.loop-k.k c.index-changed-k.result all c.loop-k-test.true c.index-changed-k.is in
    let so_far = c.loop-k.invariant n small all in
    let there = c.place.ensures (omega (arith, fit.0, small, ap (λ x. x.place) c.index-changed-k.is)) in
    grind (arith, common_steps)

pub returns-clause-places : goal.returns-clause-places
returns-clause-places g c = λ n small all.
    let so_far = c.loop-k.invariant n small all in
    grind (arith, common_steps)
