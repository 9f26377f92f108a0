use Rattle.std.proofs.Common.{◌++◌, map, sym, ap, subst, ◌∙◌}
use Rattle.nd_schedule.specs.Schedule.Ran.{shifted}
use Rattle.nd_schedule.specs.Schedule.Sweep.{AreFit, fit_at}
use Rattle.nd_schedule.proofs.schedule.taking.tell_places.Goals as goal

pub returns-clause-places : goal.returns-clause-places
returns-clause-places g c = λ n small fit.
    c.in_ok-note_places.ensures.places n small (subst (λ xs. AreFit g.C.CellRunner.covers n (map (λ c'. fit_at c'.place (g.C.CellRunner.recorded c'.record.value) c'.word) xs)) (sym c.deref.ensures.value) fit)
    ∙ ap (λ xs. c.args.edited.ran.items ++ map (λ c'. shifted c.args.shift c'.place) xs) c.deref.ensures.value
