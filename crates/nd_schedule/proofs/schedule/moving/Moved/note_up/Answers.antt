use Rattle.std.proofs.Common.{◌≡◌, ◌++◌, map, subst, sym, ap₂, ◌∙◌}
use Rattle.nd_schedule.specs.Schedule.Ran.{place_made, shifted}
use Rattle.nd_schedule.specs.declared.schedule.ran.Shift.TheVariants as shifts
use Rattle.nd_schedule.specs.Schedule.Sweep.{AreFit, fit_at}
use Rattle.nd_schedule.proofs.schedule.Turning.{if_ok_more}
use Rattle.nd_schedule.proofs.schedule.moving.Moved.note_up.Goals as goal

pub returns : goal.returns
returns g c =
    let first : c.note_places.new.ran.items ≡ (c.args.ran.now.items ++ place_made c.args.self.now.made c.args.to) ++ map (λ c'. shifted shifts.Later c'.place) c.args.self.now.between.items = c.in_ok-note_places.ensures.places c.requires.between.0 c.requires.between.1 (subst (λ xs. AreFit g.C.CellRunner.covers c.requires.between.0 (map (λ c'. fit_at c'.place (g.C.CellRunner.recorded c'.record.value) c'.word) xs)) (sym c.deref.ensures.value) c.requires.between.2)
    ∙ ap₂ (λ ps xs. ps ++ map (λ c'. shifted shifts.Later c'.place) xs) c.in_ok-note_made.ensures c.deref.ensures.value in
    if_ok_more c.note_places-2.result c.note_places-2.ensures.places
    (λ _ h. h c.requires.behind.0 c.requires.behind.1 (subst (λ xs. AreFit g.C.CellRunner.covers c.requires.behind.0 (map (λ c'. fit_at c'.place (g.C.CellRunner.recorded c'.record.value) c'.word) xs)) (sym c.deref-2.ensures.value) c.requires.behind.2)
    ∙ ap₂ (λ ps xs. ps ++ map (λ c'. shifted shifts.Stays c'.place) xs) first c.deref-2.ensures.value)
