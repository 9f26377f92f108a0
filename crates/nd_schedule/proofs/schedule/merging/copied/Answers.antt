use Rattle.nd_schedule.proofs.schedule.merging.copied.Goals as goal

pub returns : goal.returns
returns g c = λ old new run front. c.in_ok-copy_front.ensures old new run front (c.in_ok-merged.ensures old new)
