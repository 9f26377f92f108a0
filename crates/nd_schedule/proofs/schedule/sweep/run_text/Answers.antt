use Rattle.std.proofs.Common.{◌+◌, ◌-◌, ◌^◌, min, ap, ◌∙◌}
use Rattle.nd_schedule.proofs.schedule.sweep.run_text.Goals as goal

pub returns-clause-counted : goal.returns-clause-counted
returns-clause-counted g c = c.end.ensures ∙ c.run-made.ensures.counted ∙ ap (λ n. min (n + 1) (2 ^ 64 - 1)) c.begin-began.ensures
