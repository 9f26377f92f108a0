use Rattle.std.proofs.Common.{arith}
use Rattle.std.proofs.lemmas.Grind.{common_steps}
use Rattle.nd_schedule.proofs.schedule.notebook.Schedule.run_between.Goals as goal

pub returns-clause-changed : goal.returns-clause-changed
returns-clause-changed g c = grind (arith, common_steps)

pub returns-clause-counts : goal.returns-clause-counts
returns-clause-counts g c = grind (arith, common_steps)

pub returns-clause-fit : goal.returns-clause-fit
returns-clause-fit g c = grind (arith, common_steps)

pub returns-clause-fresh : goal.returns-clause-fresh
returns-clause-fresh g c = grind (arith, common_steps)

pub returns-clause-made : goal.returns-clause-made
returns-clause-made g c = grind (arith, common_steps)

pub returns-clause-noted : goal.returns-clause-noted
returns-clause-noted g c = grind (arith, common_steps)

pub returns-clause-worded : goal.returns-clause-worded
returns-clause-worded g c = grind (arith, common_steps)

pub returns-in_err-grown-clause-counts : goal.returns-in_err-grown-clause-counts
returns-in_err-grown-clause-counts g c = grind (arith, common_steps)

pub returns-in_err-session-clause-counts : goal.returns-in_err-session-clause-counts
returns-in_err-session-clause-counts g c = grind (arith, common_steps)

pub swept_new-requires-clause-at : goal.swept_new-requires-clause-at
swept_new-requires-clause-at g c = grind (arith, common_steps)

pub swept_new-requires-clause-label : goal.swept_new-requires-clause-label
swept_new-requires-clause-label g c = grind (arith, common_steps)

pub swept_new-requires-clause-session : goal.swept_new-requires-clause-session
swept_new-requires-clause-session g c = grind (arith, common_steps)
