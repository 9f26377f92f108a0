use Rattle.std.proofs.Common.{arith}
use Rattle.std.proofs.lemmas.Grind.{common_steps}
use Rattle.nd_schedule.proofs.schedule.notebook.Schedule.insert.Goals as goal

pub append-requires-clause-label : goal.append-requires-clause-label
append-requires-clause-label g c = grind (arith, common_steps)

pub append-requires-clause-next : goal.append-requires-clause-next
append-requires-clause-next g c = grind (arith, common_steps)

pub insert_between-requires-clause-at : goal.insert_between-requires-clause-at
insert_between-requires-clause-at g c = grind (arith, common_steps)

pub insert_between-requires-clause-label : goal.insert_between-requires-clause-label
insert_between-requires-clause-label g c = grind (arith, common_steps)

pub insert_between-requires-clause-next : goal.insert_between-requires-clause-next
insert_between-requires-clause-next g c = grind (arith, common_steps)

pub returns-clause-counts : goal.returns-clause-counts
returns-clause-counts g c = grind (arith, common_steps)

pub returns-clause-err : goal.returns-clause-err
returns-clause-err g c = grind (arith, common_steps)

pub returns-clause-ok : goal.returns-clause-ok
returns-clause-ok g c = grind (arith, common_steps)

pub returns-in_err-cell-clause-counts : goal.returns-in_err-cell-clause-counts
returns-in_err-cell-clause-counts g c = grind (arith, common_steps)

pub returns-in_err-cell-clause-err : goal.returns-in_err-cell-clause-err
returns-in_err-cell-clause-err g c = grind (arith, common_steps)

pub returns-then-at-len-clause-counts : goal.returns-then-at-len-clause-counts
returns-then-at-len-clause-counts g c = grind (arith, common_steps)

pub returns-then-at-len-clause-err : goal.returns-then-at-len-clause-err
returns-then-at-len-clause-err g c = grind (arith, common_steps)

pub returns-then-at-len-clause-ok : goal.returns-then-at-len-clause-ok
returns-then-at-len-clause-ok g c = grind (arith, common_steps)

pub returns-clause-ran : goal.returns-clause-ran
returns-clause-ran g c = grind (arith, common_steps)

pub returns-then-at-len-clause-ran : goal.returns-then-at-len-clause-ran
returns-then-at-len-clause-ran g c = grind (arith, common_steps)
