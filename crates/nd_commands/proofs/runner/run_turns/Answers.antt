use Rattle.std.proofs.Common.{rules}
use Rattle.nd_commands.proofs.Plain.{plain_fault, plain_result}
use Rattle.nd_commands.proofs.runner.run_turns.Goals as goal

pub returns-clause-counted : goal.returns-clause-counted
returns-clause-counted g c = search rules

pub returns-clause-counted_stop : goal.returns-clause-counted_stop
returns-clause-counted_stop g c = search rules

pub returns-clause-to_end : goal.returns-clause-to_end
returns-clause-to_end g c = plain_result c.run_lines.result _ _ _ _ _ _ (returns-clause-counted g c)

pub returns-clause-stopped : goal.returns-clause-stopped
returns-clause-stopped g c = plain_fault c.run_lines.result _ _ _ _ _ _ (returns-clause-counted_stop g c)
