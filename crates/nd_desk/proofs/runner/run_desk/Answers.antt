use Rattle.std.proofs.Common.{rules}
use Rattle.nd_desk.proofs.Runs.{some_ok, some_err}
use Rattle.nd_desk.proofs.runner.run_desk.Goals as goal

pub returns-clause-to_end : goal.returns-clause-to_end
returns-clause-to_end g c = some_ok c.run_lines.result _ c.run_lines.new.answerer.ran.now.items (search rules)

pub returns-clause-stopped : goal.returns-clause-stopped
returns-clause-stopped g c = some_err c.run_lines.result _ c.run_lines.new.answerer.ran.now.items (search rules)
