use Rattle.nd_script.specs.Lines.Run.{run_fault_of}
use Rattle.nd_commands.proofs.Beginnings.{ok_then, err_then, ran, stopped, counted, counted_stop}
use Rattle.nd_commands.proofs.runner.run_script.Goals as goal

pub returns-clause-to_end : goal.returns-clause-to_end
returns-clause-to_end g c = ok_then c.run-ended.result (ran _ _ _ _ _ _ c.new-notebook.ensures) c.run-ended.ensures.to_end

pub returns-clause-stopped : goal.returns-clause-stopped
returns-clause-stopped g c = err_then c.run-ended.result (λ f. stopped _ _ _ _ _ _ c.new-notebook.ensures (run_fault_of f)) c.run-ended.ensures.stopped

pub returns-clause-counted : goal.returns-clause-counted
returns-clause-counted g c = ok_then c.run-ended.result (counted _ _ _ _ _ _ c.new-notebook.ensures _ _) c.run-ended.ensures.counted

pub returns-clause-counted_stop : goal.returns-clause-counted_stop
returns-clause-counted_stop g c = err_then c.run-ended.result (λ f. counted_stop _ _ _ _ _ _ c.new-notebook.ensures (run_fault_of f) _ _) c.run-ended.ensures.counted_stop
