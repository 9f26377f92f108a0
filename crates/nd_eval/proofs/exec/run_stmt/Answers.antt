use Rattle.std.proofs.Common.{◌∙◌, ap, ap₂, sym, Result, Ok}
use Rattle.nd_model.specs.Cells.Meaning.{meaning}
use Rattle.nd_model.specs.Cells.Evaluation.{run}
use Rattle.nd_model.specs.Cells.Running.{Running, Effect, Output}
use Rattle.nd_model.specs.Cells.Cell.{had}
use Rattle.nd_model.specs.Cells.Fault.{Fault}
use Rattle.nd_syntax.specs.Trees.Syntax.{stmt_of}
use Rattle.nd_session.specs.Inputs.Values.{inputs_of}
use Rattle.nd_session.specs.Session.Live.{live}
use Rattle.nd_eval.specs.Effects.{effect_of}
use Rattle.nd_eval.proofs.Bounds.{next_done, next_ended}
use Rattle.nd_eval.proofs.Lines.{limit_had, limit_given, limit_session}
use Rattle.nd_eval.proofs.exec.run_stmt.Goals as goal

pub do_effect-requires : goal.do_effect-requires
do_effect-requires c = c.in-Ok.ensures.ready

pub returns-in_ok-do_effect-in-Ok-clause-numbers : goal.returns-in_ok-do_effect-in-Ok-clause-numbers
returns-in_ok-do_effect-in-Ok-clause-numbers c =
    let i = inputs_of c.args.inputs.now.entries in
    let t = stmt_of c.args.stmt.now in
    let e = effect_of (live c.evaluate_stmt.new.session).bytes c.in-Ok.effect in
    next_done i t e (live c.args.session.now) _ _ (limit_given (run i (meaning t) (live c.args.session.now)) e _ c.in-Ok.ensures.effect) c.in_ok-do_effect-in-Ok.ensures.done

pub returns-in-Err-Refused-clause-numbers : goal.returns-in-Err-Refused-clause-numbers
returns-in-Err-Refused-clause-numbers c =
    let i = inputs_of c.args.inputs.now.entries in
    let t = stmt_of c.args.stmt.now in
    let m = run i (meaning t) (live c.args.session.now) in
    let same = sym (limit_session m) ∙ ap (λ (o : Result Effect Fault × Running). o.1) (rw c.in-Err-Refused.field-0-is at c.in-Err-Refused.ensures.effect) in
    next_ended i t (live c.args.session.now) _ same

pub returns-in_ok-do_effect-in-Ok-clause-meaning : goal.returns-in_ok-do_effect-in-Ok-clause-meaning
returns-in_ok-do_effect-in-Ok-clause-meaning c =
    let m = run (inputs_of c.args.inputs.now.entries) (meaning (stmt_of c.args.stmt.now)) (live c.args.session.now) in
    limit_had m ∙ ap had c.in-Ok.ensures.effect
    ∙ ap₂ (λ (o : Output) (s : Running). (Ok o, s)) (sym c.in_ok-do_effect-in-Ok.ensures.output) (sym c.in_ok-do_effect-in-Ok.ensures.done)

pub returns-in-Err-Refused-clause-meaning : goal.returns-in-Err-Refused-clause-meaning
returns-in-Err-Refused-clause-meaning c =
    let m = run (inputs_of c.args.inputs.now.entries) (meaning (stmt_of c.args.stmt.now)) (live c.args.session.now) in
    limit_had m ∙ ap had (rw c.in-Err-Refused.field-0-is at c.in-Err-Refused.ensures.effect)
