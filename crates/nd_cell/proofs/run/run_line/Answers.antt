use Rattle.std.proofs.Common.{◌∙◌, ap, string_bytes}
use Rattle.nd_model.specs.Cells.Cell.{statement}
use Rattle.nd_syntax.specs.Trees.Syntax.{stmt_of}
use Rattle.nd_session.specs.Inputs.Values.{inputs_of}
use Rattle.nd_session.specs.Session.Live.{live}
use Rattle.nd_eval.specs.Done.{outcome_of, output_of}
use Rattle.nd_cell.specs.Results.{saves_of}
use Rattle.nd_cell.proofs.Lines.{limited_line, limited_output}
use Rattle.nd_cell.proofs.run.run_line.Goals as goal

pub returns-in-Err-clause-meaning : goal.returns-in-Err-clause-meaning
returns-in-Err-clause-meaning c =
    limited_line c.args.line.now.line (string_bytes c.args.text.now) (saves_of c.args.saves.now.entries)
    (statement (inputs_of c.args.inputs.now.entries) (stmt_of c.args.line.now.stmt) (live c.args.session.now)) _ (live c.run_stmt.new.session)
    (c.in_ok-output.ensures.meaning ∙ ap (λ o. (outcome_of o, live c.run_stmt.new.session)) c.in-Err.is)

pub returns-in-Ok-clause-meaning : goal.returns-in-Ok-clause-meaning
returns-in-Ok-clause-meaning c =
    limited_output c.args.line.now.line (string_bytes c.args.text.now) (string_bytes c.add_output.new.text)
    (saves_of c.args.saves.now.entries) (saves_of c.add_output.new.saves.entries)
    (statement (inputs_of c.args.inputs.now.entries) (stmt_of c.args.line.now.stmt) (live c.args.session.now)) (output_of c.in-Ok.output)
    (live c.run_stmt.new.session) c.add_output.result
    (c.in_ok-output.ensures.meaning ∙ ap (λ o. (outcome_of o, live c.run_stmt.new.session)) c.in-Ok.is) c.add_output.ensures
