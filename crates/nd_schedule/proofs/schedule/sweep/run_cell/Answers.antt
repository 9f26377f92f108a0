use Rattle.std.proofs.Common.{sym, ap, subst, ◌∙◌}
use Rattle.nd_model.specs.Grammar.Reading.{reading}
use Rattle.nd_model.specs.Cells.Cell.{cell, session_after}
use Rattle.nd_model.specs.Book.Notebook.{world_in}
use Rattle.nd_model.specs.Book.Records.{record_of}
use Rattle.nd_change.specs.Steps.{IsWordOf}
use Rattle.nd_schedule.proofs.schedule.sweep.run_cell.Goals as goal

pub returns-clause-after : goal.returns-clause-after
returns-clause-after g c =
    c.in_ok-made.ensures.after ∙ ap (λ t. session_after (cell c.args.source.now.label (reading t) (world_in (g.C.CellRunner.given c.args.world.now)) (g.C.CellRunner.session_of c.args.session.now))) c.as_str-text.ensures.value

pub returns-clause-made : goal.returns-clause-made
returns-clause-made g c =
    ap g.C.CellRunner.recorded c.in_ok-record.ensures.ok ∙ c.in_ok-made.ensures.made
    ∙ ap (λ t. record_of c.args.source.now.label (reading t) (world_in (g.C.CellRunner.given c.args.world.now)) (g.C.CellRunner.session_of c.args.session.now)) c.as_str-text.ensures.value

pub returns-clause-worded : goal.returns-clause-worded
returns-clause-worded g c = subst (λ r. IsWordOf g.C.CellRunner.covers c.word-word.result (g.C.CellRunner.recorded r)) (sym c.in_ok-record.ensures.ok) c.word-word.ensures

pub returns-clause-counted : goal.returns-clause-counted
returns-clause-counted g c = c.run_text.ensures.counted

pub returns-in_err-made-clause-counted : goal.returns-in_err-made-clause-counted
returns-in_err-made-clause-counted g c = c.run_text.ensures.counted

pub returns-in_err-record-clause-counted : goal.returns-in_err-record-clause-counted
returns-in_err-record-clause-counted g c = c.run_text.ensures.counted
