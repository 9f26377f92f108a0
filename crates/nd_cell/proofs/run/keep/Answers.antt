use Rattle.std.proofs.Common.{◌∙◌, sym, ap, option_map}
use Rattle.nd_model.specs.Cells.Cell.{with_save}
use Rattle.nd_cell.specs.Results.{saved_of, saves_of}
use Rattle.nd_cell.proofs.Lines.{saves-insert}
use Rattle.nd_cell.proofs.run.keep.Goals as goal

pub returns-in_ok-insert : goal.returns-in_ok-insert
returns-in_ok-insert c =
    ap saves_of c.in_ok-insert.ensures.entries
    ∙ saves-insert c.in-Some.name c.in-Some.file c.args.saves.now.entries
    ∙ ap (λ o. with_save (option_map saved_of o) (saves_of c.args.saves.now.entries)) (sym c.in-Some.is)
