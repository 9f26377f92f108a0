use Rattle.std.proofs.Common.{ℕ, List, Some, option_map, Vec, Global, Bor, sym, ap, ◌∙◌}
use Rattle.nd_cell.proofs.Lines.{saves_found}
use Rattle.nd_cell.proofs.result.CellResult.file.Goals as goal

pub returns-in_err-file : goal.returns-in_err-file
returns-in_err-file c =
    ap (option_map (λ (f : Bor (List ℕ)). f.now)) c.from_residual.ensures
    ∙ ap (option_map (λ (f : Vec ℕ Global). f.items)) c.in_err-file.ensures.value ∙ sym (saves_found c.args.name.now c.args.self.now.saves.entries)

pub returns : goal.returns
returns c =
    ap Some c.as_slice.ensures.value
    ∙ ap (option_map (λ (f : Vec ℕ Global). f.items)) c.in_ok-file.ensures.value ∙ sym (saves_found c.args.name.now c.args.self.now.saves.entries)
