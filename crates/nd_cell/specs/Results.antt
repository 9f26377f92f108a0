-- The results of cells as the definitions have them.
use Rattle.std.specs.Prelude.{ℕ, List, [], ◌∷◌, Option, None, Some, option_map, String, string_bytes, Vec}
use Rattle.std.proofs.Common.{Global}
use Rattle.nd_model.specs.Cells.Running.{Running}
use Rattle.nd_model.specs.Cells.Fault as model
use Rattle.nd_model.specs.Cells.Cell.{Saved, Ended}
use Rattle.nd_syntax.specs.Trees.Syntax.{kind_of}
use Rattle.nd_eval.specs.Faults.{fault_of}
use Rattle.nd_cell.specs.declared.result.CellFault.{CellFault}
use Rattle.nd_cell.specs.declared.result.CellFault.TheVariants.{Parse, Statement}
use Rattle.nd_cell.specs.declared.result.Refusal.{Refusal}
use Rattle.nd_cell.specs.declared.result.CellResult.{CellResult}

abbrev pub cell_fault_of : CellFault → model.Refusal
cell_fault_of (Parse k c) = model.Parse (kind_of k) c
cell_fault_of (Statement f) = model.Statement (fault_of f)

-- the line and the fault
abbrev pub refusal_of : Refusal → ℕ × model.Refusal
refusal_of r = (r.line, cell_fault_of r.fault)

-- a file with its name
abbrev pub saved_of : String Global × Vec ℕ Global → List ℕ × List ℕ
saved_of f = (string_bytes f.0, f.1.items)

abbrev pub saves_of : List (String Global × Vec ℕ Global) → Saved
saves_of [] = []
saves_of (e ∷ es) = saved_of e ∷ saves_of es

abbrev pub ended_of : CellResult → Running → Ended
ended_of c r = record { text = string_bytes c.text; refusal = option_map refusal_of c.refusal; saves = saves_of c.saves.entries; running = r }

-- how a cell goes on behind a line: by what comes after it, or to its end where the line is refused
abbrev pub after_line : Option Refusal → List ℕ → Saved → Running → (List ℕ → Saved → Running → Ended) → Ended
after_line None text saves r rest = rest text saves r
after_line (Some f) text saves r rest = record { text = text; refusal = Some (refusal_of f); saves = saves; running = r }
