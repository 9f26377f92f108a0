-- What the values of the code stand for among the definitions.
use Rattle.std.specs.Prelude.{ℕ, List}
use Rattle.std.specs.declared.rc.Rc.{Rc}
use Rattle.std.specs.declared.rc.RcStr.{RcStr}
use Rattle.std.proofs.Common.{Global}
use Rattle.nd_model.specs.Cells.Session.{lookup}
use Rattle.nd_model.specs.Cells.Running as running
use Rattle.nd_input.specs.declared.Input.{Input}
use Rattle.nd_input.specs.Sources.{source_of}
use Rattle.nd_session.specs.declared.inputs.rule.CellRule.{CellRule}
use Rattle.nd_session.specs.declared.inputs.rule.CellRule.TheVariants.{Python, Atomic}
use Rattle.nd_heap.specs.Values.{entries_of}

-- the inputs with their names
abbrev pub given_of : List (RcStr Global × Rc Input Global) → List (List ℕ × running.Source)
given_of es = entries_of (λ (i : Rc Input Global). source_of i.value) es

-- the inputs by name
abbrev pub inputs_of : List (RcStr Global × Rc Input Global) → running.Inputs
inputs_of es name = lookup name (given_of es)

abbrev pub rule_of : CellRule → running.Rule
rule_of Python = running.Python
rule_of Atomic = running.Atomic

-- what cells are run by
abbrev pub world_of : running.Inputs → CellRule → running.World
world_of i rule = record { inputs = i; rule = rule_of rule }
