-- What contracts see of a session while a cell runs: plain data.
use Rattle.std.specs.Prelude.{ℕ, List}
use Rattle.nd_model.specs.Arrays.Value.{Base, Value}
use Rattle.nd_model.specs.Cells.Running.{Event}
use Rattle.nd_marks.specs.Marks.{Places}

pub record State : Type 0 where
  pub names : List (List ℕ × Value)
  pub blocks : List (Base × List ℕ)
  pub label : ℕ
  pub next : ℕ
  pub events : List Event
  -- the bytes that are written; the names and inputs, and the lengths and bytes of bases, that are read
  pub written : List (Base × Places)
  pub looked : List (List ℕ)
  pub asked : List (List ℕ)
  pub lengths : List Base
  pub used : List (Base × Places)
  -- how many bindings can be noted without memory
  pub room : ℕ
