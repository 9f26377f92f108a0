-- Inputs that are read from files.
use Rattle.std.specs.Prelude.{◌≡◌, ℕ, List}
use Rattle.nd_model.specs.Cells.Running.{Source, Npy}

-- The input is an NPY file of some bytes.
abbrev pub IsNpy : Source → Type 0
IsNpy source = (bytes : List ℕ) × (source ≡ Npy bytes)
