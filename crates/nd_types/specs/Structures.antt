-- What a structure is made of.
use Rattle.std.specs.Prelude.{ℕ, List, Option, Some, None, if◌then◌else◌}
use Rattle.nd_model.specs.Arrays.View.{Field}
use Rattle.nd_model.specs.Arrays.Structure.{is_structure}

-- the structure of the fields and the size, none where they are none
abbrev pub made : List Field → ℕ → Option (List Field × ℕ)
made fields size = if is_structure fields size then Some (fields, size) else None
