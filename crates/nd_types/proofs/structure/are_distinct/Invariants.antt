use Rattle.std.proofs.Common.{◌≡◌, drop}
use Rattle.nd_model.specs.Arrays.Structure as structure
use Rattle.nd_types.specs.Fields.{fields_of}
use Rattle.nd_types.proofs.structure.are_distinct.Given as goal

abbrev pub invariant-loop-index : goal.invariant-loop-index
invariant-loop-index l = structure.are_distinct (fields_of (drop l.index l.fields)) ≡ structure.are_distinct (fields_of l.fields)
