use Rattle.std.proofs.Common.{◌≡◌, drop}
use Rattle.nd_model.specs.Arrays.Structure as structure
use Rattle.nd_types.specs.Fields.{fields_of}
use Rattle.nd_types.proofs.structure.has_name.Given as goal

abbrev pub invariant-loop-field : goal.invariant-loop-field
invariant-loop-field l = structure.has_name l.name (fields_of (drop l.field-index l.fields)) ≡ structure.has_name l.name (fields_of l.fields)
