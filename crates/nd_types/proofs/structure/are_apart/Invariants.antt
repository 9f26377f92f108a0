use Rattle.std.proofs.Common.{◌≡◌, drop}
use Rattle.nd_model.specs.Arrays.Structure as structure
use Rattle.nd_types.specs.Fields.{fields_of}
use Rattle.nd_types.proofs.structure.are_apart.Given as goal

abbrev pub invariant-loop-field : goal.invariant-loop-field
invariant-loop-field l = structure.are_apart l.place (fields_of (drop l.field-index l.fields)) l.size ≡ structure.are_apart 0 (fields_of l.fields) l.size
