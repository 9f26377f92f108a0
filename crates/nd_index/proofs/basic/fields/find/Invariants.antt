use Rattle.std.proofs.Common.{◌≡◌, drop}
use Rattle.nd_model.specs.Indexing.Selecting.{field_in}
use Rattle.nd_types.specs.Fields.{fields_of}
use Rattle.nd_index.proofs.basic.fields.find.Given as goal

abbrev pub invariant-loop-field : goal.invariant-loop-field
invariant-loop-field l = field_in l.name (fields_of l.fields) ≡ field_in l.name (fields_of (drop l.field-index l.fields))
