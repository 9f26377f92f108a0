use Rattle.std.proofs.Common.{◌≡◌, take}
use Rattle.nd_types.specs.Fields.{fields_of}
use Rattle.nd_print.specs.Columns.{least_columns}
use Rattle.nd_print.proofs.columns.columns_of_fields.Given as goal

abbrev pub invariant-loop-field : goal.invariant-loop-field
invariant-loop-field l = l.columns.items ≡ least_columns l.is_padded (fields_of (take l.field-index l.fields))
