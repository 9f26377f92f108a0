-- What is written so far goes on with the fields that are left.
use Rattle.std.proofs.Common.{◌≡◌, ◌++◌, drop, true}
use Rattle.nd_model.specs.Formats.NpyWriting as model
use Rattle.nd_types.specs.Fields.{fields_of}
use Rattle.nd_npy.specs.Writing.Items.{items_left}
use Rattle.nd_npy.proofs.writing.literal.push_fields.Given as goal

abbrev pub invariant-loop-field : goal.invariant-loop-field
invariant-loop-field l =
    l.out.items ++ items_left l.is_first (model.field_pairs l.place l.size (fields_of (drop l.field-index l.fields)))
    ≡ l.initial.out.items ++ items_left true (model.field_pairs 0 l.size (fields_of l.fields))
