use Rattle.std.proofs.Common.{◌≡◌, ◌++◌, take}
use Rattle.nd_model.specs.Arrays.View.{field_places}
use Rattle.nd_types.specs.Fields.{fields_of}
use Rattle.nd_view.proofs.elements.push_fields.Given as goal

abbrev pub invariant-loop-field : goal.invariant-loop-field
invariant-loop-field l = l.places.items ≡ l.initial.places.items ++ field_places l.place (fields_of (take l.field-index l.fields))
