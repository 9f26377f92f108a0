-- Which fields of the definitions the fields of the code are.
use Rattle.std.specs.Prelude.{List, map, string_bytes}
use Rattle.nd_model.specs.Arrays.View as view
use Rattle.nd_types.specs.declared.field.Field.{Field}

abbrev pub field_of : Field → view.Field
field_of f = record { name = string_bytes f.name; at = f.at; element = f.elem }

abbrev pub fields_of : List Field → List view.Field
fields_of fs = map field_of fs
