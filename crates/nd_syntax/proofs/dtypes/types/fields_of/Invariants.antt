use Rattle.std.proofs.Common.{◌≡◌, ◌*◌, ◌≤◌, map, drop}
use Rattle.nd_model.specs.Arrays.Content.{fields_size}
use Rattle.nd_model.specs.Arrays.Types.{fields_from}
use Rattle.nd_syntax.specs.Trees.Calls.{field_type_of}
use Rattle.nd_types.specs.Fields.{fields_of}
use Rattle.nd_syntax.proofs.dtypes.InOrder.{onto}
use Rattle.nd_syntax.proofs.dtypes.types.fields_of.Given as goal

abbrev pub invariant-loop-field : goal.invariant-loop-field
invariant-loop-field l = record {
  same : fields_from 0 (map field_type_of l.fn.types) ≡ onto (fields_of l.fields.items) (fields_from l.at (map field_type_of (drop l.field-index l.types)));
  size : l.at ≡ fields_size (fields_of l.fields.items);
  small : l.at ≤ 8 * l.field-index;
}
