use Rattle.std.proofs.Common.{◌≡◌, map, drop}
use Rattle.nd_syntax.specs.Trees.Calls.{field_type_of}
use Rattle.nd_syntax.specs.Dtypes.Types.{are_all_named}
use Rattle.nd_syntax.proofs.dtypes.types.are_named.Given as goal

abbrev pub invariant-loop-field : goal.invariant-loop-field
invariant-loop-field l = are_all_named (map field_type_of (drop l.field-index l.types)) ≡ are_all_named (map field_type_of l.types)
