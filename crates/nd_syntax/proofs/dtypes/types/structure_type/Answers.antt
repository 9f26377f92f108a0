use Rattle.std.proofs.Common.{map, arith, sym, ◌∙◌}
use Rattle.std.proofs.lemmas.List.{length-map}
use Rattle.nd_syntax.specs.Trees.Calls.{field_type_of}
use Rattle.nd_syntax.proofs.dtypes.InOrder.{no_fields, too_many}
use Rattle.nd_syntax.proofs.dtypes.types.structure_type.Goals as goal

pub returns-then-types-gt-MOST_FIELDS : goal.returns-then-types-gt-MOST_FIELDS
returns-then-types-gt-MOST_FIELDS c =
    too_many (map field_type_of c.args.types.now) (omega (arith, length-map c.args.types.now field_type_of, c.if-types-gt-MOST_FIELDS.true))

pub returns-then-not-are_named : goal.returns-then-not-are_named
returns-then-not-are_named c = no_fields (map field_type_of c.args.types.now) (sym c.are_named.ensures ∙ c.if-not-are_named.true)
