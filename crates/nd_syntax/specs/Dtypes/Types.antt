-- What the crate gives of a type that is written.
use Rattle.std.specs.Prelude.{◌≡◌, ℕ, Bool, true, ◌&&◌, List, [], ◌∷◌, Option, None, Some, Result, Ok, Err, Vec}
use Rattle.std.specs.Option.{is_some}
use Rattle.std.specs.Global.{Global}
use Rattle.nd_model.specs.Arrays.View as view
use Rattle.nd_model.specs.Cells.Fault as model
use Rattle.nd_model.specs.Grammar.Calls.{FieldType}
use Rattle.nd_model.specs.Arrays.Content.{fields_size}
use Rattle.nd_model.specs.Arrays.Types.{element_named}
use Rattle.nd_types.specs.declared.field.Field.{Field}
use Rattle.nd_types.specs.declared.types.ElemType.{ElemType}
use Rattle.nd_types.specs.Fields.{fields_of}
use Rattle.nd_types.specs.Types.{type_of}
use Rattle.nd_syntax.specs.declared.dtypes.fault.TypeFault.{TypeFault}
use Rattle.nd_syntax.specs.declared.dtypes.fault.TypeFault.TheVariants.{BadType, Memory}

-- the definition's type or refusal, unless memory ran out
abbrev pub Gives : Result ElemType TypeFault → Result view.ElementType model.Fault → Type 0
Gives (Ok t) r = r ≡ Ok (type_of t)
Gives (Err BadType) r = r ≡ Err (model.Stmt model.BadType)
Gives (Err (Memory m)) r = Unit {0}

-- the definition's fields with their bytes together, or its refusal, unless memory ran out
abbrev pub GivesFields : Result (Vec Field Global × ℕ) TypeFault → Option (List view.Field) → Type 0
GivesFields (Ok fs) o = (o ≡ Some (fields_of fs.0.items)) × (fs.1 ≡ fields_size (fields_of fs.0.items))
GivesFields (Err BadType) o = o ≡ None
GivesFields (Err (Memory m)) o = Unit {0}

-- each field has a type
abbrev pub are_all_named : List FieldType → Bool
are_all_named [] = true
are_all_named (f ∷ fs) = is_some (element_named f.type_name) && are_all_named fs
