-- What the types of the code stand for among the definitions.
use Rattle.nd_model.specs.Arrays.Element as element
use Rattle.nd_model.specs.Arrays.View as view
use Rattle.std.specs.Prelude.{Option, Some, None, Result, Ok, Err}
use Rattle.nd_types.specs.declared.kind.Kind.{Kind}
use Rattle.nd_types.specs.declared.types.ElemType.{ElemType}
use Rattle.nd_types.specs.declared.types.ElemType.TheVariants.{One, Rec}
use Rattle.nd_types.specs.declared.promotion.FloatResult.{FloatResult}
use Rattle.nd_types.specs.Kinds.{kind_of}

abbrev pub type_of : ElemType → view.ElementType
type_of (One e) = view.One e
type_of (Rec r) = view.Structure r.value.0 r.value.1

-- the kind that a promotion gave, none where it was refused
abbrev pub kind_given : Result Kind FloatResult → Option element.Kind
kind_given (Ok k) = Some (kind_of k)
kind_given (Err e) = None
