-- The numbers of the elements of a view that are still to be taken, in order.
use Rattle.std.specs.Prelude.{ℤ, List}
use Rattle.nd_model.specs.Arrays.Element.{Kind}
use Rattle.nd_types.specs.Kinds.{kind_of}
use Rattle.nd_element.specs.Elements.{AreHeld, numbers_at}
use Rattle.nd_ufunc.specs.Loops.Sides.{Keeps}
use Rattle.nd_ufunc.specs.declared.loops.elements.Elements.TheInside.{Inside}

-- those, and the kind to which they are converted
pub record ElementsLeft : Type 0 where
  pub numbers : List ℤ
  pub kind : Kind

abbrev pub elements_left : Inside → ElementsLeft
elements_left e = record { numbers = numbers_at e.elem e.bytes.now e.walk; kind = kind_of e.kind }

-- each lies in the bytes, and is one of the kind to which they are converted
pub record AreElements (e : Inside) : Type 0 where
  pub held : AreHeld e.elem e.bytes.now e.walk
  pub keeps : Keeps e.elem.kind (kind_of e.kind)
