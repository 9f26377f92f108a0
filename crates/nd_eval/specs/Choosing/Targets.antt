-- What assignments write, and to what.
use Rattle.std.specs.Prelude.{◌≡◌, ℕ, ◌==◌, nat_le, Bool, true, false, not, ◌&&◌, ◌||◌, List, [], ◌∷◌, length, Result, Ok}
use Rattle.nd_model.specs.Making.Assigning.{assigned_writes, fits_into, value_shape}
use Rattle.nd_model.specs.Making.Creation.{operand_converts, operand_misfit, unless_misfit}
use Rattle.nd_model.specs.Arrays.Element.{Kind, Boolean}
use Rattle.nd_model.specs.Cells.Fault.{Fault, Ufunc, NotNumbers, ReadOnly, ShapeMismatch}
use Rattle.nd_model.specs.Cells.Refusing.{◌>>=◌, when}
use Rattle.nd_model.specs.Indexing.Viewing.{Viewing, choose_of_first}
use Rattle.nd_model.specs.Making.Writing.{may_be_written, target_of, is_full_mask, items_in}
use Rattle.nd_model.specs.Making.Operand.{Operand, Plain, Elements, shape_of, contents_of}
use Rattle.nd_model.specs.Cells.Sound.{LiesIn}
use Rattle.nd_model.specs.Arrays.View.{ElementType, One, Geo}
use Rattle.nd_heap.specs.declared.value.Value.TheVariants as value
use Rattle.nd_heap.specs.Values.{geo_of}
use Rattle.nd_eval.specs.declared.choosing.indexes.ItemValue.{ItemValue}
use Rattle.nd_eval.specs.declared.choosing.indexes.ItemValue.TheVariants.{At}
use Rattle.nd_eval.specs.declared.choosing.targets.Target.{Target}
use Rattle.nd_eval.specs.declared.choosing.targets.Target.TheVariants as target
use Rattle.nd_eval.specs.Choosing.Selections.{selected}

-- the bytes that these elements get of a value
abbrev pub writes_to : Geo → Operand → List (ℕ × ℕ)
writes_to g v = assigned_writes g (value_shape (shape_of v) g.shape) (contents_of v)

-- elements take a value, or it is refused. Through one mask of all axes a value has one axis at most
abbrev pub may_take : (is_masked : Bool) → Geo → Operand → Result Geo Fault
may_take is_masked g v =
    when g.writable (Ufunc ReadOnly)
    (when (operand_converts v g.element) (Ufunc NotNumbers)
    (unless_misfit (operand_misfit g.element v)
    (when (fits_into (shape_of v) g.shape) (Ufunc ShapeMismatch)
    (when (not is_masked || nat_le (length (shape_of v)) 1) (Ufunc ShapeMismatch) (Ok g)))))

-- the elements that a value is assigned to: the target and what its index says choose them
abbrev pub target_by : Viewing → (v t : Operand) → List Operand → Result Geo Fault
target_by w v t os = do
  c ← choose_of_first w t os
  g ← target_of (may_be_written t) c
  may_take (is_full_mask (length (shape_of t)) (items_in w os)) g v

-- the elements that are written to
abbrev pub geo_in : Target → Geo
geo_in (target.View v) = v
geo_in (target.Elements s) = selected s

-- where there is an array among the items, it is chosen of this operand
abbrev pub IsChosenOf : (is_advanced : Bool) → Operand → Target → Type 0
IsChosenOf false o t = Unit {0}
IsChosenOf true (Plain n) t = Unit {0}
IsChosenOf true (Elements row g cs) (target.View v) = ⊥
IsChosenOf true (Elements row g cs) (target.Elements s) = s.view ≡ g

-- an operand that is an array or a row in so many bytes
abbrev pub Lies : (len : ℕ) → Operand → Type 0
Lies len (Plain n) = ⊥
Lies len (Elements row g cs) = LiesIn len g

-- ---- one mask that stands for all axes

abbrev pub is_boolean : Kind → Bool
is_boolean Boolean = true
is_boolean k = false

abbrev pub mask_of : (axes : ℕ) → ElementType → (shape : List ℕ) → Bool
mask_of axes (One e) (n ∷ shape) = is_boolean e.kind && length (n ∷ shape) == axes
mask_of axes t shape = false

-- a mask of so many axes
abbrev pub is_mask : (axes : ℕ) → Geo → Bool
is_mask axes g = mask_of axes g.element g.shape

abbrev pub is_lone_mask : (axes : ℕ) → List ItemValue → Bool
is_lone_mask axes (At (value.Array a) ∷ []) = is_mask axes (geo_of a)
is_lone_mask axes xs = false
