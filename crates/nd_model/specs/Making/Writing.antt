-- Plain assignments: the bytes that are written, each with its place (NumPy user guide, "Assigning values to indexed arrays").
use Rattle.std.specs.Prelude.{ℕ, ◌==◌, nat_le, Bool, false, not, ◌||◌, List, [], ◌∷◌, length, Result, Ok, Err}
use Rattle.std.specs.Result.{result_unwrap_or}
use Rattle.nd_model.specs.Arrays.View.{ElementType, Geo}
use Rattle.nd_model.specs.Cells.Fault.{Fault, Ufunc, Stmt, ShapeMismatch, ReadOnly, NotNumbers, BadArgument}
use Rattle.nd_model.specs.Cells.Refusing.{◌>>=◌, when}
use Rattle.nd_model.specs.Making.Operand.{Operand, Plain, Elements, Chosen, AnElement, AView, ACopy, shape_of, contents_of}
use Rattle.nd_model.specs.Making.Creation.{operand_converts, operand_misfit, unless_misfit}
use Rattle.nd_model.specs.Making.Assigning.{value_shape, fits_into, assigned_writes}
use Rattle.nd_model.specs.Indexing.Advanced.{IndexItem, Mask}
use Rattle.nd_model.specs.Indexing.Index.{items_of}
use Rattle.nd_model.specs.Indexing.Viewing.{Viewing, Indexed, choose_of_first}

abbrev pub may_be_written : Operand → Bool
may_be_written (Plain n) = false
may_be_written (Elements row g cs) = g.writable

-- an element alone, as a view without axes
abbrev pub element_view : (writable : Bool) → ElementType → ℕ → Geo
element_view writable t p = record { element = t; shape = []; writable = writable; places = p ∷ [] }

-- what is written to: where a copy is chosen, the elements that it is made of
abbrev pub target_of : (writable : Bool) → Chosen → Result Geo Fault
target_of writable (AnElement t p) = Ok (element_view writable t p)
target_of writable (AView h) = Ok h
target_of writable (ACopy h) = Ok h
target_of writable c = Err (Stmt BadArgument)

-- the elements of a target get those of a value, or it is refused
abbrev pub assign_to : Geo → Operand → Result (List (ℕ × ℕ)) Fault
assign_to g v =
    when g.writable (Ufunc ReadOnly)
    (when (operand_converts v g.element) (Ufunc NotNumbers)
    (unless_misfit (operand_misfit g.element v)
    (when (fits_into (shape_of v) g.shape) (Ufunc ShapeMismatch)
    (Ok (assigned_writes g (value_shape (shape_of v) g.shape) (contents_of v))))))

-- one mask alone, which stands for all axes
abbrev pub is_full_mask : (axes : ℕ) → List IndexItem → Bool
is_full_mask axes (Mask shape bs ∷ []) = length shape == axes
is_full_mask axes is = false

-- the items of an index, if it has some and they are not refused
abbrev pub items_in : Viewing → List Operand → List IndexItem
items_in (Indexed forms) os = result_unwrap_or (items_of forms os) []
items_in w os = []

-- `t[..] = v`: the value, and then the target and what its index says. Through a mask of all axes a value has one axis at most
abbrev pub assignment_writes : Viewing → Operand → Operand → List Operand → Result (List (ℕ × ℕ)) Fault
assignment_writes w v t os = do
  c ← choose_of_first w t os
  g ← target_of (may_be_written t) c
  ws ← assign_to g v
  when (not (is_full_mask (length (shape_of t)) (items_in w os)) || nat_le (length (shape_of v)) 1) (Ufunc ShapeMismatch) (Ok ws)
