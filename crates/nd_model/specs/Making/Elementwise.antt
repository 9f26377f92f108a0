-- NumPy's operators on arrays, element by element (NumPy user guide, "Broadcasting"; NEP 50): the kind of the result is that of the
-- kinds of both, the shape is the common one, and each number is the operator's of the numbers at its tuple, wrapped to the kind.
use Rattle.std.specs.Prelude.{ℕ, ℤ, Bool, false, not, ◌||◌, if◌then◌else◌, List, Option, Some, None, Result, Ok, Err}
use Rattle.std.specs.List.{list_any}
use Rattle.nd_model.specs.Arrays.Element.{Kind, Element, Boolean, wrap}
use Rattle.nd_model.specs.Arrays.Tuple.{indices}
use Rattle.nd_model.specs.Arrays.View.{ElementType, One, Structure}
use Rattle.nd_model.specs.Arrays.Content.{number_in}
use Rattle.nd_model.specs.Grammar.Syntax.{Negative, Invert, BinaryOp}
use Rattle.nd_model.specs.Cells.Fault.{Fault, Ufunc, NotNumbers, BoolOp, ShapeMismatch, NegativePower}
use Rattle.nd_model.specs.Cells.Refusing.{◌>>=◌, when}
use Rattle.nd_model.specs.Making.Operand.{Operand, Plain, Elements, Made, truth_number, shape_of, content_of, made_of}
use Rattle.nd_model.specs.Making.Operators.{BinaryUfunc, Operator, Single, Of, Sort, OfKind, sort_of, result_kind, is_power_below, is_zero, is_scalar, exact, exact_single, of_numbers, of_scalars, of_numpy, of_number, numpy_number}
use Rattle.nd_model.specs.Arrays.Broadcast.{broadcast, own_tuple, in_limits}

-- numbers of one kind, one at each index tuple of a shape
pub record Numbers : Type 0 where
  pub kind : Kind
  pub shape : List ℕ
  pub number : List ℕ → ℤ

-- the elements of a new array
abbrev pub little : Kind → Element
little k = record { kind = k; big = false }

-- what an operand counts as beside another; a structure is no number
abbrev pub element_sort : ElementType → Option Sort
element_sort (One e) = Some (OfKind e.kind)
element_sort (Structure fields size) = None

abbrev pub operand_sort : Operand → Option Sort
operand_sort (Plain n) = Some (sort_of n)
operand_sort (Elements row g cs) = element_sort g.element

-- the number of an operand that stands at an index tuple of the common shape
abbrev pub number_beside : Operand → List ℕ → ℤ
number_beside o t = number_in (content_of o (own_tuple (shape_of o) t))

-- ---- of two operands

abbrev pub binary_kind : BinaryUfunc → Option Sort → Option Sort → Result Kind Fault
binary_kind f (Some a) (Some b) = result_kind f a b
binary_kind f _ _ = Err (Ufunc NotNumbers)

abbrev pub common_shape : Option (List ℕ) → Result (List ℕ) Fault
common_shape None = Err (Ufunc ShapeMismatch)
common_shape (Some shape) = Ok shape

-- some exponent of a result is below zero
abbrev pub has_power_below : BinaryUfunc → Operand → (shape : List ℕ) → Bool
has_power_below f y shape = list_any (λ t. is_power_below f (number_beside y t)) (indices shape)

abbrev pub binary_number : Kind → BinaryUfunc → Operand → Operand → List ℕ → ℤ
binary_number k f x y t = wrap k (exact k f (number_beside x t) (number_beside y t))

-- `x op y`, `np.minimum(x, y)`, `np.maximum(x, y)`
abbrev pub binary_numbers : BinaryUfunc → Operand → Operand → Result Numbers Fault
binary_numbers f x y = do
  k ← binary_kind f (operand_sort x) (operand_sort y)
  shape ← common_shape (broadcast (shape_of x) (shape_of y))
  in_limits (One (little k)) shape
      (when (not (has_power_below f y shape)) (Ufunc NegativePower)
      (Ok (record { kind = k; shape = shape; number = binary_number k f x y })))

-- ---- of one operand

abbrev pub single_kind : Single → Option Sort → Result Kind Fault
single_kind (Of Negative) (Some (OfKind Boolean)) = Err (Ufunc BoolOp)
single_kind op (Some (OfKind k)) = Ok k
single_kind op _ = Err (Ufunc NotNumbers)

-- `~` of a Boolean is its contrary
abbrev pub single_number : Single → Kind → ℤ → ℤ
single_number (Of Invert) Boolean z = truth_number (is_zero z)
single_number op k z = wrap k (exact_single op z)

-- `-x`, `~x`, `abs(x)`, `np.abs(x)`
abbrev pub single_numbers : Single → Operand → Result Numbers Fault
single_numbers op x = do
  k ← single_kind op (operand_sort x)
  in_limits (One (little k)) (shape_of x)
      (Ok (record { kind = k; shape = shape_of x; number = λ t. single_number op k (number_in (content_of x t)) }))

-- ---- what operators make: of numbers alone a number, and else an array, or a number where there are no axes

abbrev pub numbers_made : Result Numbers Fault → Result Made Fault
numbers_made (Ok n) = Ok (made_of n.kind n.shape n.number)
numbers_made (Err f) = Err f

-- `x op y`
abbrev pub binary : BinaryOp → Operand → Operand → Result Made Fault
binary op (Plain a) (Plain b) = of_numbers op a b
binary op x y = numbers_made (binary_numbers (Operator op) x y)

-- `np.minimum(x, y)`, `np.maximum(x, y)`
abbrev pub call_binary : BinaryUfunc → Operand → Operand → Result Made Fault
call_binary f (Plain a) (Plain b) = if is_scalar a || is_scalar b then of_scalars f a b else of_numpy f a b
call_binary f x y = numbers_made (binary_numbers f x y)

-- `-x`, `~x`, `abs(x)`
abbrev pub single : Single → Operand → Result Made Fault
single op (Plain n) = of_number op n
single op x = numbers_made (single_numbers op x)

-- `np.abs(x)`
abbrev pub call_single : Single → Operand → Result Made Fault
call_single op (Plain n) = numpy_number n >>= of_number op
call_single op x = numbers_made (single_numbers op x)
