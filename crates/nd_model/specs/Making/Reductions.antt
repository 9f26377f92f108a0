-- Reductions and accumulations (NumPy reference, `ufunc.reduce`, `ufunc.accumulate`, `numpy.argmax`): the fold of the numbers along an
-- axis, or of all in C order; and the folds of the first ones, of the first two, and so on.
use Rattle.std.specs.Prelude.{ℕ, zero, suc, ◌+◌, ◌==◌, ℤ, pos, neg_ℤ, ◌+ℤ◌, ◌*ℤ◌, int_le, int_lt, unsigned_abs, Bool, true, false, not, ◌&&◌, ◌||◌, if◌then◌else◌, List, [], ◌∷◌, ◌++◌, map, length, take, drop, slice_index, Option, Some, None, Result, Ok, Err}
use Rattle.std.specs.List.{fold, list_any, list_all}
use Rattle.nd_model.specs.Arrays.Element.{Kind, Boolean, Int64, UInt8, UInt16, UInt32, UInt64, wrap}
use Rattle.nd_model.specs.Arrays.Tuple.{count_up, elements_of, first_index}
use Rattle.nd_model.specs.Arrays.View.{One}
use Rattle.nd_model.specs.Arrays.Content.{number_in}
use Rattle.nd_model.specs.Grammar.Calls.{Ufunc, Add, Multiply, Minimum, Maximum, Reduction, Sum, Prod, Min, Max, Any, All, ArgMin, ArgMax, Accumulation, CumSum, CumProd}
use Rattle.nd_model.specs.Cells.Fault.{Fault, Reduce, Stmt, NotAnArray, BadArgument}
use Rattle.nd_model.specs.Making.ReduceFault.{EmptyReduce, NoAxis, NotNumbers}
use Rattle.nd_model.specs.Cells.Refusing.{◌>>=◌, when}
use Rattle.nd_model.specs.Making.Operand.{Int, Scalar, Operand, Plain, Elements, Made, truth_number, shape_of, contents_of, content_of}
use Rattle.nd_model.specs.Arrays.Broadcast.{in_limits}
use Rattle.nd_model.specs.Making.Operators.{Sort, OfKind, is_zero, is_negative, numpy_number}
use Rattle.nd_model.specs.Making.Elementwise.{Numbers, little, operand_sort, numbers_made}

-- ---- folds of a list of numbers

-- sums and products are taken in 64 bits, of unsigned numbers in uint64
abbrev pub sum_kind : Kind → Kind
sum_kind UInt8 = UInt64
sum_kind UInt16 = UInt64
sum_kind UInt32 = UInt64
sum_kind UInt64 = UInt64
sum_kind k = Int64

abbrev pub greater : ℤ → ℤ → Bool
greater a b = int_lt b a

-- the first of the numbers that is no worse than another; 0 where there is none
abbrev pub best : (better : ℤ → ℤ → Bool) → List ℤ → ℤ
best better [] = pos 0
best better (z ∷ zs) = fold (λ a b. if better b a then b else a) z zs

-- its place
abbrev pub best_place : (better : ℤ → ℤ → Bool) → List ℤ → ℕ
best_place better [] = 0
best_place better (z ∷ zs) = if list_any (λ y. better y z) zs then suc (best_place better zs) else 0

abbrev pub folded : Reduction → List ℤ → ℤ
folded Sum zs = fold (λ a b. a +ℤ b) (pos 0) zs
folded Prod zs = fold (λ a b. a *ℤ b) (pos 1) zs
folded Min zs = best int_lt zs
folded Max zs = best greater zs
folded Any zs = truth_number (list_any (λ z. not (is_zero z)) zs)
folded All zs = truth_number (list_all (λ z. not (is_zero z)) zs)
folded ArgMin zs = pos (best_place int_lt zs)
folded ArgMax zs = pos (best_place greater zs)

-- the kind of the result, by that of the numbers
abbrev pub fold_kind : Reduction → Kind → Kind
fold_kind Sum k = sum_kind k
fold_kind Prod k = sum_kind k
fold_kind Min k = k
fold_kind Max k = k
fold_kind Any k = Boolean
fold_kind All k = Boolean
fold_kind ArgMin k = Int64
fold_kind ArgMax k = Int64

-- ---- along an axis

-- the number of the axis along which is folded, or none for all elements; a value without axes takes 0 and -1 for all of it
abbrev pub axis_in : (axes : ℕ) → Option ℤ → Result (Option ℕ) Fault
axis_in axes None = Ok None
axis_in zero (Some z) = when (is_zero z || is_zero (z +ℤ pos 1)) (Reduce NoAxis) (Ok None)
axis_in (suc n) (Some z) =
    when (int_le (neg_ℤ (pos (suc n))) z && int_lt z (pos (suc n))) (Reduce NoAxis)
    (Ok (Some (if is_negative z then unsigned_abs (z +ℤ pos (suc n)) else unsigned_abs z)))

-- the shape of the result: the axis is left out, or kept with length 1
abbrev pub reduced_shape : Option ℕ → (keepdims : Bool) → List ℕ → List ℕ
reduced_shape None keep shape = if keep then map (λ n. 1) shape else []
reduced_shape (Some a) keep shape = take a shape ++ ((if keep then 1 ∷ [] else []) ++ drop (a + 1) shape)

-- the index tuple of the operand for an index tuple of the result, at place j of the axis
abbrev pub lane_tuple : ℕ → (keepdims : Bool) → List ℕ → ℕ → List ℕ
lane_tuple a keep t j = take a t ++ j ∷ drop (if keep then a + 1 else a) t

abbrev pub numbers_of : Operand → List ℤ
numbers_of o = map number_in (contents_of o)

-- the numbers that are folded for an index tuple of the result
abbrev pub lane : Operand → Option ℕ → (keepdims : Bool) → List ℕ → List ℤ
lane o None keep t = numbers_of o
lane o (Some a) keep t = map (λ j. number_in (content_of o (lane_tuple a keep t j))) (count_up 0 (slice_index (shape_of o) a))

-- how many numbers each fold takes
abbrev pub lane_length : Operand → Option ℕ → ℕ
lane_length o None = elements_of (shape_of o)
lane_length o (Some a) = slice_index (shape_of o) a

-- among no numbers none is the least or the greatest one: there is no such result, and no place in any case
abbrev pub lacks_numbers : Reduction → (length results : ℕ) → Bool
lacks_numbers Min n results = n == 0 && not (results == 0)
lacks_numbers Max n results = n == 0 && not (results == 0)
lacks_numbers ArgMin n results = n == 0
lacks_numbers ArgMax n results = n == 0
lacks_numbers r n results = false

-- structures are not reduced
abbrev pub kind_of_sort : Option Sort → Result Kind Fault
kind_of_sort (Some (OfKind k)) = Ok k
kind_of_sort s = Err (Reduce NotNumbers)

abbrev pub folds : Reduction → Kind → Option ℕ → (keepdims : Bool) → Operand → Result Numbers Fault
folds r k a keep o =
    let shape = reduced_shape a keep (shape_of o) in
    when (not (lacks_numbers r (lane_length o a) (elements_of shape))) (Reduce EmptyReduce)
    (in_limits (One (little k)) shape (Ok (record { kind = k; shape = shape; number = λ t. wrap k (folded r (lane o a keep t)) })))

-- THE FOLDS ALONG AN AXIS, or of all numbers
abbrev pub reduced_numbers : Reduction → (axis : Option ℤ) → (keepdims : Bool) → Operand → Result Numbers Fault
reduced_numbers r axis keep o = do
  k ← kind_of_sort (operand_sort o)
  a ← axis_in (length (shape_of o)) axis
  folds r (fold_kind r k) a keep o

-- ---- accumulations

-- the folds of the first numbers of each lane, as many as the place says
abbrev pub prefix_folds : Reduction → Kind → Option ℕ → Operand → Numbers
prefix_folds r k None o = record { kind = k; shape = elements_of (shape_of o) ∷ []; number = λ t. wrap k (folded r (take (suc (first_index t)) (numbers_of o))) }
prefix_folds r k (Some a) o = record { kind = k; shape = shape_of o; number = λ t. wrap k (folded r (take (suc (slice_index t a)) (lane o (Some a) true t))) }

-- THE ACCUMULATION ALONG AN AXIS, or of all numbers
abbrev pub accumulated_numbers : Reduction → (axis : Option ℤ) → Operand → Result Numbers Fault
accumulated_numbers r axis o = do
  k ← kind_of_sort (operand_sort o)
  a ← axis_in (length (shape_of o)) axis
  Ok (prefix_folds r (fold_kind r k) a o)

-- ---- the calls

-- the axis that is written, a Python integer
abbrev pub axis_number : Operand → Result ℤ Fault
axis_number (Plain (Int z)) = Ok z
axis_number o = Err (Stmt BadArgument)

-- arrays and NumPy scalars have reductions, arrays alone have accumulations
abbrev pub has_reductions : Operand → Bool
has_reductions (Plain (Scalar k z)) = true
has_reductions (Elements false g cs) = true
has_reductions o = false

abbrev pub has_accumulations : Operand → Bool
has_accumulations (Elements false g cs) = true
has_accumulations o = false

abbrev pub ufunc_reduction : Ufunc → Reduction
ufunc_reduction Add = Sum
ufunc_reduction Multiply = Prod
ufunc_reduction Minimum = Min
ufunc_reduction Maximum = Max

abbrev pub accumulation_reduction : Accumulation → Reduction
accumulation_reduction CumSum = Sum
accumulation_reduction CumProd = Prod

-- `x.sum(..)` and the like
abbrev pub reduce_array : Reduction → (keepdims : Bool) → Operand → (axis : Option ℤ) → Result Made Fault
reduce_array r keep o axis = when (has_reductions o) (Stmt NotAnArray) (numbers_made (reduced_numbers r axis keep o))

-- `x.cumsum(..)`, `x.cumprod(..)`
abbrev pub accumulate_array : Accumulation → Operand → (axis : Option ℤ) → Result Made Fault
accumulate_array f o axis = when (has_accumulations o) (Stmt NotAnArray) (numbers_made (accumulated_numbers (accumulation_reduction f) axis o))

-- Python's numbers count as int64 or bool
abbrev pub numpy_operand : Operand → Result Operand Fault
numpy_operand (Plain n) = numpy_number n >>= λ m. Ok (Plain m)
numpy_operand o = Ok o

-- `np.add.reduce(x, ..)` and the like
abbrev pub reduce_call : Ufunc → (keepdims : Bool) → Operand → (axis : Option ℤ) → Result Made Fault
reduce_call f keep o axis = do
  x ← numpy_operand o
  numbers_made (reduced_numbers (ufunc_reduction f) axis keep x)

-- a value without axes has none along which it is accumulated
abbrev pub accumulate_call : Ufunc → Operand → (axis : Option ℤ) → Result Made Fault
accumulate_call f o axis = do
  x ← numpy_operand o
  k ← kind_of_sort (operand_sort x)
  when (not (length (shape_of x) == 0)) (Reduce NoAxis) (numbers_made (accumulated_numbers (ufunc_reduction f) axis x))
