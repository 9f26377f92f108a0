-- Operators on numbers: on Python's, as Python has them, where `True` is 1 and `False` is 0; where a NumPy scalar is among them, as
-- NumPy has them. The kinds are those of NEP 50.
use Rattle.std.specs.Prelude.{◌≡◌, ◌≢◌, ℕ, ◌*◌, ◌^◌, ◌==◌, ℤ, pos, negsuc, neg_ℤ, ◌+ℤ◌, ◌-ℤ◌, ◌*ℤ◌, ◌≤ℤ◌, ◌<ℤ◌, int_le, int_lt, nat_lt, unsigned_abs, Bool, true, false, not, ◌&&◌, ◌||◌, if◌then◌else◌, Option, Some, None, Result, Ok, Err}
use Rattle.std.specs.Int.{w128, int_pow, int_div_euclid, int_rem_euclid, int_bit_and, int_bit_or, int_bit_xor}
use Rattle.nd_model.specs.Arrays.Element.{Kind, Boolean, Int8, Int64, size_of, fits, wrap}
use Rattle.nd_model.specs.Arrays.Promotion.{promoted}
use Rattle.nd_model.specs.Cells.Fault.{Fault, Ufunc, FloatResult, BoolOp, IntOutOfRange, NegativePower, Stmt, ZeroDivide, NegativeShift, NeedsType}
use Rattle.nd_model.specs.Grammar.Syntax.{UnaryOp, Negative, Invert, BinaryOp, Add, Subtract, Multiply, FloorDivide, Divide, Remainder, Power, LeftShift, RightShift, BitwiseAnd, BitwiseXor, BitwiseOr, Less, LessEqual, Greater, GreaterEqual, Equal, NotEqual}
use Rattle.nd_model.specs.Cells.Refusing.{◌>>=◌, when}
use Rattle.nd_model.specs.Making.Operand.{Number, Int, Truth, Scalar, Made, ANumber, python_int, truth_number, number_of}

-- ---- whole numbers

abbrev pub is_zero : ℤ → Bool
is_zero z = unsigned_abs z == 0

abbrev pub is_negative : ℤ → Bool
is_negative (pos n) = false
is_negative (negsuc n) = true

-- something is left, of which a divisor below zero takes away one more
abbrev pub is_below : ℤ → ℤ → Bool
is_below a b = is_negative b && not (is_zero (int_rem_euclid a b))

-- rounded down
abbrev pub floor_quotient : ℤ → ℤ → ℤ
floor_quotient a b = if is_below a b then int_div_euclid a b -ℤ pos 1 else int_div_euclid a b

-- with the sign of the divisor
abbrev pub floor_remainder : ℤ → ℤ → ℤ
floor_remainder a b = if is_below a b then int_rem_euclid a b +ℤ b else int_rem_euclid a b

-- FLOOR DIVISION: quotient and remainder give the number again, and the remainder lies between zero and the divisor
pub record Divides (a b q r : ℤ) : Type 0 where
  pub whole : (b *ℤ q) +ℤ r ≡ a
  pub above : pos 0 ≤ℤ b → (pos 0 ≤ℤ r) × (r <ℤ b)
  pub below : b <ℤ pos 0 → (b <ℤ r) × (r ≤ℤ pos 0)

abbrev pub FloorDivision : Type 0
FloorDivision = (a b : ℤ) → b ≢ pos 0 → Divides a b (floor_quotient a b) (floor_remainder a b)

-- the power of two
abbrev pub power_of_two : ℤ → ℤ
power_of_two z = pos (2 ^ unsigned_abs z)

-- ---- two of Python's numbers

abbrev pub truth : Bool → Result Made Fault
truth t = Ok (ANumber (Truth t))

abbrev pub is_equal : ℤ → ℤ → Bool
is_equal a b = int_le a b && int_le b a

abbrev pub arithmetic : BinaryOp → ℤ → ℤ → Result Made Fault
arithmetic Add a b = python_int (a +ℤ b)
arithmetic Subtract a b = python_int (a -ℤ b)
arithmetic Multiply a b = python_int (a *ℤ b)
arithmetic FloorDivide a b = when (not (is_zero b)) (Stmt ZeroDivide) (python_int (floor_quotient a b))
arithmetic Divide a b = Err (Ufunc FloatResult)
arithmetic Remainder a b = when (not (is_zero b)) (Stmt ZeroDivide) (python_int (floor_remainder a b))
arithmetic Power a b = when (not (is_negative b)) (Ufunc FloatResult) (python_int (int_pow a (unsigned_abs b)))
arithmetic LeftShift a b = when (not (is_negative b)) (Stmt NegativeShift) (python_int (a *ℤ power_of_two b))
arithmetic RightShift a b = when (not (is_negative b)) (Stmt NegativeShift) (python_int (floor_quotient a (power_of_two b)))
arithmetic BitwiseAnd a b = python_int (int_bit_and w128 a b)
arithmetic BitwiseXor a b = python_int (int_bit_xor w128 a b)
arithmetic BitwiseOr a b = python_int (int_bit_or w128 a b)
arithmetic Less a b = truth (int_lt a b)
arithmetic LessEqual a b = truth (int_le a b)
arithmetic Greater a b = truth (int_lt b a)
arithmetic GreaterEqual a b = truth (int_le b a)
arithmetic Equal a b = truth (is_equal a b)
arithmetic NotEqual a b = truth (not (is_equal a b))

-- `& | ^` of two Booleans give Booleans
abbrev pub of_truths : BinaryOp → Bool → Bool → Result Made Fault
of_truths BitwiseAnd s t = truth (s && t)
of_truths BitwiseXor s t = truth (if s then not t else t)
of_truths BitwiseOr s t = truth (s || t)
of_truths op s t = arithmetic op (truth_number s) (truth_number t)

abbrev pub of_python : BinaryOp → Number → Number → Result Made Fault
of_python op (Truth s) (Truth t) = of_truths op s t
of_python op a b = arithmetic op (number_of a) (number_of b)

-- ---- two numbers, of which one is a NumPy scalar

-- NumPy's functions of two numbers
pub data BinaryUfunc : Type 0 where
  Operator : BinaryOp → BinaryUfunc
  Minimum : BinaryUfunc
  Maximum : BinaryUfunc

-- the number of bits of a kind
abbrev pub bits_of : Kind → ℕ
bits_of k = 8 * size_of k

-- a count below zero, or of all the bits of a kind and more, leaves none of them
abbrev pub leaves_bits : Kind → ℤ → Bool
leaves_bits k n = not (is_negative n) && nat_lt (unsigned_abs n) (bits_of k)

-- what is left of a number without its bits
abbrev pub sign_left : ℤ → ℤ
sign_left a = if is_negative a then negsuc 0 else pos 0

-- THE TABLE: each is a function of whole numbers. By zero there is no quotient: it is 0, and so is the remainder.
abbrev pub exact : Kind → BinaryUfunc → ℤ → ℤ → ℤ
exact k (Operator Add) a b = a +ℤ b
exact k (Operator Subtract) a b = a -ℤ b
exact k (Operator Multiply) a b = a *ℤ b
exact k (Operator FloorDivide) a b = if is_zero b then pos 0 else floor_quotient a b
exact k (Operator Divide) a b = pos 0
exact k (Operator Remainder) a b = if is_zero b then pos 0 else floor_remainder a b
exact k (Operator Power) a b = int_pow a (unsigned_abs b)
exact k (Operator LeftShift) a b = if leaves_bits k b then a *ℤ power_of_two b else pos 0
exact k (Operator RightShift) a b = if leaves_bits k b then floor_quotient a (power_of_two b) else sign_left a
exact k (Operator BitwiseAnd) a b = int_bit_and w128 a b
exact k (Operator BitwiseXor) a b = int_bit_xor w128 a b
exact k (Operator BitwiseOr) a b = int_bit_or w128 a b
exact k (Operator Less) a b = truth_number (int_lt a b)
exact k (Operator LessEqual) a b = truth_number (int_le a b)
exact k (Operator Greater) a b = truth_number (int_lt b a)
exact k (Operator GreaterEqual) a b = truth_number (int_le b a)
exact k (Operator Equal) a b = truth_number (is_equal a b)
exact k (Operator NotEqual) a b = truth_number (not (is_equal a b))
exact k Minimum a b = if int_le a b then a else b
exact k Maximum a b = if int_le a b then b else a

-- what a function does with two Booleans: it stays among them, is refused, or takes them as int8
pub data OnBooleans : Type 0 where
  Stays : OnBooleans
  IsRefused : OnBooleans
  AsInt8 : OnBooleans

abbrev pub on_booleans : BinaryUfunc → OnBooleans
on_booleans (Operator Subtract) = IsRefused
on_booleans (Operator FloorDivide) = AsInt8
on_booleans (Operator Remainder) = AsInt8
on_booleans (Operator Power) = AsInt8
on_booleans (Operator LeftShift) = AsInt8
on_booleans (Operator RightShift) = AsInt8
on_booleans f = Stays

abbrev pub boolean_kind : OnBooleans → Result Kind Fault
boolean_kind Stays = Ok Boolean
boolean_kind IsRefused = Err (Ufunc BoolOp)
boolean_kind AsInt8 = Ok Int8

-- the kind of the result, where the numbers have the kinds that were promoted to this one
abbrev pub promoted_kind : BinaryUfunc → Option Kind → Result Kind Fault
promoted_kind f None = Err (Ufunc FloatResult)
promoted_kind f (Some Boolean) = boolean_kind (on_booleans f)
promoted_kind f (Some k) = Ok k

-- a Python integer takes the kind beside it, and has to fit; beside Booleans it is an int64
abbrev pub python_kind : Kind → Kind
python_kind Boolean = Int64
python_kind k = k

abbrev pub kind_beside : Kind → ℤ → Result Kind Fault
kind_beside k z = when (fits (python_kind k) z) (Ufunc (IntOutOfRange z)) (Ok (python_kind k))

-- what a number counts as beside another
pub data Sort : Type 0 where
  PythonInt : ℤ → Sort
  OfKind : Kind → Sort

abbrev pub sort_of : Number → Sort
sort_of (Int z) = PythonInt z
sort_of (Truth t) = OfKind Boolean
sort_of (Scalar k z) = OfKind k

abbrev pub common_kind : BinaryUfunc → Sort → Sort → Result Kind Fault
common_kind f (OfKind j) (OfKind k) = promoted_kind f (promoted j k)
common_kind f (OfKind k) (PythonInt z) = kind_beside k z
common_kind f (PythonInt z) (OfKind k) = kind_beside k z
common_kind f (PythonInt y) (PythonInt z) = Ok Int64

-- comparisons take any two kinds and any Python integer
abbrev pub result_kind : BinaryUfunc → Sort → Sort → Result Kind Fault
result_kind (Operator Less) a b = Ok Boolean
result_kind (Operator LessEqual) a b = Ok Boolean
result_kind (Operator Greater) a b = Ok Boolean
result_kind (Operator GreaterEqual) a b = Ok Boolean
result_kind (Operator Equal) a b = Ok Boolean
result_kind (Operator NotEqual) a b = Ok Boolean
result_kind (Operator Divide) a b = Err (Ufunc FloatResult)
result_kind f a b = common_kind f a b

abbrev pub is_power_below : BinaryUfunc → ℤ → Bool
is_power_below (Operator Power) b = is_negative b
is_power_below f b = false

abbrev pub scalar : Kind → ℤ → Result Made Fault
scalar k z = Ok (ANumber (Scalar k (wrap k z)))

abbrev pub of_scalars : BinaryUfunc → Number → Number → Result Made Fault
of_scalars f a b = do
  k ← result_kind f (sort_of a) (sort_of b)
  when (not (is_power_below f (number_of b))) (Ufunc NegativePower) (scalar k (exact k f (number_of a) (number_of b)))

-- ---- any two numbers

abbrev pub is_scalar : Number → Bool
is_scalar (Scalar k z) = true
is_scalar n = false

abbrev pub of_numbers : BinaryOp → Number → Number → Result Made Fault
of_numbers op a b = if is_scalar a || is_scalar b then of_scalars (Operator op) a b else of_python op a b

-- to NumPy's functions a Python integer is an int64, and a Python Boolean a Boolean
abbrev pub numpy_number : Number → Result Number Fault
numpy_number (Int z) = when (fits Int64 z) (Stmt NeedsType) (Ok (Scalar Int64 z))
numpy_number (Truth t) = Ok (Scalar Boolean (truth_number t))
numpy_number n = Ok n

abbrev pub of_numpy : BinaryUfunc → Number → Number → Result Made Fault
of_numpy f a b = do
  x ← numpy_number a
  y ← numpy_number b
  of_scalars f x y

-- ---- one number

-- the operators of one number, and the absolute value
pub data Single : Type 0 where
  Of : UnaryOp → Single
  Absolute : Single

abbrev pub exact_single : Single → ℤ → ℤ
exact_single (Of Negative) z = neg_ℤ z
exact_single (Of Invert) z = neg_ℤ (pos 1) -ℤ z
exact_single Absolute z = if is_negative z then neg_ℤ z else z

-- of a NumPy scalar
abbrev pub of_scalar : Single → Kind → ℤ → Result Made Fault
of_scalar (Of Negative) Boolean z = Err (Ufunc BoolOp)
of_scalar (Of Invert) Boolean z = scalar Boolean (truth_number (is_zero z))
of_scalar op k z = scalar k (exact_single op z)

abbrev pub of_number : Single → Number → Result Made Fault
of_number op (Scalar k z) = of_scalar op k z
of_number op n = python_int (exact_single op (number_of n))
