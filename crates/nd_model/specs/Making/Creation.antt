-- New arrays, and numbers of a kind (NumPy user guide, "Array creation").
use Rattle.std.specs.Prelude.{ℕ, ◌+◌, ◌-◌, ◌/◌, ◌==◌, ℤ, pos, ◌+ℤ◌, ◌-ℤ◌, ◌*ℤ◌, int_le, int_lt, unsigned_abs, Bool, true, false, not, ◌&&◌, if◌then◌else◌, List, [], ◌∷◌, length, map, Option, Some, None, Result, Ok, Err}
use Rattle.std.specs.List.{find, list_all}
use Rattle.std.specs.Option.{option_or}
use Rattle.nd_model.specs.Arrays.Element.{Kind, Boolean, Int64, Element, fits, wrap}
use Rattle.nd_model.specs.Arrays.Tuple.{count_up, first_index}
use Rattle.nd_model.specs.Arrays.View.{ElementType, One, Structure}
use Rattle.nd_model.specs.Arrays.Content.{Content, Num, Rec, number_in, content_in_order}
use Rattle.nd_model.specs.Making.Conversion.{converts, converted_content}
use Rattle.nd_model.specs.Grammar.Calls.{Fill, Zeros, Ones, DType}
use Rattle.nd_model.specs.Grammar.Syntax.{Elements as ElementList, NoElement, AndElement, Element as ListElement, Single, Nested}
use Rattle.nd_model.specs.Arrays.Types.{element_type}
use Rattle.nd_model.specs.Cells.Fault.{Fault, Stmt, Ufunc, Index, BadArgument, NeedsType, RaggedList, FloatResult, NotNumbers, BoolOp, IntOutOfRange, ZeroStep}
use Rattle.nd_model.specs.Cells.Refusing.{◌>>=◌, when}
use Rattle.nd_model.specs.Arrays.Broadcast.{in_limits}
use Rattle.nd_model.specs.Making.Operand.{Number, Int, Truth, Scalar, Operand, Plain, Elements, Made, ANumber, AnArray, number_of, shape_of, content_of, made_of}
use Rattle.nd_model.specs.Indexing.Index.{array_of}
use Rattle.nd_model.specs.Making.Operators.{is_negative, is_zero}

-- ---- types

abbrev pub is_boolean : Kind → Bool
is_boolean Boolean = true
is_boolean k = false

abbrev pub little : Kind → Element
little k = record { kind = k; big = false }

abbrev pub int64 : Element
int64 = little Int64

-- the type that is written, or another
abbrev pub type_or : Option DType → Result ElementType Fault → Result ElementType Fault
type_or None otherwise = otherwise
type_or (Some t) otherwise = element_type t

-- the kind of an array of a number: a Python integer is an int64
abbrev pub array_kind : Number → Result Kind Fault
array_kind (Int z) = when (fits Int64 z) (Stmt NeedsType) (Ok Int64)
array_kind (Truth t) = Ok Boolean
array_kind (Scalar k z) = Ok k

-- the type of an array of an operand: elements keep theirs
abbrev pub array_type : Operand → Result ElementType Fault
array_type (Plain n) = do
  k ← array_kind n
  Ok (One (little k))
array_type (Elements row g cs) = Ok g.element

-- a structure is no number
abbrev pub number_element : ElementType → Result Element Fault
number_element (One e) = Ok e
number_element (Structure fields size) = Err (Ufunc NotNumbers)

-- ---- operands

-- a length of a shape
abbrev pub length_of : Operand → Result ℕ Fault
length_of (Plain (Int z)) = when (int_le (pos 0) z) (Stmt BadArgument) (Ok (unsigned_abs z))
length_of o = Err (Stmt BadArgument)

abbrev pub lengths_of : List Operand → Result (List ℕ) Fault
lengths_of [] = Ok []
lengths_of (o ∷ os) = do
  n ← length_of o
  ns ← lengths_of os
  Ok (n ∷ ns)

-- an operand without axes
abbrev pub without_axes : Operand → Result Operand Fault
without_axes o = when (length (shape_of o) == 0) (Stmt BadArgument) (Ok o)

-- the operands before the last one, and the last one
abbrev pub last_of : List Operand → Result (List Operand × Operand) Fault
last_of [] = Err (Stmt BadArgument)
last_of (o ∷ []) = Ok ([], o)
last_of (o ∷ p ∷ os) = do
  rest ← last_of (p ∷ os)
  Ok (o ∷ rest.0, rest.1)

-- ---- conversion

-- whether a kind takes a Python integer: a Boolean takes each
abbrev pub takes : Kind → ℤ → Bool
takes Boolean z = true
takes k z = fits k z

-- a Python integer that a kind does not take
abbrev pub misfit : Kind → Number → Option ℤ
misfit k (Int z) = if takes k z then None else Some z
misfit k n = None

-- the same of the elements of a type; elements convert whatever their numbers are
abbrev pub type_misfit : ElementType → Number → Option ℤ
type_misfit (One e) n = misfit e.kind n
type_misfit (Structure fields size) n = None

abbrev pub operand_misfit : ElementType → Operand → Option ℤ
operand_misfit t (Plain n) = type_misfit t n
operand_misfit t (Elements row g cs) = None

abbrev pub unless_misfit : {A : Type 0} → Option ℤ → Result A Fault → Result A Fault
unless_misfit None then_this = then_this
unless_misfit (Some z) then_this = Err (Ufunc (IntOutOfRange z))

abbrev pub is_number_type : ElementType → Bool
is_number_type (One e) = true
is_number_type (Structure fields size) = false

-- whether an operand becomes elements of a type
abbrev pub operand_converts : Operand → ElementType → Bool
operand_converts (Plain n) t = is_number_type t
operand_converts (Elements row g cs) t = converts g.element t

-- the content that its element at an index tuple becomes
abbrev pub converted_at : ElementType → Operand → List ℕ → Content
converted_at t o i = converted_content t (content_of o i)

-- a new array of its elements
abbrev pub converted_array : ElementType → Operand → Made
converted_array t o = AnArray t (shape_of o) (converted_at t o)

-- ---- `np.zeros`, `np.ones`

abbrev pub zero_content : ElementType → Content
zero_content (One e) = Num (pos 0)
zero_content (Structure fields size) = Rec (map (λ f. pos 0) fields)

abbrev pub fill_content : Fill → ElementType → Result Content Fault
fill_content Zeros t = Ok (zero_content t)
fill_content Ones t = do
  e ← number_element t
  Ok (Num (pos 1))

-- the same content everywhere
abbrev pub uniform : ElementType → (shape : List ℕ) → Content → Made
uniform t shape c = AnArray t shape (λ i. c)

abbrev pub filled_array : Fill → Option DType → (shape : List ℕ) → Result Made Fault
filled_array f dtype shape = do
  t ← type_or dtype (Err (Ufunc FloatResult))
  c ← fill_content f t
  in_limits t shape (Ok (uniform t shape c))

abbrev pub filled : Fill → Option DType → List Operand → Result Made Fault
filled f dtype os = do
  shape ← lengths_of os
  filled_array f dtype shape

-- ---- `np.full`, `np.array`

-- what the elements of a new array are: of the type that is written, or else of the operand's own
abbrev pub type_for : Option DType → Operand → Result ElementType Fault
type_for dtype o = do
  t ← type_or dtype (array_type o)
  when (operand_converts o t) (Ufunc NotNumbers) (Ok t)

abbrev pub full_array : Option DType → (shape : List ℕ) → Operand → Result Made Fault
full_array dtype shape o = do
  t ← type_for dtype o
  in_limits t shape (unless_misfit (operand_misfit t o) (Ok (uniform t shape (converted_at t o []))))

-- of the lengths and the value
abbrev pub full_of : Option DType → List Operand → Operand → Result Made Fault
full_of dtype os o = do
  shape ← lengths_of os
  e ← without_axes o
  full_array dtype shape e

abbrev pub full : Option DType → List Operand → Result Made Fault
full dtype os = do
  parts ← last_of os
  full_of dtype parts.0 parts.1

-- of what is no list
abbrev pub new_array : Option DType → Operand → Result Made Fault
new_array dtype o = do
  t ← type_for dtype o
  unless_misfit (operand_misfit t o) (Ok (converted_array t o))

-- ---- `np.array` of a list

abbrev pub element_count : ElementList → ℕ
element_count NoElement = 0
element_count (AndElement e es) = 1 + element_count es

-- the lengths down the first elements
abbrev mutual
  pub shape_of_element : ListElement → List ℕ
  shape_of_element (Single e) = []
  shape_of_element (Nested es) = element_count es ∷ shape_of_first es

  pub shape_of_first : ElementList → List ℕ
  shape_of_first NoElement = []
  shape_of_first (AndElement e es) = shape_of_element e

-- a number has no lengths; a list has as many elements as its first length says, and each of them has the others
abbrev mutual
  pub has_shape : List ℕ → ListElement → Bool
  has_shape [] (Single e) = true
  has_shape (n ∷ shape) (Nested es) = (element_count es == n) && have_shape shape es
  has_shape _ _ = false

  pub have_shape : List ℕ → ElementList → Bool
  have_shape shape NoElement = true
  have_shape shape (AndElement e es) = has_shape shape e && have_shape shape es

-- the shape of a list that is nested evenly
abbrev pub even_shape : ListElement → Result (List ℕ) Fault
even_shape x = when (has_shape (shape_of_element x) x) (Stmt RaggedList) (Ok (shape_of_element x))

-- items are Python numbers
abbrev pub python_number : Operand → Result Number Fault
python_number (Plain (Int z)) = Ok (Int z)
python_number (Plain (Truth t)) = Ok (Truth t)
python_number o = Err (Stmt BadArgument)

abbrev pub python_numbers : List Operand → Result (List Number) Fault
python_numbers [] = Ok []
python_numbers (o ∷ os) = do
  n ← python_number o
  ns ← python_numbers os
  Ok (n ∷ ns)

abbrev pub is_truth : Number → Bool
is_truth (Truth t) = true
is_truth n = false

abbrev pub fits_int64 : Number → Bool
fits_int64 n = fits Int64 (number_of n)

-- Booleans alone give Booleans, else the numbers are int64; no number gives float64, which there is not
abbrev pub list_kind : List Number → Result Kind Fault
list_kind [] = Err (Ufunc FloatResult)
list_kind ns =
    if list_all is_truth ns then Ok Boolean
    else when (list_all fits_int64 ns) (Stmt NeedsType) (Ok Int64)

abbrev pub list_type : List Number → Result ElementType Fault
list_type ns = do
  k ← list_kind ns
  Ok (One (little k))

-- the first Python integer that a kind does not take
abbrev pub first_misfit : Kind → List Number → Option ℤ
first_misfit k [] = None
first_misfit k (n ∷ ns) = option_or (misfit k n) (first_misfit k ns)

abbrev pub converted_numbers : Kind → List Number → List Content
converted_numbers k ns = map (λ n. Num (wrap k (number_of n))) ns

abbrev pub array_of_numbers : Element → (shape : List ℕ) → List Number → Result Made Fault
array_of_numbers e shape ns =
    in_limits (One e) shape (unless_misfit (first_misfit e.kind ns) (Ok (AnArray (One e) shape (content_in_order shape (converted_numbers e.kind ns)))))

abbrev pub element_for_list : Option DType → List Number → Result Element Fault
element_for_list dtype ns = do
  t ← type_or dtype (list_type ns)
  number_element t

abbrev pub array_of_list : ListElement → Option DType → List Operand → Result Made Fault
array_of_list x dtype os = do
  ns ← python_numbers os
  shape ← even_shape x
  e ← element_for_list dtype ns
  array_of_numbers e shape ns

-- ---- `np.int8(e)` and the like, `.copy()`, `.astype(t)`

abbrev pub convert : Kind → Operand → Result Made Fault
convert k o =
    when (operand_converts o (One (little k))) (Ufunc NotNumbers)
    (unless_misfit (operand_misfit (One (little k)) o) (Ok (made_of k (shape_of o) (λ i. wrap k (number_in (content_of o i))))))

abbrev pub copy_array : Operand → Result Made Fault
copy_array o = do
  g ← array_of o
  Ok (AnArray g.element g.shape (content_of o))

-- a NumPy scalar stays one
abbrev pub convert_to : ElementType → Operand → Result Made Fault
convert_to t (Plain (Scalar k z)) = do
  e ← number_element t
  Ok (ANumber (Scalar e.kind (wrap e.kind z)))
convert_to t o = do
  g ← array_of o
  d ← number_element g.element
  e ← number_element t
  Ok (converted_array t o)

abbrev pub astype : DType → Operand → Result Made Fault
astype dtype o = do
  t ← element_type dtype
  convert_to t o

-- ---- `np.arange`

-- an integer
abbrev pub integer_of : Operand → Result ℤ Fault
integer_of (Plain (Int z)) = Ok z
integer_of o = Err (Stmt BadArgument)

abbrev pub integers_of : List Operand → Result (List ℤ) Fault
integers_of [] = Ok []
integers_of (o ∷ os) = do
  z ← integer_of o
  zs ← integers_of os
  Ok (z ∷ zs)

-- where the numbers begin, what they do not reach, and how far they are apart
pub record Range : Type 0 where
  pub start : ℤ
  pub stop : ℤ
  pub step : ℤ

abbrev pub range_by : ℤ → ℤ → ℤ → Range
range_by start stop step = record { start = start; stop = stop; step = step }

-- a start that is left out is 0, and a step 1
abbrev pub range_of : (has_start has_step : Bool) → List ℤ → Result Range Fault
range_of false false (b ∷ []) = Ok (range_by (pos 0) b (pos 1))
range_of true false (a ∷ b ∷ []) = Ok (range_by a b (pos 1))
range_of false true (b ∷ s ∷ []) = Ok (range_by (pos 0) b s)
range_of true true (a ∷ b ∷ s ∷ []) = Ok (range_by a b s)
range_of _ _ zs = Err (Stmt BadArgument)

-- the steps lead to the end
abbrev pub leads : Range → Bool
leads r = if is_negative r.step then int_lt r.stop r.start else int_lt r.start r.stop

-- how many numbers there are before the end
abbrev pub range_count : Range → ℕ
range_count r = if leads r then (unsigned_abs (r.stop -ℤ r.start) - 1) / unsigned_abs r.step + 1 else 0

abbrev pub range_number : Range → ℕ → ℤ
range_number r k = r.start +ℤ (pos k *ℤ r.step)

-- the first number that a kind has not
abbrev pub range_misfit : Kind → Range → Option ℤ
range_misfit k r = find (λ z. not (fits k z)) (map (range_number r) (count_up 0 (range_count r)))

-- no number of a range is a Boolean
abbrev pub range_element : Element → Result Element Fault
range_element e = if is_boolean e.kind then Err (Ufunc BoolOp) else Ok e

abbrev pub range_array : Element → Range → Result Made Fault
range_array e r =
    when (not (is_zero r.step)) (Index ZeroStep)
    (in_limits (One e) (range_count r ∷ [])
    (unless_misfit (range_misfit e.kind r) (Ok (AnArray (One e) (range_count r ∷ []) (λ t. Num (range_number r (first_index t)))))))

-- what its numbers are: int64 where no type is written
abbrev pub element_of_range : Option DType → Result Element Fault
element_of_range dtype = do
  t ← type_or dtype (Ok (One int64))
  e ← number_element t
  range_element e

abbrev pub range_in : Option DType → Range → Result Made Fault
range_in dtype r = do
  e ← element_of_range dtype
  range_array e r

-- of the start, the end and the step
abbrev pub arange : (has_start has_step : Bool) → Option DType → List Operand → Result Made Fault
arange has_start has_step dtype os = do
  zs ← integers_of os
  r ← range_of has_start has_step zs
  range_in dtype r
