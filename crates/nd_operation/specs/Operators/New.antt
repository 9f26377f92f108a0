-- What calls make: numbers, and new arrays in blocks of their own.
use Rattle.std.specs.Prelude.{◌≡◌, ℕ, ℤ, ◌^◌, ◌-◌, false, nat_lt, if◌then◌else◌, List, [], ◌∷◌, ◌++◌, length, map, Option, Some, None, Result, Ok, Err, option_map}
use Rattle.nd_model.specs.Arrays.Element.{Element}
use Rattle.nd_model.specs.Arrays.Tuple.{first_index}
use Rattle.nd_model.specs.Arrays.View.{One}
use Rattle.nd_model.specs.Arrays.Content.{Num}
use Rattle.nd_model.specs.Arrays.Value as model
use Rattle.nd_model.specs.Cells.Fault.{Fault}
use Rattle.nd_model.specs.Cells.Running.{Make}
use Rattle.nd_model.specs.Cells.Evaluation.{Eval, Gives, Refuses, Asks, ◌>>=◌, decide}
use Rattle.nd_model.specs.Making.Operand as operand
use Rattle.nd_model.specs.Cells.Operation.{give}
use Rattle.nd_model.specs.Making.Augmenting.{operand_of_made}
use Rattle.nd_model.specs.Making.Creation as creation
use Rattle.nd_model.specs.Cells.Sound.{LiesIn}
use Rattle.nd_model.specs.Making.Elementwise.{single, call_single}
use Rattle.nd_types.specs.Kinds.{kind_of}
use Rattle.nd_syntax.specs.Trees.Calls.{dtype_of}
use Rattle.nd_heap.specs.declared.value.Value.{Value}
use Rattle.nd_heap.specs.Values.{number_of}
use Rattle.nd_operation.specs.declared.refusals.stop.Stop.{Stop}
use Rattle.nd_operation.specs.declared.refusals.stop.Stop.TheVariants.{Memory, Refused}
use Rattle.nd_operation.specs.declared.operators.operand.New.{New}
use Rattle.nd_operation.specs.declared.operators.operand.New.TheVariants.{Number, Array}
use Rattle.nd_operation.specs.declared.operators.calls.UnaryCall.{UnaryCall}
use Rattle.nd_operation.specs.declared.operators.calls.UnaryCall.TheVariants.{Operator, Ufunc, ArrayOf, Convert, Copy, AsType}
use Rattle.nd_operation.specs.Operators.Contents.{elements_over, num_of, unused_of}
use Rattle.nd_operation.specs.Refusals.Faults.{fault_of}
use Rattle.nd_ufunc.specs.Scalar.Ufuncs.{single_of}

-- what is given of what was made: an array gets a new base
abbrev pub given : New → Eval model.Value
given (Number n) = Gives (number_of n)
given (Array view block) = Asks (Make block) (λ b. Gives (model.Array b view))

-- as an operand, its elements in its block
abbrev pub operand_of_new : New → operand.Operand
operand_of_new (Number n) = operand.Plain (num_of n)
operand_of_new (Array view block) = elements_over false view block

-- an array lies in its block
abbrev pub NewLies : New → Type 0
NewLies (Number n) = Unit {0}
NewLies (Array view block) = LiesIn (length block) view

-- the definition's result is made, and as an operand it is the one that was made, unless memory ran out
abbrev pub StandsFor : Result New Stop → Result operand.Made Fault → Type 0
StandsFor (Ok new) made = (m : operand.Made) × (made ≡ Ok m) × (operand_of_made m ≡ operand_of_new new)
StandsFor (Err (Memory m)) made = Unit {0}
StandsFor (Err (Refused f)) made = made ≡ Err (fault_of f)

-- what is given of the definition's result, unless memory ran out
abbrev pub MakesNew : Result New Stop → Result operand.Made Fault → Type 0
MakesNew (Ok n) made = (decide made >>= give) ≡ given n
MakesNew (Err (Memory m)) made = Unit {0}
MakesNew (Err (Refused f)) made = (decide made >>= give) ≡ Refuses (fault_of f)

-- what a call of one operand makes
abbrev pub made_of_one : UnaryCall → operand.Operand → Result operand.Made Fault
made_of_one (Operator op) = single (single_of op)
made_of_one (Ufunc op) = call_single (single_of op)
made_of_one (ArrayOf t) = creation.new_array (option_map dtype_of t.now)
made_of_one (Convert k) = creation.convert (kind_of k)
made_of_one Copy = creation.copy_array
made_of_one (AsType t) = creation.astype (dtype_of t.now)

-- ---- lengths

-- a length in 64 bits: a longer one is over the limits of arrays too
abbrev pub clip : ℕ → ℕ
clip n = if nat_lt (2 ^ 64 - 1) n then 2 ^ 64 - 1 else n

abbrev pub clip_length : Result ℕ Fault → Result ℕ Fault
clip_length (Ok n) = Ok (clip n)
clip_length (Err f) = Err f

abbrev pub clip_lengths : Result (List ℕ) Fault → Result (List ℕ) Fault
clip_lengths (Ok ns) = Ok (map clip ns)
clip_lengths (Err f) = Err f

-- ---- ranges

abbrev pub option_list : {A : Type 0} → Option A → List A
option_list None = []
option_list (Some x) = x ∷ []

-- the bounds that are written, in order
abbrev pub bounds_of : Option Value → Value → Option Value → List operand.Operand
bounds_of start stop step = map unused_of (option_list start ++ stop ∷ option_list step)

-- the integer that a bound is, or another one where it is left out
abbrev pub bound_or : Option Value → ℤ → Result ℤ Fault
bound_or None z = Ok z
bound_or (Some v) z = creation.integer_of (unused_of v)

abbrev pub range_made : Element → creation.Range → operand.Made
range_made e r = operand.AnArray (One e) (creation.range_count r ∷ []) (λ t. Num (creation.range_number r (first_index t)))
