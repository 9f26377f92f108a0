-- Operands and results: values without their bases. What an operation makes of its operands is said of these alone.
use Rattle.std.specs.Prelude.{ℕ, ◌-◌, ◌^◌, ℤ, pos, neg_ℤ, int_le, Bool, true, false, not, ◌&&◌, List, [], ◌∷◌, Result, Ok}
use Rattle.nd_model.specs.Arrays.Element.{Kind}
use Rattle.nd_model.specs.Arrays.View.{ElementType, One, Geo}
use Rattle.nd_model.specs.Arrays.Content.{Content, Num, content_in_order}
use Rattle.nd_model.specs.Cells.Fault.{Fault, Stmt, IntTooBig}
use Rattle.nd_model.specs.Cells.Refusing.{when}

-- a Python integer, a Python Boolean, or a NumPy scalar
pub data Number : Type 0 where
  Int : ℤ → Number
  Truth : Bool → Number
  Scalar : Kind → ℤ → Number

-- a number, or an array or a row: how its elements lie, and their contents in C order, none where they are not used
pub data Operand : Type 0 where
  Plain : Number → Operand
  Elements : (row : Bool) → Geo → List Content → Operand

-- which operands have all their elements used
pub data Usage : Type 0 where
  Whole : Usage
  ArraysOnly : Usage
  RowsOnly : Usage
  Unused : Usage

abbrev pub is_used : Usage → (row : Bool) → Bool
is_used Whole row = true
is_used ArraysOnly row = not row
is_used RowsOnly row = row
is_used Unused row = false

-- what an operation makes: a number, or a fresh array with its element at each index tuple
pub data Made : Type 0 where
  ANumber : Number → Made
  AnArray : ElementType → (shape : List ℕ) → (List ℕ → Content) → Made

-- what an input comes to: a fresh array with its element at each index tuple, or the view of these parts over a fresh copy of bytes
pub data Loaded : Type 0 where
  AFile : ElementType → (shape : List ℕ) → (List ℕ → Content) → Loaded
  ABuffer : ElementType → (shape : List ℕ) → (strides : List ℤ) → (offset : ℕ) → (bytes : List ℕ) → Loaded

-- what is chosen of an array or a row: an element at a place, some elements to be seen, some to be copied; or an element that is
-- seen in each place of a shape
pub data Chosen : Type 0 where
  AnElement : ElementType → ℕ → Chosen
  AView : Geo → Chosen
  ACopy : Geo → Chosen
  Stretched : ElementType → Content → (shape : List ℕ) → Chosen

-- what a statement does in the end: it prints, saves, binds a name to the value of its first operand or to what is made, unbinds
-- one, or writes bytes where the operand of this number lies
pub data Deed : Type 0 where
  NoDeed : Deed
  PrintsText : List ℕ → Deed
  SavesFile : (name file : List ℕ) → Deed
  BindsFirst : List ℕ → Deed
  BindsMade : List ℕ → Made → Deed
  Unbinds : List ℕ → Deed
  Writes : (operand : ℕ) → List (ℕ × ℕ) → Deed
  MakesAndWrites : Made → (operand : ℕ) → List (ℕ × ℕ) → Deed

-- ---- Python's numbers

-- Python integers have these bounds here
abbrev pub is_python_int : ℤ → Bool
is_python_int z = int_le (neg_ℤ (pos (2 ^ 63))) z && int_le z (pos (2 ^ 64 - 1))

abbrev pub truth_number : Bool → ℤ
truth_number true = pos 1
truth_number false = pos 0

abbrev pub python_int : ℤ → Result Made Fault
python_int z = when (is_python_int z) (Stmt IntTooBig) (Ok (ANumber (Int z)))

-- ---- what an operand has

abbrev pub number_of : Number → ℤ
number_of (Int z) = z
number_of (Truth t) = truth_number t
number_of (Scalar k z) = z

-- a number has no axes and one element
abbrev pub shape_of : Operand → List ℕ
shape_of (Plain n) = []
shape_of (Elements row g cs) = g.shape

abbrev pub contents_of : Operand → List Content
contents_of (Plain n) = Num (number_of n) ∷ []
contents_of (Elements row g cs) = cs

-- the content at an index tuple
abbrev pub content_of : Operand → List ℕ → Content
content_of o t = content_in_order (shape_of o) (contents_of o) t

-- a number of its own where there are no axes
abbrev pub made_of : Kind → (shape : List ℕ) → (List ℕ → ℤ) → Made
made_of k [] f = ANumber (Scalar k (f []))
made_of k (n ∷ shape) f = AnArray (One (record { kind = k; big = false })) (n ∷ shape) (λ t. Num (f t))
