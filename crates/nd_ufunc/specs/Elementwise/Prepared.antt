-- Operators in place: what stands on the right, what is made ready, and what its write leaves of a block.
use Rattle.std.specs.Prelude.{ℕ, ◌==◌, if◌then◌else◌, false, List, length}
use Rattle.nd_model.specs.Making.Augmenting.{results_in_place}
use Rattle.nd_model.specs.Arrays.Element.{Kind}
use Rattle.nd_model.specs.Making.Operand as operand
use Rattle.nd_model.specs.Cells.Session.{put}
use Rattle.nd_model.specs.Cells.Sound.{LiesIn}
use Rattle.nd_model.specs.Grammar.Syntax.{BinaryOp}
use Rattle.nd_model.specs.Arrays.View.{Geo}
use Rattle.nd_assign.specs.Prepared as assigning
use Rattle.nd_ufunc.specs.Scalar.Numbers.{num_of}
use Rattle.nd_ufunc.specs.Elementwise.Arguments.{contents_over}
use Rattle.nd_ufunc.specs.declared.elementwise.in_place.RightSide.{RightSide}
use Rattle.nd_ufunc.specs.declared.elementwise.in_place.RightSide.TheVariants.{Number, Own, Other}

-- as an operand, beside a target in a block of these bytes
abbrev pub right_operand : RightSide → List ℕ → operand.Operand
right_operand (Number n) block = operand.Plain (num_of n)
right_operand (Own v) block = operand.Elements false v.now (contents_over v.now block)
right_operand (Other v bytes) block = operand.Elements false v.now (contents_over v.now bytes.now)

-- every byte of each element is one of its block; the target's has so many
abbrev pub IsRightSide : (len : ℕ) → RightSide → Type 0
IsRightSide len (Number n) = Unit {0}
IsRightSide len (Own v) = LiesIn len v.now
IsRightSide len (Other v bytes) = LiesIn (length bytes.now) v.now

-- THE BYTES OF A BLOCK after an operator in place
abbrev pub with_results : (k : Kind) → BinaryOp → (target : Geo) → RightSide → List ℕ → List ℕ
with_results k op g right block = put (results_in_place k op g (contents_over g block) (right_operand right block)) block

-- an operator in place that finds its results as it writes them, in a block of so many bytes
pub record DirectInPlace : Type 0 where
  pub kind : Kind
  pub op : BinaryOp
  pub target : Geo
  pub right : RightSide
  pub len : ℕ

-- a block of another length stays as it is
abbrev pub written_directly : DirectInPlace → List ℕ → List ℕ
written_directly d block = if length block == d.len then with_results d.kind d.op d.target d.right block else block

-- results that are to be written, and what their write leaves of a block
pub data PreparedInPlace : Type 0 where
  Found : assigning.Prepared → PreparedInPlace
  Directly : DirectInPlace → PreparedInPlace

abbrev pub written_in_place : PreparedInPlace → List ℕ → List ℕ
written_in_place (Found a) block = assigning.written_by a block
written_in_place (Directly d) block = written_directly d block
