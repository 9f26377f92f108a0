-- The results of an operator in place, before they are converted to the target's type.
use Rattle.std.specs.Prelude.{◌≡◌, ℕ, false, List, map, length}
use Rattle.nd_model.specs.Arrays.Content.{Content, Num, content_at}
use Rattle.nd_model.specs.Arrays.Element.{Kind}
use Rattle.nd_model.specs.Making.Elementwise.{binary_number, little}
use Rattle.nd_model.specs.Making.Operand.{Operand, Elements}
use Rattle.nd_model.specs.Making.Operators.{Operator}
use Rattle.nd_model.specs.Cells.Sound.{LiesIn}
use Rattle.nd_model.specs.Grammar.Syntax.{BinaryOp}
use Rattle.nd_model.specs.Arrays.Tuple.{indices}
use Rattle.nd_model.specs.Arrays.View.{Geo, One, contiguous}

-- the view and its bytes are the array of what an operation of this kind makes of the elements, which have these contents
pub record AreResults (k : Kind) (op : BinaryOp) (g : Geo) (cs : List Content) (y : Operand) (v : Geo) (bytes : List ℕ) : Type 0 where
  pub view : v ≡ contiguous (One (little k)) g.shape
  pub lies : LiesIn (length bytes) v
  pub numbers : map (content_at (One (little k)) bytes) v.places ≡ map (λ t. Num (binary_number k (Operator op) (Elements false g cs) y t)) (indices g.shape)
