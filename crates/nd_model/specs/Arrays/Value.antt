-- Values: what a name may be bound to.
use Rattle.std.specs.Prelude.{ℕ, ℤ, Bool, false, ◌&&◌, nat_eq}
use Rattle.nd_model.specs.Arrays.Element.{Kind}
use Rattle.nd_model.specs.Arrays.View.{Geo}

-- the name of a base: the label of the cell that made it, and its number within the cell
pub record Base : Type 0 where
  pub label : ℕ
  pub number : ℕ

abbrev pub same_base : Base → Base → Bool
same_base a b = nat_eq a.label b.label && nat_eq a.number b.number

-- A Python integer, a Python Boolean, a NumPy scalar, an array, or a row: NumPy's structure scalar, which still sees
-- the bytes of its array. A row and an array without axes are two things.
pub data Value : Type 0 where
  Int : ℤ → Value
  Truth : Bool → Value
  Scalar : Kind → ℤ → Value
  Array : Base → Geo → Value
  Row : Base → Geo → Value

-- the value lies in the base
abbrev pub lies_in : Base → Value → Bool
lies_in b (Int n) = false
lies_in b (Truth t) = false
lies_in b (Scalar k n) = false
lies_in b (Array c g) = same_base b c
lies_in b (Row c g) = same_base b c
