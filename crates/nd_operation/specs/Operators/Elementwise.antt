-- The arrays that functions of NumPy make, element by element.
use Rattle.std.specs.Prelude.{◌≡◌, ℕ, false, List, None}
use Rattle.nd_model.specs.Arrays.Content.{Num, array_bytes}
use Rattle.nd_model.specs.Arrays.Element.{IsValue, size_of}
use Rattle.nd_model.specs.Making.Elementwise.{Numbers, little}
use Rattle.nd_model.specs.Making.Operand.{Operand, Plain, Elements}
use Rattle.nd_model.specs.Arrays.Strides.{limit_fault}
use Rattle.nd_model.specs.Arrays.View.{Geo, One, contiguous}

-- a row is an array without axes
abbrev pub as_array : Operand → Operand
as_array (Plain n) = Plain n
as_array (Elements row g cs) = Elements false g cs

-- the view and the block are the new array of these numbers
pub record IsArrayOf (n : Numbers) (g : Geo) (bytes : List ℕ) : Type 0 where
  pub view : g ≡ contiguous (One (little n.kind)) n.shape
  pub block : bytes ≡ array_bytes (One (little n.kind)) n.shape (λ t. Num (n.number t))
  pub valid : (t : List ℕ) → IsValue n.kind (n.number t)
  pub limits : limit_fault (size_of n.kind) n.shape ≡ None
