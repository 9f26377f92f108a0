-- The new array of numbers.
use Rattle.std.specs.Prelude.{ℕ, ℤ, not, List, Result, Ok}
use Rattle.std.specs.List.{list_any}
use Rattle.nd_model.specs.Arrays.Content.{Num, array_bytes}
use Rattle.nd_model.specs.Arrays.Element.{Kind}
use Rattle.nd_model.specs.Making.Elementwise.{Numbers, little}
use Rattle.nd_model.specs.Making.Operators.{BinaryUfunc, is_power_below}
use Rattle.nd_model.specs.Cells.Fault.{Fault, Ufunc, NegativePower}
use Rattle.nd_model.specs.Cells.Refusing.{◌>>=◌, when}
use Rattle.nd_model.specs.Arrays.View.{One, Geo, contiguous}
use Rattle.nd_ufunc.specs.Loops.Results.{binary_result, result_bytes}

-- it is alone in its block, in C order
abbrev pub new_array : Numbers → Geo × List ℕ
new_array n = (contiguous (One (little n.kind)) n.shape, array_bytes (One (little n.kind)) n.shape (λ t. Num (n.number t)))

abbrev pub array_of : Result Numbers Fault → Result (Geo × List ℕ) Fault
array_of r = r >>= (λ n. Ok (new_array n))

-- the bytes of the results for two lists of numbers, unless an exponent is below zero
abbrev pub bytes_unless_below : BinaryUfunc → Kind → List ℤ → List ℤ → Result (List ℕ) Fault
bytes_unless_below f k xs ys = when (not (list_any (is_power_below f) ys)) (Ufunc NegativePower) (Ok (result_bytes (little k) (binary_result f k) xs ys))

-- a view, with the bytes of its block
abbrev pub with_view : Geo → Result (List ℕ) Fault → Result (Geo × List ℕ) Fault
with_view v r = r >>= (λ b. Ok (v, b))
