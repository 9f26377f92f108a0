-- What is reduced, and the new array of numbers.
use Rattle.std.specs.Prelude.{ℕ, false, List, Result, Ok, length, map, slice_index}
use Rattle.nd_model.specs.Arrays.Content.{Content, Num, array_bytes, contents_in}
use Rattle.nd_model.specs.Making.Elementwise.{Numbers, little}
use Rattle.nd_model.specs.Cells.Fault.{Fault}
use Rattle.nd_model.specs.Making.Operand.{Operand, Elements}
use Rattle.nd_model.specs.Cells.Refusing.{◌>>=◌}
use Rattle.nd_model.specs.Arrays.View.{One, Geo, byte_places, contiguous}

-- the contents of a view's elements, in the block that they lie in
abbrev pub contents_over : Geo → List ℕ → List Content
contents_over g block = contents_in g.element (length g.places) (map (λ p. slice_index block p) (byte_places g))

abbrev pub array_operand : Geo → List ℕ → Operand
array_operand g block = Elements false g (contents_over g block)

-- the new array is alone in its block, in C order
abbrev pub new_array : Numbers → Geo × List ℕ
new_array n = (contiguous (One (little n.kind)) n.shape, array_bytes (One (little n.kind)) n.shape (λ t. Num (n.number t)))

abbrev pub array_of : Result Numbers Fault → Result (Geo × List ℕ) Fault
array_of r = r >>= (λ n. Ok (new_array n))
