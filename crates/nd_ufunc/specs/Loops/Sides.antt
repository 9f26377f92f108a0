-- The numbers of one side of a function.
use Rattle.std.specs.Prelude.{◌≡◌, ℕ, ◌*◌, ◌≤◌, ℤ, List, length, map}
use Rattle.nd_model.specs.Arrays.Content.{number_at}
use Rattle.nd_model.specs.Arrays.Element as element
use Rattle.nd_model.specs.Arrays.Element.{IsValue, size_of}
use Rattle.nd_model.specs.Making.Elementwise.{little}
use Rattle.nd_model.specs.Arrays.Tuple.{count_up}
use Rattle.nd_types.specs.Kinds.{kind_of}
use Rattle.nd_types.specs.declared.kind.Kind.{Kind}
use Rattle.nd_ufunc.specs.declared.loops.kernel.Side.{Side}
use Rattle.nd_ufunc.specs.declared.loops.kernel.Side.TheVariants.{Same, Each}

-- the number in this place
abbrev pub number_on : Side → ℕ → ℤ
number_on (Same z) j = z
number_on (Each bytes k) j = number_at (little (kind_of k)) bytes.now (j * size_of (kind_of k))

-- there are so many numbers
abbrev pub HasNumbers : Side → ℕ → Type 0
HasNumbers (Same z) n = Unit {0}
HasNumbers (Each bytes k) n = n * size_of (kind_of k) ≤ length bytes.now

-- the first ones
abbrev pub numbers_on : Side → ℕ → List ℤ
numbers_on s n = map (number_on s) (count_up 0 n)

-- numbers side by side are of the kind
abbrev pub IsOf : Side → Kind → Type 0
IsOf (Same z) k = Unit {0}
IsOf (Each bytes j) k = j ≡ k

-- each number of a kind is one of another
abbrev pub Keeps : element.Kind → element.Kind → Type 0
Keeps from to = (z : ℤ) → IsValue from z → IsValue to z
