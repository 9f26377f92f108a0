-- The numbers of an argument in a greater shape.
use Rattle.std.specs.Prelude.{◌≡◌, ℕ, ℤ, List, length, replicate}
use Rattle.nd_element.specs.Elements.{AreHeld, numbers_at}
use Rattle.nd_ufunc.specs.declared.elementwise.stretched.Stretched.{Stretched}
use Rattle.nd_ufunc.specs.declared.elementwise.stretched.Stretched.TheVariants.{Number, Elements}

-- in C order, where the shape has so many elements
abbrev pub stretched_numbers : Stretched → ℕ → List ℤ
stretched_numbers (Number z) n = replicate n z
stretched_numbers (Elements v e bytes) n = numbers_at e bytes.now v.places

-- every byte of each element is one of the block
abbrev pub IsHeld : Stretched → Type 0
IsHeld (Number z) = Unit {0}
IsHeld (Elements v e bytes) = AreHeld e bytes.now v.places

-- there are so many of them
abbrev pub HasCount : Stretched → ℕ → Type 0
HasCount s n = length (stretched_numbers s n) ≡ n
