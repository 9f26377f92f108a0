-- Numbers that are replaced by results, in a type of their own.
use Rattle.std.specs.Prelude.{ℕ, ℤ, List, [], ◌∷◌}
use Rattle.std.specs.List.{flat_map}
use Rattle.nd_model.specs.Arrays.Element.{Element, Kind, IsValue, bytes_of, wrap}
use Rattle.nd_ufunc.specs.Loops.Results.{result_bytes}

-- each is one of the kind
abbrev pub AreValues : Kind → List ℤ → Type 0
AreValues k [] = Unit {0}
AreValues k (z ∷ zs) = IsValue k z × AreValues k zs

-- what a function gives is
abbrev pub Wraps : Kind → (ℤ → ℤ → ℤ) → Type 0
Wraps k f = (x y : ℤ) → IsValue k (f x y)

-- the bytes of numbers that are converted to a type, one after another
abbrev pub written_numbers : Element → List ℤ → List ℕ
written_numbers e zs = flat_map (λ z. bytes_of e (wrap e.kind z)) zs

-- those of what a function gives of two lists of numbers
abbrev pub replaced : Element → (ℤ → ℤ → ℤ) → List ℤ → List ℤ → List ℕ
replaced e f xs ys = result_bytes e (λ x y. wrap e.kind (f x y)) xs ys
