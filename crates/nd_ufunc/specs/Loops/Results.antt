-- The bytes of results that stand one after another.
use Rattle.std.specs.Prelude.{ℕ, ℤ, List, [], ◌∷◌, ◌++◌}
use Rattle.nd_model.specs.Arrays.Element.{Kind, Element, bytes_of, wrap}
use Rattle.nd_model.specs.Making.Operators.{BinaryUfunc, exact}

-- what a function of two numbers gives, for a result of a kind
abbrev pub binary_result : BinaryUfunc → Kind → ℤ → ℤ → ℤ
binary_result f k x y = wrap k (exact k f x y)

-- of two lists of numbers, as far as both go
abbrev pub result_bytes : Element → (ℤ → ℤ → ℤ) → List ℤ → List ℤ → List ℕ
result_bytes e f (x ∷ xs) (y ∷ ys) = bytes_of e (f x y) ++ result_bytes e f xs ys
result_bytes e f _ _ = []
