-- Lanes: as many numbers at a time as one fold takes.
use Rattle.std.specs.Prelude.{ℕ, zero, suc, ◌*◌, ℤ, List, [], ◌∷◌, ◌++◌, map, take, drop}
use Rattle.std.specs.List.{flat_map}
use Rattle.nd_model.specs.Grammar.Calls.{Reduction}
use Rattle.nd_model.specs.Arrays.Content.{number_at}
use Rattle.nd_model.specs.Arrays.Element.{Kind, bytes_of, size_of, wrap}
use Rattle.nd_model.specs.Making.Elementwise.{little}
use Rattle.nd_model.specs.Making.Reductions.{folded}
use Rattle.nd_model.specs.Arrays.Tuple.{count_up}

-- the first numbers of a kind that stand side by side in the bytes
abbrev pub numbers_in : Kind → List ℕ → ℕ → List ℤ
numbers_in k bytes n = map (λ j. number_at (little k) bytes (j * size_of k)) (count_up 0 n)

-- so many lanes of n numbers each
abbrev pub lanes_in : (n lanes : ℕ) → List ℤ → List (List ℤ)
lanes_in n zero zs = []
lanes_in n (suc lanes) zs = take n zs ∷ lanes_in n lanes (drop n zs)

-- the bytes of the fold of each lane, in this kind
abbrev pub fold_bytes : Reduction → Kind → List (List ℤ) → List ℕ
fold_bytes r k lanes = flat_map (λ zs. bytes_of (little k) (wrap k (folded r zs))) lanes

-- ---- folds of the first numbers

-- the folds of these numbers with the first ones of others, of one and more
abbrev pub prefix_folds : Reduction → (taken : List ℤ) → List ℤ → List ℤ
prefix_folds r taken [] = []
prefix_folds r taken (z ∷ zs) = folded r (taken ++ z ∷ []) ∷ prefix_folds r (taken ++ z ∷ []) zs

-- the bytes of numbers, in this kind
abbrev pub number_bytes : Kind → List ℤ → List ℕ
number_bytes k zs = flat_map (λ z. bytes_of (little k) (wrap k z)) zs

-- those of the folds of the first numbers of a lane
abbrev pub prefix_bytes : Reduction → Kind → List ℤ → List ℕ
prefix_bytes r k zs = number_bytes k (prefix_folds r [] zs)
