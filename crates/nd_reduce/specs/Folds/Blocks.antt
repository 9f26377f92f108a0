-- Blocks of numbers that stand side by side.
use Rattle.std.specs.Prelude.{◌≡◌, ℕ, ◌+◌, ◌*◌, ◌<◌, ◌≤◌, ℤ, Bool, List, drop}
use Rattle.std.specs.List.{position_or_len}
use Rattle.std.specs.Ordering.{int_eq}
use Rattle.nd_model.specs.Arrays.Element.{Kind, size_of}
use Rattle.nd_model.specs.Making.Reductions.{best, best_place}
use Rattle.nd_reduce.specs.Folds.Lanes.{numbers_in}

-- the numbers of a block that begins at this index
abbrev pub block_in : Kind → List ℕ → (from size : ℕ) → List ℤ
block_in k bytes from size = numbers_in k (drop (from * size_of k) bytes) size

-- of n numbers this block has the first of the best ones, z
pub record IsFirstBlock (better : ℤ → ℤ → Bool) (k : Kind) (bytes : List ℕ) (n from size : ℕ) (z : ℤ) : Type 0 where
  pub some : 0 < size
  pub inside : from + size ≤ n
  pub whole : z ≡ best better (numbers_in k bytes n)
  pub own : z ≡ best better (block_in k bytes from size)
  pub at : best_place better (numbers_in k bytes n) ≡ from + best_place better (block_in k bytes from size)

-- the index of the first of the numbers that is this one, and their count where none is
unfoldable pub first_index : ℤ → List ℤ → ℕ
first_index n zs = position_or_len (λ z. int_eq z n) zs
