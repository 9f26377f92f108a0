-- Numbers that stand in rows, one under another, and the columns that they make.
use Rattle.std.specs.Prelude.{◌≡◌, ℕ, zero, suc, ◌*◌, ◌<◌, ℤ, Bool, Option, Some, None, List, [], ◌∷◌, ◌++◌, length, drop, take, replicate, if◌then◌else◌}
use Rattle.std.specs.List.{All}
use Rattle.nd_model.specs.Grammar.Calls.{Reduction}
use Rattle.nd_model.specs.Arrays.Content.{number_at}
use Rattle.nd_model.specs.Arrays.Element.{Kind, IsValue, size_of, wrap}
use Rattle.nd_model.specs.Making.Elementwise.{little}
use Rattle.nd_model.specs.Making.Reductions.{folded}
use Rattle.nd_reduce.specs.Folds.Lanes.{fold_bytes}

-- a row is put under the columns
abbrev pub more_columns : (columns : List (List ℤ)) (row : List ℤ) → List (List ℤ)
more_columns (c ∷ columns) (z ∷ row) = (c ++ z ∷ []) ∷ more_columns columns row
more_columns _ _ = []

-- so many rows of n numbers are: what the columns are under each of them, or under the last one alone
abbrev pub row_columns : (each : Bool) (n rows : ℕ) (columns : List (List ℤ)) (zs : List ℤ) → List (List ℤ)
row_columns each n zero columns zs = if each then [] else columns
row_columns each n (suc rows) columns zs =
    (if each then more_columns columns (take n zs) else []) ++ row_columns each n rows (more_columns columns (take n zs)) (drop n zs)

-- the same of each of so many tables, which have so many rows
abbrev pub table_columns : (each : Bool) (n rows tables : ℕ) → List ℤ → List (List ℤ)
table_columns each n rows zero zs = []
table_columns each n rows (suc tables) zs = row_columns each n rows (replicate n []) zs ++ table_columns each n rows tables (drop (rows * n) zs)

-- how many rows of results a table of so many rows has
abbrev pub rows_kept : (each : Bool) (rows : ℕ) → ℕ
rows_kept each rows = if each then rows else 1

-- how many bytes are kept beside the fold of each column: another fold of it, or nothing
abbrev pub best_size : Option Reduction → Kind → ℕ
best_size None kind = 0
best_size (Some b) kind = size_of kind

-- the bytes kept beside the folds of columns
abbrev pub HasBests : Option Reduction → Kind → List ℕ → List (List ℤ) → Type 0
HasBests None kind bytes columns = Unit {0}
HasBests (Some b) kind bytes columns = bytes ≡ fold_bytes b kind columns

-- those of the column of this index
abbrev pub HasBest : Option Reduction → Kind → List ℕ → (index : ℕ) → List ℤ → Type 0
HasBest None kind bytes index zs = Unit {0}
HasBest (Some b) kind bytes index zs = number_at (little kind) bytes (index * size_of kind) ≡ wrap kind (folded b zs)

-- columns of so many numbers of a kind
pub record AreColumns (kind : Kind) (taken : ℕ) (columns : List (List ℤ)) : Type 0 where
  pub long : All (λ zs. length zs ≡ taken) columns
  pub values : All (λ zs. All (λ z. IsValue kind z) zs) columns

-- with the bytes of their folds and those beside them, once there are some
pub record AreFolds (r : Reduction) (b : Option Reduction) (kind to : Kind) (taken : ℕ) (bytes bests : List ℕ) (columns : List (List ℤ)) : Type 0 where
  pub all : AreColumns kind taken columns
  pub written : 0 < taken → bytes ≡ fold_bytes r to columns
  pub beside : 0 < taken → HasBests b kind bests columns
