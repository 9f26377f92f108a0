-- The elements of two axes, row by row, and grids that may be copied column by column.
use Rattle.std.specs.Prelude.{◌≡◌, ℕ, ◌+◌, ◌*◌, ◌<◌, ◌≤◌, List, map}
use Rattle.std.specs.List.{flat_map}
use Rattle.nd_model.specs.Arrays.Tuple.{count_up}
use Rattle.nd_assign.specs.declared.grid.Crossed.{Crossed}
use Rattle.nd_assign.specs.declared.grid.Grid.{Grid}
use Rattle.nd_assign.specs.declared.grid.Stack.{Stack}

-- the place of the element in this row and this column
abbrev pub grid_place : (start across along row column : ℕ) → ℕ
grid_place start across along row column = (start + row * across) + column * along

-- the places of all elements in C order
abbrev pub grid_places : Grid → List ℕ
grid_places g = flat_map (λ i. map (grid_place g.start g.across g.along i) (count_up 0 g.columns)) (count_up 0 g.rows)

-- the grid that lies so many bytes behind
abbrev pub moved_by : Grid → ℕ → Grid
moved_by g bytes = record {
  start = g.start + bytes;
  rows = g.rows;
  across = g.across;
  columns = g.columns;
  along = g.along;
}

-- the places of the elements of the first n grids
abbrev pub stack_places : Stack → ℕ → List ℕ
stack_places s n = flat_map (λ k. grid_places (moved_by s.first (k * s.jump))) (count_up 0 n)

-- `count` of the rows
abbrev pub part_of : Grid → (first count : ℕ) → Grid
part_of g first count = record {
  start = g.start + first * g.across;
  rows = count;
  across = g.across;
  columns = g.columns;
  along = g.along;
}

-- no byte of an element belongs to one of an earlier column
abbrev pub AreColumnsApart : ℕ → Grid → Type 0
AreColumnsApart size g =
    (i k j n q : ℕ) → i < g.rows → k < g.rows → j < n → n < g.columns
    → grid_place g.start g.across g.along k n ≤ q → q < grid_place g.start g.across g.along k n + size
    → grid_place g.start g.across g.along i j ≤ q → grid_place g.start g.across g.along i j + size ≤ q

-- stacks of one shape, which has elements, for a target whose grids may be written column by column
pub record AreCrossed (size : ℕ) (c : Crossed) : Type 0 where
  pub count : c.source.count ≡ c.target.count
  pub rows : c.source.first.rows ≡ c.target.first.rows
  pub columns : c.source.first.columns ≡ c.target.first.columns
  pub tall : 0 < c.target.first.rows
  pub wide : 0 < c.target.first.columns
  pub band : 0 < c.band
  pub apart : AreColumnsApart size c.target.first
