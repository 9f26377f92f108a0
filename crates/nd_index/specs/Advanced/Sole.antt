-- An array that is alone in an index.
use Rattle.std.specs.Prelude.{◌≡◌, ℕ, ◌+◌, ◌≤◌, ℤ, List, map, take, drop}
use Rattle.nd_model.specs.Indexing.Advanced as model
use Rattle.nd_model.specs.Arrays.Strides.{way_to}
use Rattle.nd_model.specs.Arrays.Tuple.{indices}
use Rattle.nd_index.specs.Advanced.IndexNumbers.{numbers_in}
use Rattle.nd_index.specs.Advanced.Takes.{axes_taken}
use Rattle.nd_index.specs.Advanced.TakenWays.{way_taken}
use Rattle.nd_index.specs.declared.advanced.sole.SoleArray.{SoleArray}

-- Each of its numbers is asked for once and in their order, and nothing else leads anywhere.
pub record IsSole (ts : List model.Take) (many : List ℕ) (s : SoleArray) : Type 0 where
  pub axes : s.axis + s.spread.now.axes ≤ axes_taken ts
  pub ways : (sizes : List ℕ) (strides : List ℤ) → map (way_taken ts sizes strides) (indices many)
      ≡ map (λ k. way_to (model.unravelled (take s.spread.now.axes (drop s.axis sizes)) k) (take s.spread.now.axes (drop s.axis strides))) (numbers_in s.spread.now.numbers)
