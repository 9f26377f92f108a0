-- Names in layers: old ones, newer values of some of these, and names that were added behind them. Blocks that are there, or gone.
use Rattle.std.specs.Prelude.{◌≡◌, ◌<◌, ◌≤◌, ◌%◌, ℕ, Bool, true, false, ◌||◌, List, [], ◌∷◌, None, Some, if◌then◌else◌, slice_get, unwrap_or}
use Rattle.nd_model.specs.Arrays.Value.{Base, Value, same_base, lies_in}
use Rattle.nd_model.specs.Cells.Session.{Names, lookup}
use Rattle.nd_heap.specs.Live.{is_base_among}

-- the old names, each with its newer value where there is one
abbrev pub overridden : (newer old : Names) → Names
overridden newer [] = []
overridden newer (e ∷ es) = (e.0, unwrap_or (lookup e.0 newer) e.1) ∷ overridden newer es

-- no name stands twice
abbrev pub AreDistinctNames : Names → Type 0
AreDistinctNames [] = Unit {0}
AreDistinctNames (e ∷ es) = (lookup e.0 es ≡ None) × AreDistinctNames es

-- beside each value that lies in a base stands the end of the base's label, as far as these marks reach
abbrev pub AreMarked : Names → List ℕ → Type 0
AreMarked [] ms = Unit {0}
AreMarked (e ∷ es) [] = Unit {0}
AreMarked (e ∷ es) (m ∷ ms) = ((b : Base) → lies_in b e.1 ≡ true → b.label % 4294967296 ≡ m) × AreMarked es ms

-- the values from a place up to another, beside which these marks stand, lie in no base of a mark
abbrev pub LieElsewhere : List ℕ → ℕ → ℕ → ℕ → Type 0
LieElsewhere ms m from to = (es : Names) → AreMarked es ms → (k : ℕ) → from ≤ k → k < to → (e : List ℕ × Value) → slice_get es k ≡ Some e → (b : Base) → b.label % 4294967296 ≡ m → lies_in b e.1 ≡ false

-- there is a block of this base
abbrev pub is_block_among : List (Base × List ℕ) → Base → Bool
is_block_among [] b = false
is_block_among (e ∷ es) b = same_base e.0 b || is_block_among es b

-- the blocks but those of some bases
abbrev pub without : List Base → List (Base × List ℕ) → List (Base × List ℕ)
without gone [] = []
without gone (e ∷ es) = if is_base_among gone e.0 then without gone es else e ∷ without gone es

-- what contracts see of a table of blocks
pub record TableData : Type 0 where
  pub blocks : List (Base × List ℕ)
  -- how many blocks can be taken out without memory
  pub room : ℕ
