-- Lists that begin again after a few items.
use Rattle.std.specs.Prelude.{◌≡◌, ℕ, ◌%◌, ◌<◌, List, length, slice_index}

-- each item is that of one turn
abbrev pub IsInTurns : (period : ℕ) → List ℕ → Type 0
IsInTurns period xs = (k : ℕ) → k < length xs → slice_index xs k ≡ slice_index xs (k % period)
