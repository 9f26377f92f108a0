-- Runs whose elements stand side by side.
use Rattle.std.specs.Prelude.{◌≡◌, ℕ, ◌+◌, ◌*◌, ◌<◌, ◌≤◌, List, length, slice_index}

-- elements of this size, all bytes of which are among so many
pub record IsPacked (size len : ℕ) (run : List ℕ) : Type 0 where
  pub places : (k : ℕ) → k < length run → slice_index run k ≡ slice_index run 0 + k * size
  pub inside : (k : ℕ) → k < length run → slice_index run 0 + k * size + size ≤ len
