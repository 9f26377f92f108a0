-- An assignment that is made ready, and what its write leaves of a block.
use Rattle.std.specs.Prelude.{ℕ, ◌==◌, if◌then◌else◌, List, length, Option, Some, None}
use Rattle.nd_model.specs.Arrays.View.{Geo}
use Rattle.nd_assign.specs.Copies.{with_copies}

-- The elements of the source are copied to those of the target, in a block of `len` bytes. The source is read from other bytes where
-- there are any, and else from the block.
pub record Prepared : Type 0 where
  pub target : Geo
  pub source : Geo
  pub bytes : Option (List ℕ)
  pub len : ℕ

-- the bytes that are read
abbrev pub bytes_or : Option (List ℕ) → List ℕ → List ℕ
bytes_or None block = block
bytes_or (Some bytes) block = bytes

-- THE BYTES OF A BLOCK after the write: one of another length stays as it is
abbrev pub written_by : Prepared → List ℕ → List ℕ
written_by a block =
    if length block == a.len
    then with_copies a.target.element a.source.element (bytes_or a.bytes block) a.target.places a.source.places block
    else block
