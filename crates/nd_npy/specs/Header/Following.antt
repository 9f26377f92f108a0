-- What stands behind a file.
use Rattle.std.specs.Prelude.{◌≡◌, ℕ, List, ◌++◌, Ok}
use Rattle.nd_model.specs.Formats.NpyReading.{NpyArray, read_npy}

-- REST IS IGNORED: whatever bytes follow a file, it comes to the same array
abbrev pub RestIsIgnored : Type 0
RestIsIgnored = (bytes rest : List ℕ) (a : NpyArray) → read_npy bytes ≡ Ok a → read_npy (bytes ++ rest) ≡ Ok a
