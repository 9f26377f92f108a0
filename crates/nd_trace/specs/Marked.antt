-- What is marked in several bases, and which keys are read.
use Rattle.std.specs.Prelude.{ℕ, Bool, false, ◌||◌, bytes_eq, List, [], ◌∷◌, if◌then◌else◌}
use Rattle.nd_model.specs.Arrays.Value.{Base, same_base}
use Rattle.nd_model.specs.Cells.Running.{Key, Name, Input, Length, Byte, OfRule}
use Rattle.nd_marks.specs.Marks.{Places, holds}
use Rattle.nd_heap.specs.Live.{is_base_among}

abbrev pub is_among : List (List ℕ) → List ℕ → Bool
is_among [] n = false
is_among (m ∷ ms) n = bytes_eq m n || is_among ms n

-- the place of the base is marked
abbrev pub is_marked : List (Base × Places) → Base → ℕ → Bool
is_marked [] b p = false
is_marked (e ∷ es) b p = if same_base e.0 b then holds e.1 p else is_marked es b p

abbrev pub is_read : List (List ℕ) → List (List ℕ) → List Base → List (Base × Places) → Key → Bool
is_read looked asked lengths used (Name n) = is_among looked n
is_read looked asked lengths used (Input n) = is_among asked n
is_read looked asked lengths used (Length b) = is_base_among lengths b
is_read looked asked lengths used (Byte b p) = is_marked used b p
is_read looked asked lengths used OfRule = false
