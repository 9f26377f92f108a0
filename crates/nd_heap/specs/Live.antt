-- The bytes of blocks, and bases that are among others.
use Rattle.std.specs.Prelude.{ℕ, Bool, false, ◌||◌, List, [], ◌∷◌, if◌then◌else◌}
use Rattle.nd_model.specs.Arrays.Value.{Base, same_base}

-- the bytes of a block, and none where there is no such block
abbrev pub bytes_at : List (Base × List ℕ) → Base → List ℕ
bytes_at [] b = []
bytes_at (e ∷ es) b = if same_base e.0 b then e.1 else bytes_at es b

abbrev pub is_base_among : List Base → Base → Bool
is_base_among [] b = false
is_base_among (c ∷ cs) b = same_base c b || is_base_among cs b
