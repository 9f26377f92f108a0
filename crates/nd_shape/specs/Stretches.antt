-- The strides of views that are stretched, and common shapes axis by axis.
use Rattle.std.specs.Prelude.{ℕ, ◌==◌, ◌||◌, ◌&&◌, Bool, true, ℤ, pos, if◌then◌else◌, List, [], ◌∷◌, ◌++◌, replicate}

-- an axis of length 1 is not walked
abbrev pub own_stride : ℕ → ℤ → ℤ
own_stride n s = if n == 1 then pos 0 else s

abbrev pub own_strides : List ℕ → List ℤ → List ℤ
own_strides [] strides = []
own_strides (n ∷ shape) [] = []
own_strides (n ∷ shape) (s ∷ strides) = own_stride n s ∷ own_strides shape strides

-- the strides of a shape with `more` axes in front of it
abbrev pub stretched_strides : ℕ → List ℕ → List ℤ → List ℤ
stretched_strides more shape strides = replicate more (pos 0) ++ own_strides shape strides

-- ---- shapes with their last axes first

abbrev pub is_common : ℕ → ℕ → Bool
is_common m n = m == n || (m == 1 || n == 1)

abbrev pub are_common : List ℕ → List ℕ → Bool
are_common [] t = true
are_common (m ∷ s) [] = true
are_common (m ∷ s) (n ∷ t) = is_common m n && are_common s t

abbrev pub joined_length : ℕ → ℕ → ℕ
joined_length m n = if m == 1 then n else m

abbrev pub joined_shape : List ℕ → List ℕ → List ℕ
joined_shape [] t = t
joined_shape (m ∷ s) [] = m ∷ s
joined_shape (m ∷ s) (n ∷ t) = joined_length m n ∷ joined_shape s t
