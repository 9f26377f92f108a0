-- Broadcasting, as in NumPy's user guide: shapes are aligned at the last axis; lengths are equal or one of them is 1; a missing
-- axis counts as 1.
use Rattle.std.specs.Prelude.{ℕ, ◌-◌, ◌==◌, nat_le, Bool, true, false, ◌&&◌, ◌||◌, if◌then◌else◌, List, [], ◌∷◌, length, drop, reverse, Option, Some, None, option_map, Result, Err}
use Rattle.nd_model.specs.Arrays.View.{ElementType, Geo, rearranged_view, item_size}
use Rattle.nd_model.specs.Arrays.Strides.{limit_fault}
use Rattle.nd_model.specs.Cells.Fault.{Fault, ViewFault, View}

abbrev pub common_length : ℕ → ℕ → Option ℕ
common_length m n = if m == n then Some m else (if m == 1 then Some n else (if n == 1 then Some m else None))

abbrev pub and_axis : Option ℕ → Option (List ℕ) → Option (List ℕ)
and_axis (Some n) (Some shape) = Some (n ∷ shape)
and_axis _ _ = None

-- of shapes with their last axes first
abbrev pub common_axes : List ℕ → List ℕ → Option (List ℕ)
common_axes [] t = Some t
common_axes (m ∷ s) [] = Some (m ∷ s)
common_axes (m ∷ s) (n ∷ t) = and_axis (common_length m n) (common_axes s t)

-- the common shape
abbrev pub broadcast : List ℕ → List ℕ → Option (List ℕ)
broadcast s t = option_map reverse (common_axes (reverse s) (reverse t))

-- of the same number of axes: each length is that of the other shape, or 1
abbrev pub can_stretch : List ℕ → List ℕ → Bool
can_stretch [] [] = true
can_stretch (n ∷ s) (m ∷ t) = (n == m || n == 1) && can_stretch s t
can_stretch _ _ = false

-- the last axes of a shape or a tuple, as many as the shape has
abbrev pub last_axes : List ℕ → List ℕ → List ℕ
last_axes s t = drop (length t - length s) t

-- a shape broadcasts to another
abbrev pub broadcasts_to : List ℕ → List ℕ → Bool
broadcasts_to s t = nat_le (length s) (length t) && can_stretch s (last_axes s t)

abbrev pub narrowed_axes : List ℕ → List ℕ → List ℕ
narrowed_axes [] t = []
narrowed_axes (n ∷ s) [] = []
narrowed_axes (n ∷ s) (i ∷ t) = (if n == 1 then 0 else i) ∷ narrowed_axes s t

-- the index tuple of an operand of this shape that stands at an index tuple of the common shape
abbrev pub own_tuple : List ℕ → List ℕ → List ℕ
own_tuple s t = narrowed_axes s (last_axes s t)

-- the view of a greater shape; it is read-only
abbrev pub broadcast_view : Geo → List ℕ → Geo
broadcast_view g shape = record (rearranged_view g shape (own_tuple g.shape)) { writable = false }

abbrev pub unless_fault : {A : Type 0} → Option ViewFault → Result A Fault → Result A Fault
unless_fault None then_this = then_this
unless_fault (Some f) then_this = Err (View f)

-- where the limits of arrays allow it
abbrev pub in_limits : {A : Type 0} → ElementType → List ℕ → Result A Fault → Result A Fault
in_limits t shape then_this = unless_fault (limit_fault (item_size t) shape) then_this
