-- Where an operator in place needs no memory: its results can be written as they are worked out.
use Rattle.std.specs.Prelude.{◌≡◌, ℕ, ◌+◌, ◌*◌, ◌≤◌, ◌⊎◌, length, slice_index}
use Rattle.std.specs.List.{All}
use Rattle.nd_model.specs.Arrays.Broadcast.{broadcast_view}
use Rattle.nd_model.specs.Arrays.View.{Geo, item_size}
use Rattle.nd_view.specs.SideBySide.{side_by_side}
use Rattle.nd_ufunc.specs.declared.elementwise.in_place.RightSide.{RightSide}
use Rattle.nd_ufunc.specs.declared.elementwise.in_place.RightSide.TheVariants.{Number, Own, Other}

-- the elements lie one after another in C order, without gaps
abbrev pub IsGapless : Geo → Type 0
IsGapless g = g.places ≡ side_by_side (item_size g.element) (slice_index g.places 0) (length g.places)

-- an element of so many bytes has none from the first byte of a target without gaps to its last one
abbrev pub IsOutside : (target : Geo) → (size : ℕ) → ℕ → Type 0
IsOutside g size p = (p + size ≤ slice_index g.places 0) ⊎ (slice_index g.places 0 + length g.places * item_size g.element ≤ p)

-- beside the target, a view of its own block has the target's byte offsets, or lies outside the target
abbrev pub IsApart : (target : Geo) → RightSide → Type 0
IsApart g (Number n) = Unit {0}
IsApart g (Own v) = let places = (broadcast_view v.now g.shape).places in (places ≡ g.places) ⊎ All (IsOutside g (item_size v.now.element)) places
IsApart g (Other v bytes) = Unit {0}

-- THE OPERATORS IN PLACE THAT NEED NO MEMORY
abbrev pub IsDirect : (target : Geo) → RightSide → Type 0
IsDirect g right = IsGapless g × IsApart g right
