-- Views of another shape or type lie where the view lies.
use Rattle.std.specs.Prelude.{◌≡◌, ℕ, ◌≤◌, ◌^◌, ℤ, pos, ◌≤ℤ◌, List, length, Ok}
use Rattle.std.specs.List.{All}
use Rattle.nd_model.specs.Arrays.Element.{Element}
use Rattle.nd_model.specs.Arrays.View.{Geo}
use Rattle.nd_model.specs.Cells.Sound.{LiesIn}
use Rattle.nd_model.specs.Indexing.Transposing.{transpose, reversed_view}
use Rattle.nd_model.specs.Indexing.Stretching.{broadcast_to}
use Rattle.nd_model.specs.Indexing.Recasting.{view_as}
use Rattle.nd_model.specs.Indexing.Reshaping.{View, reshape}

-- THE LAW OF TRANSPOSED VIEWS
abbrev pub TransposedLies : Type 0
TransposedLies = (zs : List ℤ) (g h : Geo) (len : ℕ) → LiesIn len g → transpose zs g ≡ Ok h → LiesIn len h

-- THE LAW OF REVERSED AXES
abbrev pub ReversedLies : Type 0
ReversedLies = (g : Geo) (len : ℕ) → LiesIn len g → LiesIn len (reversed_view g)

-- THE LAW OF BROADCASTING
abbrev pub StretchedLies : Type 0
StretchedLies = (shape : List ℕ) (g h : Geo) (len : ℕ) → LiesIn len g → broadcast_to shape g ≡ Ok h → LiesIn len h

-- THE LAW OF OTHER TYPES
abbrev pub RecastLies : Type 0
RecastLies = (e : Element) (g h : Geo) (len : ℕ) → LiesIn len g → view_as e g ≡ Ok h → LiesIn len h

-- THE LAW OF OTHER SHAPES: of at most 32 lengths, none above 2^32
abbrev pub ReshapedLies : Type 0
ReshapedLies = (zs : List ℤ) (g h : Geo) (len : ℕ) → length zs ≤ 32 → All (λ z. z ≤ℤ pos (2 ^ 32)) zs → LiesIn len g → reshape zs g ≡ Ok (View h) → LiesIn len h
