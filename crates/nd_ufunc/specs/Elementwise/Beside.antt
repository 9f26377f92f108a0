-- What stands beside the elements of a target that is written as it is read.
use Rattle.std.specs.Prelude.{◌≡◌, ℕ, ◌+◌, ◌^◌, ◌≤◌, true, ℤ, List}
use Rattle.std.specs.List.{All}
use Rattle.nd_model.specs.Arrays.Broadcast.{broadcast_view, broadcasts_to}
use Rattle.nd_model.specs.Arrays.Element.{Element, size_of}
use Rattle.nd_model.specs.Arrays.Tuple.{elements_of}
use Rattle.nd_model.specs.Arrays.View.{Geo, item_size}
use Rattle.nd_types.specs.Kinds.{kind_of}
use Rattle.nd_element.specs.Elements.{AreHeld, numbers_at}
use Rattle.nd_ufunc.specs.Loops.Feeds.{numbers_left, size_left}
use Rattle.nd_ufunc.specs.Elementwise.KeptOff.{KeepsOff}
use Rattle.nd_ufunc.specs.Elementwise.Stretched.{IsHeld, stretched_numbers}
use Rattle.nd_ufunc.specs.declared.elementwise.stretched.Stretched.TheVariants as stretched
use Rattle.nd_ufunc.specs.declared.elementwise.in_place.RightSide.{RightSide}
use Rattle.nd_ufunc.specs.declared.elementwise.in_place.RightSide.TheVariants as right
use Rattle.nd_ufunc.specs.declared.elementwise.beside.Beside.{Beside}
use Rattle.nd_ufunc.specs.declared.elementwise.beside.Beside.TheVariants as beside
use Rattle.nd_ufunc.specs.declared.elementwise.beside.LeftBeside.{LeftBeside}
use Rattle.nd_ufunc.specs.declared.elementwise.beside.LeftBeside.TheVariants as left

-- a view that is walked in a greater shape
pub record IsSpreadTo (g : Geo) (shape : List ℕ) : Type 0 where
  pub fits : broadcasts_to g.shape shape ≡ true
  pub few : elements_of shape ≤ 2 ^ 24

-- ---- all

abbrev pub beside_numbers : Beside → ℕ → List ℕ → List ℤ
beside_numbers (beside.Fixed s) n block = stretched_numbers s n
beside_numbers (beside.Own v e) n block = numbers_at e block v.places
beside_numbers (beside.FixedAlike v e bytes) n block = numbers_at e bytes.now v.now.places
beside_numbers (beside.OwnAlike v e) n block = numbers_at e block v.now.places
beside_numbers (beside.FixedSpread v s e bytes) n block = numbers_at e bytes.now (broadcast_view v.now s.now).places
beside_numbers (beside.OwnSpread v s e) n block = numbers_at e block (broadcast_view v.now s.now).places

-- the elements lie in their blocks, of which the target's has so many bytes
abbrev pub IsBeside : Beside → (len : ℕ) → Type 0
IsBeside (beside.Fixed s) len = IsHeld s
IsBeside (beside.Own v e) len = All (λ p. p + size_of e.kind ≤ len) v.places
IsBeside (beside.FixedAlike v e bytes) len = AreHeld e bytes.now v.now.places
IsBeside (beside.OwnAlike v e) len = All (λ p. p + size_of e.kind ≤ len) v.now.places
IsBeside (beside.FixedSpread v s e bytes) len = AreHeld e bytes.now (broadcast_view v.now s.now).places
IsBeside (beside.OwnSpread v s e) len = All (λ p. p + size_of e.kind ≤ len) (broadcast_view v.now s.now).places

-- numbers that stay lie in their bytes, and a view that is walked in the greater shape fits it
abbrev pub IsFixedHeld : Beside → Type 0
IsFixedHeld (beside.Fixed s) = IsHeld s
IsFixedHeld (beside.Own v e) = Unit {0}
IsFixedHeld (beside.FixedAlike v e bytes) = AreHeld e bytes.now v.now.places
IsFixedHeld (beside.OwnAlike v e) = Unit {0}
IsFixedHeld (beside.FixedSpread v s e bytes) = IsSpreadTo v.now s.now × AreHeld e bytes.now (broadcast_view v.now s.now).places
IsFixedHeld (beside.OwnSpread v s e) = IsSpreadTo v.now s.now

abbrev pub KeepsOffTarget : Beside → (first step : ℕ) → Type 0
KeepsOffTarget (beside.Fixed s) first step = Unit {0}
KeepsOffTarget (beside.Own v e) first step = KeepsOff (size_of e.kind) first step 0 v.places
KeepsOffTarget (beside.FixedAlike v e bytes) first step = Unit {0}
KeepsOffTarget (beside.OwnAlike v e) first step = KeepsOff (size_of e.kind) first step 0 v.now.places
KeepsOffTarget (beside.FixedSpread v s e bytes) first step = Unit {0}
KeepsOffTarget (beside.OwnSpread v s e) first step = KeepsOff (size_of e.kind) first step 0 (broadcast_view v.now s.now).places

-- the same of a right operand that is to be broadcast to a shape
abbrev pub KeepsOffBroadcast : RightSide → (shape : List ℕ) → (first step : ℕ) → Type 0
KeepsOffBroadcast (right.Number n) shape first step = Unit {0}
KeepsOffBroadcast (right.Own v) shape first step = KeepsOff (item_size v.now.element) first step 0 (broadcast_view v.now shape).places
KeepsOffBroadcast (right.Other v bytes) shape first step = Unit {0}

-- what stands beside are these elements of the target's block
abbrev pub IsOwnBeside : Beside → Element → List ℕ → Type 0
IsOwnBeside (beside.Own v e) f places = (e ≡ f) × (v.places ≡ places)
IsOwnBeside (beside.OwnAlike v e) f places = (e ≡ f) × (v.now.places ≡ places)
IsOwnBeside (beside.Fixed s) f places = ⊥
IsOwnBeside (beside.OwnSpread v s e) f places = (e ≡ f) × ((broadcast_view v.now s.now).places ≡ places) × IsSpreadTo v.now s.now
IsOwnBeside (beside.FixedAlike v e bytes) f places = ⊥
IsOwnBeside (beside.FixedSpread v s e bytes) f places = ⊥

-- what stands beside are these elements of other bytes
abbrev pub IsOtherBeside : Beside → Element → (bytes : List ℕ) → List ℕ → Type 0
IsOtherBeside (beside.Fixed (stretched.Elements v e bytes)) f bs places = (e ≡ f) × (bytes.now ≡ bs) × (v.places ≡ places)
IsOtherBeside (beside.FixedAlike v e bytes) f bs places = (e ≡ f) × (bytes.now ≡ bs) × (v.now.places ≡ places)
IsOtherBeside (beside.Fixed (stretched.Number z)) f bs places = ⊥
IsOtherBeside (beside.Own v e) f bs places = ⊥
IsOtherBeside (beside.FixedSpread v s e bytes) f bs places = (e ≡ f) × (bytes.now ≡ bs) × ((broadcast_view v.now s.now).places ≡ places) × IsSpreadTo v.now s.now
IsOtherBeside (beside.OwnAlike v e) f bs places = ⊥
IsOtherBeside (beside.OwnSpread v s e) f bs places = ⊥

-- ---- what is left

abbrev pub left_beside : LeftBeside → List ℕ → List ℤ
left_beside (left.Fixed f) block = numbers_left f
left_beside (left.Own o) block = numbers_at o.elem block o.walk
left_beside (left.FixedSpread o) block = numbers_at o.elements.elem o.bytes.now o.elements.walk
left_beside (left.OwnSpread o) block = numbers_at o.elem block o.walk

abbrev pub HeldBeside : LeftBeside → (len : ℕ) → Type 0
HeldBeside (left.Fixed f) len = Unit {0}
HeldBeside (left.Own o) len = All (λ p. p + size_of o.elem.kind ≤ len) o.walk
HeldBeside (left.FixedSpread o) len = AreHeld o.elements.elem o.bytes.now o.elements.walk
HeldBeside (left.OwnSpread o) len = All (λ p. p + size_of o.elem.kind ≤ len) o.walk

abbrev pub StaysBeside : LeftBeside → (first step at : ℕ) → Type 0
StaysBeside (left.Fixed f) first step at = Unit {0}
StaysBeside (left.Own o) first step at = KeepsOff (size_of o.elem.kind) first step at o.walk
StaysBeside (left.FixedSpread o) first step at = Unit {0}
StaysBeside (left.OwnSpread o) first step at = KeepsOff (size_of o.elem.kind) first step at o.walk

-- the size of the numbers that are converted
abbrev pub size_beside : LeftBeside → ℕ
size_beside (left.Fixed f) = size_left f
size_beside (left.Own o) = size_of (kind_of o.kind)
size_beside (left.FixedSpread o) = size_of (kind_of o.elements.kind)
size_beside (left.OwnSpread o) = size_of (kind_of o.kind)
