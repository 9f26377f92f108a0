-- The ways in which an assignment that is made ready writes.
use Rattle.std.specs.Prelude.{◌≡◌, ◌≢◌, ℕ, ◌+◌, ◌-◌, ◌≤◌, true, List, map, length, slice_index, Option, Some, None}
use Rattle.std.specs.List.{All}
use Rattle.nd_model.specs.Making.Conversion.{converts}
use Rattle.nd_model.specs.Arrays.Element.{Boolean, Element, size_of}
use Rattle.nd_model.specs.Arrays.View.{Geo, One, item_size}
use Rattle.nd_assign.specs.HeldFields.{HoldsFields}
use Rattle.nd_assign.specs.Prepared.{Prepared}
use Rattle.nd_view.specs.SideBySide.{side_by_side}
use Rattle.nd_assign.specs.declared.assignment.Assignment.TheInside.{Inside}
use Rattle.nd_assign.specs.declared.assignment.Way.{Way}
use Rattle.nd_assign.specs.declared.assignment.Way.TheVariants.{Lent, Number, Copied, Moved, Up, Down}

-- each of the elements ends within `len` bytes
abbrev pub AreIn : ℕ → Geo → Type 0
AreIn len g = All (λ p. p + item_size g.element ≤ len) g.places

-- the other bytes that are read
abbrev pub bytes_read : Way → Option (List ℕ)
bytes_read (Lent bytes) = Some bytes.now
bytes_read (Number bytes) = Some bytes
bytes_read (Copied block) = Some block
bytes_read (Moved elem run from_run) = None
bytes_read (Up middle target) = None
bytes_read (Down middle source) = None

-- numbers of one type that is not Boolean, side by side on both sides
pub record AreSideBySide (g s : Geo) (e : Element) (ps qs : List ℕ) : Type 0 where
  pub target : g.element ≡ One e
  pub source : s.element ≡ One e
  pub kind : e.kind ≢ Boolean
  pub places : ps ≡ g.places
  pub from_places : qs ≡ s.places
  pub gapless : ps ≡ side_by_side (size_of e.kind) (slice_index ps 0) (length ps)
  pub from_gapless : qs ≡ side_by_side (size_of e.kind) (slice_index qs 0) (length qs)

-- the second view has the elements of the first one, in bytes that begin at this place
pub record IsMoved (g moved : Geo) (by : ℕ) : Type 0 where
  pub element : moved.element ≡ g.element
  pub behind : All (λ p. by ≤ p) g.places
  pub places : moved.places ≡ map (λ p. p - by) g.places

-- in a block of `len` bytes, the elements of the first view end at or before `middle`, and those of the second begin there or later
pub record AreParted (len : ℕ) (before behind moved : Geo) (middle : ℕ) : Type 0 where
  pub inside : middle ≤ len
  pub fields : HoldsFields before.element
  pub held : AreIn middle before
  pub seen : IsMoved behind moved middle

-- the way leads from the source to the target
abbrev pub IsWay : (target source : Geo) → (len : ℕ) → Way → Type 0
IsWay g s len (Lent bytes) = AreIn (length bytes.now) s
IsWay g s len (Number bytes) = AreIn (length bytes) s
IsWay g s len (Copied block) = AreIn (length block) s
IsWay g s len (Moved e run from_run) = AreIn len s × AreSideBySide g s e run from_run
IsWay g s len (Up middle target) = AreParted len s g target middle
IsWay g s len (Down middle source) = AreIn len s × AreParted len g s source middle

-- converted elements of the target, as many as there are
pub record IsPrepared (g s : Geo) (len : ℕ) (way : Way) : Type 0 where
  pub types : converts s.element g.element ≡ true
  pub counts : length s.places ≡ length g.places
  pub out : AreIn len g
  pub leads : IsWay g s len way

-- copies in the block itself
abbrev pub own_copy : (target source : Geo) → (len : ℕ) → Prepared
own_copy g s len = record { target = g; source = s; bytes = None; len = len }

abbrev pub prepared_of : Inside → Prepared
prepared_of a = record { target = a.target.now; source = a.source; bytes = bytes_read a.way; len = a.len }

abbrev pub IsAssignment : Inside → Type 0
IsAssignment a = IsPrepared a.target.now a.source a.len a.way
