-- What is assigned: whether it may be, and the bytes that it leaves.
use Rattle.std.specs.Prelude.{◌≡◌, ℕ, true, List, length}
use Rattle.nd_model.specs.Making.Assigning.{fits_into}
use Rattle.nd_model.specs.Making.Conversion.{converts}
use Rattle.nd_model.specs.Making.Creation.{is_number_type}
use Rattle.nd_model.specs.Cells.Sound.{LiesIn}
use Rattle.nd_model.specs.Arrays.View.{Geo}
use Rattle.nd_assign.specs.Assigned.{with_elements, with_number}
use Rattle.nd_assign.specs.declared.source.AssignedValue.{AssignedValue}
use Rattle.nd_assign.specs.declared.source.AssignedValue.TheVariants.{Number, Same, Other}

-- a view of `len` bytes, whose elements convert to the target's and whose shape fits into the target's
pub record IsValue (target : Geo) (len : ℕ) (v : Geo) : Type 0 where
  pub lies : LiesIn len v
  pub types : converts v.element target.element ≡ true
  pub shapes : fits_into v.shape target.shape ≡ true

-- the value may be assigned to a target in a block of `len` bytes
abbrev pub IsSource : (target : Geo) → (len : ℕ) → AssignedValue → Type 0
IsSource g len (Number z) = is_number_type g.element ≡ true
IsSource g len (Same v) = IsValue g len v.now
IsSource g len (Other v bytes) = IsValue g (length bytes.now) v.now

-- the block's bytes after the value is assigned to the target
abbrev pub with_source : (target : Geo) → AssignedValue → List ℕ → List ℕ
with_source g (Number z) old = with_number g z old
with_source g (Same v) old = with_elements g v.now old old
with_source g (Other v bytes) old = with_elements g v.now bytes.now old
