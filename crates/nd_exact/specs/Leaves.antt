-- What a cell leaves, in full: the bytes that it wrote, what it bound and unbound, and the bases that it made.
use Rattle.std.specs.Prelude.{◌≡◌, ℕ, ◌&&◌, if◌then◌else◌, List, [], map, Some, None, is_some}
use Rattle.nd_model.specs.Arrays.Value.{Base, same_base}
use Rattle.nd_model.specs.Cells.Session.{is_place}
use Rattle.nd_model.specs.Cells.Running.{Event}
use Rattle.nd_model.specs.Cells.Cell.{Ended}
use Rattle.nd_model.specs.Cells.Footprint.{effects_of}

-- It wrote these bytes of the base, each place with its byte, and no other byte of a base that is not its own.
abbrev pub Writes : Ended → Base → List (ℕ × ℕ) → Type 0
Writes e b ws =
    ((c : Base) (p : ℕ) → is_some ((effects_of e).writes c p) ≡ (same_base b c && is_place p ws))
    × (map (λ (w : ℕ × ℕ). (effects_of e).writes b w.0) ws ≡ map (λ (w : ℕ × ℕ). Some w.1) ws)

-- it wrote no byte of a base that is not its own
abbrev pub WritesNothing : Ended → Type 0
WritesNothing e = (c : Base) (p : ℕ) → (effects_of e).writes c p ≡ None

-- it bound and unbound these names, in order
abbrev pub Binds : Ended → List Event → Type 0
Binds e events = (effects_of e).events ≡ events

-- it leaves no base of its own
abbrev pub LeavesNoBase : Ended → Type 0
LeavesNoBase e = (c : Base) → (effects_of e).bases c ≡ []

-- it leaves one base, with these bytes
abbrev pub LeavesBase : Ended → Base → List ℕ → Type 0
LeavesBase e b bytes = (c : Base) → (effects_of e).bases c ≡ (if same_base b c then bytes else [])

-- ---- all that it leaves

abbrev pub LeavesNothing : Ended → Type 0
LeavesNothing e = WritesNothing e × Binds e [] × LeavesNoBase e

abbrev pub OnlyNames : Ended → List Event → Type 0
OnlyNames e events = WritesNothing e × Binds e events × LeavesNoBase e

abbrev pub OnlyWrites : Ended → Base → List (ℕ × ℕ) → Type 0
OnlyWrites e b ws = Writes e b ws × Binds e [] × LeavesNoBase e

abbrev pub OnlyBase : Ended → List Event → Base → List ℕ → Type 0
OnlyBase e events b bytes = WritesNothing e × Binds e events × LeavesBase e b bytes
