-- What a change is asked before it is put over a session.
use Rattle.std.specs.Prelude.{◌≡◌, ◌⊎◌, ℕ, ◌≤◌, true, IsSome, List, length, Option, Some}
use Rattle.nd_model.specs.Arrays.Value.{Base, Value, lies_in}
use Rattle.nd_model.specs.Cells.Session.{Names, is_held}

-- some bound value lies in each base that the value lies in, or the base is in the change
abbrev pub LiesInKnown : Names → (Base → Option (List ℕ)) → Value → Type 0
LiesInKnown names blocks v = (b : Base) → lies_in b v ≡ true → (is_held b names ≡ true) ⊎ IsSome (blocks b)

-- so it is with each value that a name of the change has now
abbrev pub AllBound : (Value → Type 0) → (List ℕ → Option (Option Value)) → Type 0
AllBound P names = (n : List ℕ) (v : Value) → names n ≡ Some (Some v) → P v

-- no base of the change gets fewer bytes than it has
abbrev pub KeepLengths : (Base → List ℕ) → (Base → Option (List ℕ)) → Type 0
KeepLengths bytes blocks = (b : Base) (now : List ℕ) → blocks b ≡ Some now → length (bytes b) ≤ length now
