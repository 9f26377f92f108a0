-- What contracts see of a heap, and what is true of it.
use Rattle.std.specs.Prelude.{◌≡◌, ℕ, Bool, false, List, [], Option, Some, None}
use Rattle.nd_model.specs.Arrays.Value.{Base, Value, lies_in}
use Rattle.nd_model.specs.Cells.Session.{Names, Session, is_held, lookup}
use Rattle.nd_heap.specs.Live.{bytes_at, is_base_among}

pub record HeapData : Type 0 where
  pub names : List (List ℕ × Value)
  pub blocks : List (Base × List ℕ)
  -- the bases that may have no name
  pub loose : List Base

-- the session that it is
abbrev pub session_in : HeapData → Session
session_in h = record { names = h.names; bytes = bytes_at h.blocks }

-- a base that is not loose has bytes only where some bound value lies in it
abbrev pub AreLoose : HeapData → Type 0
AreLoose h = (b : Base) → is_base_among h.loose b ≡ false → is_held b h.names ≡ false → bytes_at h.blocks b ≡ []

-- the value that is found lies in the base
abbrev pub lies_in_found : Base → Option Value → Bool
lies_in_found b None = false
lies_in_found b (Some v) = lies_in b v

-- a base loses its last name only where the value of this one lies in it
abbrev pub LosesHolder : List ℕ → Names → Names → Type 0
LosesHolder n old new = (b : Base) → is_held b new ≡ false → lies_in_found b (lookup n old) ≡ false → is_held b old ≡ false
