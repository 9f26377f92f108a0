-- What contracts see of a version, and the sessions that it stands for.
use Rattle.std.specs.Prelude.{ℕ, List}
use Rattle.nd_model.specs.Arrays.Value.{Base, Value}
use Rattle.nd_model.specs.Cells.Session.{Session, no_session}
use Rattle.nd_model.specs.Cells.Running.{Running, start}
use Rattle.nd_heap.specs.Live.{bytes_at}

pub record Kept : Type 0 where
  pub names : List (List ℕ × Value)
  pub blocks : List (Base × List ℕ)
  -- the cell that ran, and the number of its next base
  pub label : ℕ
  pub next : ℕ

abbrev pub version_of : Kept → Session
version_of k = record { names = k.names; bytes = bytes_at k.blocks }

-- the session in which that cell goes on, as if it had read and done nothing yet
abbrev pub thawed : Kept → Running
thawed k = record (start k.label no_session) { names = k.names; bytes = bytes_at k.blocks; next = k.next }
