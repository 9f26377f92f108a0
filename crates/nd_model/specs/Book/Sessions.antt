-- What holds of the session before each cell of a book: no name stands twice in it, and each array lies in its base.
use Rattle.std.specs.Prelude.{◌≡◌, ℕ, ◌≤◌, List, [], ◌∷◌, length, ⊤, None}
use Rattle.nd_model.specs.Cells.Session.{Names, lookup}
use Rattle.nd_model.specs.Cells.Sound.{IsSoundSession}
use Rattle.nd_model.specs.Book.Renaming.{AreDistinct}
use Rattle.nd_model.specs.Book.Book.{Book, labels_of}
use Rattle.nd_model.specs.Book.Entries.{session_before}

-- no name stands twice
abbrev pub IsOnce : Names → Type 0
IsOnce [] = ⊤
IsOnce (e ∷ es) = (lookup e.0 es ≡ None) × IsOnce es

-- NAMES STAND ONCE, in the session before each cell.
abbrev pub NamesStandOnce : Type 0
NamesStandOnce = (b : Book) (k : ℕ) → AreDistinct (labels_of b.cells) → k ≤ length b.cells → IsOnce (session_before b k).names

-- SESSIONS ARE SOUND, before each cell.
abbrev pub SessionsAreSound : Type 0
SessionsAreSound = (b : Book) (k : ℕ) → AreDistinct (labels_of b.cells) → k ≤ length b.cells → IsSoundSession (session_before b k)
