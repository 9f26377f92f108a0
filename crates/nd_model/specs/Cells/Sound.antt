-- Sound sessions: each array and each row lies in its base.
use Rattle.std.specs.Prelude.{◌≡◌, ℕ, ◌+◌, ◌<◌, ◌≤◌, [], ◌∷◌, length}
use Rattle.std.specs.List.{All}
use Rattle.nd_model.specs.Arrays.Tuple.{elements_of}
use Rattle.nd_model.specs.Arrays.View.{Geo, item_size}
use Rattle.nd_model.specs.Arrays.Value.{Base, Value, Int, Truth, Scalar, Array, Row}
use Rattle.nd_model.specs.Arrays.Strides.{IsInLimits}
use Rattle.nd_model.specs.Cells.Session.{Names, Session, held_bytes}
use Rattle.nd_model.specs.Cells.Running.{Inputs, Running, World, start}
use Rattle.nd_model.specs.Grammar.Syntax.{Stmt, Parsed}
use Rattle.nd_model.specs.Cells.Cell.{statement, cell, session_after}
use Rattle.nd_model.specs.Cells.Footprint.{HasNone, Agree, reads_of, effects_of, with_effects}

-- A view of a base of so many bytes: as many places as its shape has elements, in the limits of arrays, and every byte of
-- every element is one of the base.
pub record LiesIn (len : ℕ) (g : Geo) : Type 0 where
  pub count : length g.places ≡ elements_of g.shape
  pub limits : IsInLimits (item_size g.element) g.shape
  pub inside : All (λ p. p + item_size g.element ≤ len) g.places

-- the arrays and rows among the values are as they should be
abbrev pub IsViewOf : (Base → Geo → Type 0) → Value → Type 0
IsViewOf P (Int z) = Unit {0}
IsViewOf P (Truth t) = Unit {0}
IsViewOf P (Scalar k z) = Unit {0}
IsViewOf P (Array b g) = P b g
IsViewOf P (Row b g) = P b g

abbrev pub AreViewsOf : (Base → Geo → Type 0) → Names → Type 0
AreViewsOf P [] = Unit {0}
AreViewsOf P (e ∷ es) = IsViewOf P e.1 × AreViewsOf P es

-- it lies in its base, and a base of the running cell has a number below that of the next one: so the next one is new
pub record IsHeldView (r : Running) (b : Base) (g : Geo) : Type 0 where
  pub lies : LiesIn (length (r.bytes b)) g
  pub old : b.label ≡ r.label → b.number < r.next

abbrev pub IsSound : Running → Type 0
IsSound r = AreViewsOf (IsHeldView r) r.names

abbrev pub IsSoundSession : Session → Type 0
IsSoundSession s = AreViewsOf (λ b g. LiesIn (length (held_bytes s b)) g) s.names

-- SOUND: at a cell's start, after each statement whether it is refused or not, and after a cell
pub record StaysSound : Type 0 where
  pub start : (label : ℕ) (s : Session) → HasNone label s → IsSoundSession s → IsSound (start label s)
  pub statement : (i : Inputs) (s : Stmt) (r : Running) → IsSound r → IsSound (statement i s r).1
  pub cell : (label : ℕ) (p : Parsed) (i : World) (s : Session) → HasNone label s → IsSoundSession s → IsSoundSession (session_after (cell label p i s))

-- SOUND AGAIN: the effects of a run over one sound session, put on another that agrees with what was read, give a session in which
-- the cell goes on from the number of its next base.
abbrev pub ReplaysSound : Type 0
ReplaysSound = (label : ℕ) (p : Parsed) (s t : Session) (i j : World) → HasNone label s → HasNone label t → IsSoundSession s → IsSoundSession t
    → Agree (reads_of (cell label p i s)) s i t j
    → IsSound (record (start label (with_effects label (effects_of (cell label p i s)) t)) { next = (cell label p i s).running.next })
