-- A cell behind another one: the session that it is run over, and the keys of the arrays there.
use Rattle.std.specs.Prelude.{ℕ, ◌*◌, List, [], ◌∷◌, ◌++◌, None, codes}
use Rattle.nd_model.specs.Arrays.Tuple.{count_up}
use Rattle.nd_model.specs.Arrays.Value.{Base}
use Rattle.nd_model.specs.Cells.Session.{Session, no_session}
use Rattle.nd_model.specs.Cells.Running.{Key, Name, Length, Rule, Python, World}
use Rattle.nd_model.specs.Grammar.Reading.{reading}
use Rattle.nd_model.specs.Cells.Cell.{Ended, cell, session_after}
use Rattle.nd_exact.specs.Reads.{bytes_at}

-- no inputs
abbrev pub under_rule : Rule → World
under_rule rule = record { inputs = λ name. None; rule = rule }

-- the session behind a first cell, whose label is 1
abbrev pub session_behind : (first : List ℕ) → Session
session_behind first = session_after (cell 1 (reading first) (under_rule Python) no_session)

-- how the next one ends, whose label is 7
abbrev pub behind_by : Rule → (first text : List ℕ) → Ended
behind_by rule first text = cell 7 (reading text) (under_rule rule) (session_behind first)

abbrev pub behind : (first text : List ℕ) → Ended
behind first text = behind_by Python first text

-- ---- first cells

abbrev pub numbers : List ℕ
numbers = codes "x = np.arange(4)"

-- x, and a mask that chooses its last two elements
abbrev pub numbers_and_mask : List ℕ
numbers_and_mask = codes "x = np.arange(4)\nm = x > 1"

-- two records of 6 bytes
abbrev pub records : List ℕ
records = codes "t = np.zeros(2, dtype=[('a', '<i2'), ('b', '<i4')])"

-- the bases that they make
abbrev pub base : Base
base = record { label = 1; number = 0 }

abbrev pub mask_base : Base
mask_base = record { label = 1; number = 1 }

-- ---- keys of these arrays

-- a name, and the length of the base of its array
abbrev pub array_of : List ℕ → Base → List Key
array_of name b = Name name ∷ Length b ∷ []

abbrev pub array_x : List Key
array_x = array_of (codes "x") base

abbrev pub array_t : List Key
array_t = array_of (codes "t") base

-- the mask with all of its bytes
abbrev pub mask_m : List Key
mask_m = array_of (codes "m") mask_base ++ bytes_at mask_base (count_up 0 4)

-- the bytes of so many elements of x, from this one on
abbrev pub elements : (first count : ℕ) → List Key
elements first count = bytes_at base (count_up (first * 8) (count * 8))
