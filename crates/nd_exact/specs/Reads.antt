-- What a cell reads, as a list of keys that is all of it.
use Rattle.std.specs.Prelude.{◌≡◌, ℕ, Bool, false, ◌||◌, List, [], ◌∷◌, map}
use Rattle.nd_model.specs.Arrays.Value.{Base}
use Rattle.nd_model.specs.Cells.Session.{Session}
use Rattle.nd_model.specs.Cells.Running.{Key, Name, Input, Length, Byte, OfRule, World, is_name, is_input, is_length, is_byte, is_rule}
use Rattle.nd_model.specs.Grammar.Syntax.{Parsed}
use Rattle.nd_model.specs.Cells.Cell.{Ended, cell}
use Rattle.nd_model.specs.Cells.Footprint.{reads_of}

abbrev pub is_key : Key → Key → Bool
is_key (Name n) k = is_name n k
is_key (Input n) k = is_input n k
is_key (Length b) k = is_length b k
is_key (Byte b p) k = is_byte b (p ∷ []) k
is_key OfRule k = is_rule k

abbrev pub is_among : List Key → Key → Bool
is_among [] k = false
is_among (j ∷ js) k = is_key j k || is_among js k

abbrev pub bytes_at : Base → List ℕ → List Key
bytes_at b ps = map (Byte b) ps

-- it has read these keys and no others
abbrev pub Reads : Ended → List Key → Type 0
Reads e keys = (k : Key) → reads_of e k ≡ is_among keys k

-- A CELL READS FINITELY MANY KEYS.
abbrev pub ReadsAreFinite : Type 0
ReadsAreFinite = (label : ℕ) (p : Parsed) (w : World) (s : Session) → (keys : List Key) × Reads (cell label p w s) keys
