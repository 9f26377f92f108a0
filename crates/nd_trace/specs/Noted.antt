-- What is noted beside what was noted before.
use Rattle.std.specs.Prelude.{ℕ, ◌||◌, List, [], ◌∷◌, ◌++◌, Option, Some, None, nat_eq, if◌then◌else◌}
use Rattle.nd_model.specs.Arrays.Value.{Base, Value, Int, Truth, Scalar, Array, Row}
use Rattle.nd_heap.specs.Live.{is_base_among}
use Rattle.nd_trace.specs.Marked.{is_among}
use Rattle.nd_trace.specs.Seen.{Seen}

-- a text goes last, unless it is there
abbrev pub with_text : List ℕ → List (List ℕ) → List (List ℕ)
with_text n ms = if is_among ms n then ms else ms ++ n ∷ []

-- a base goes last, if there is one
abbrev pub with_length : Option Base → List Base → List Base
with_length None bs = bs
with_length (Some b) bs = bs ++ b ∷ []

-- the base, where another cell made it and its length was not read
abbrev pub unread_base : Seen → Base → Option Base
unread_base t b = if nat_eq b.label t.label || is_base_among t.lengths b then None else Some b

-- such a base that a value lies in
abbrev pub unread_in : Seen → Option Value → Option Base
unread_in t None = None
unread_in t (Some (Int n)) = None
unread_in t (Some (Truth b)) = None
unread_in t (Some (Scalar e n)) = None
unread_in t (Some (Array b g)) = unread_base t b
unread_in t (Some (Row b g)) = unread_base t b
