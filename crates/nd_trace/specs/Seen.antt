-- What contracts see of a trace: what the running cell has read and done, as lists.
use Rattle.std.specs.Prelude.{ℕ, Bool, List, [], ◌∷◌, ◌++◌}
use Rattle.nd_model.specs.Arrays.Value.{Base}
use Rattle.nd_model.specs.Cells.Running.{Running, Key, Event}
use Rattle.nd_marks.specs.Marks.{Places}
use Rattle.nd_trace.specs.Marked.{is_marked, is_read}

pub record Seen : Type 0 where
  pub label : ℕ
  pub events : List Event
  pub written : List (Base × Places)
  pub looked : List (List ℕ)
  pub asked : List (List ℕ)
  pub lengths : List Base
  pub used : List (Base × Places)
  -- how many bindings can be noted without memory
  pub room : ℕ

-- the names that were looked up, the inputs that were asked for, and the bases whose length was read, each in the order in
-- which they were first read
abbrev pub names_read : Seen → List (List ℕ)
names_read t = t.looked

abbrev pub inputs_read : Seen → List (List ℕ)
inputs_read t = t.asked

abbrev pub bases_read : Seen → List Base
bases_read t = t.lengths

-- the byte was read as another cell had left it
abbrev pub is_used : Seen → Base → ℕ → Bool
is_used t b p = is_marked t.used b p

-- the key was read
abbrev pub is_read_in : Seen → Key → Bool
is_read_in t = is_read t.looked t.asked t.lengths t.used

-- the byte was written
abbrev pub is_written : Seen → Base → ℕ → Bool
is_written t b p = is_marked t.written b p

-- a name is bound or unbound
abbrev pub having_event : Event → Running → Running
having_event e r = record r { events = r.events ++ e ∷ [] }
