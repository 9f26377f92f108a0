-- Sessions: names with their values, and the bytes that arrays are views of. A text is the list of its bytes.
use Rattle.std.specs.Prelude.{ℕ, Bool, false, ◌||◌, nat_eq, bytes_eq, if◌then◌else◌, List, [], ◌∷◌, Option, Some, None, slice_set}
use Rattle.nd_model.specs.Arrays.Value.{Base, Value, lies_in}

-- entries in order, each with its text
abbrev pub lookup : {A : Type 0} → List ℕ → List (List ℕ × A) → Option A
lookup n [] = None
lookup n (e ∷ es) = if bytes_eq n e.0 then Some e.1 else lookup n es

-- an entry that is there keeps its place, another goes last
abbrev pub bind : {A : Type 0} → List ℕ → A → List (List ℕ × A) → List (List ℕ × A)
bind n v [] = (n, v) ∷ []
bind n v (e ∷ es) = if bytes_eq n e.0 then (e.0, v) ∷ es else e ∷ bind n v es

-- the entry is gone
abbrev pub unbind : {A : Type 0} → List ℕ → List (List ℕ × A) → List (List ℕ × A)
unbind n [] = []
unbind n (e ∷ es) = if bytes_eq n e.0 then unbind n es else e ∷ unbind n es

-- names in order, and the value of each
abbrev pub Names : Type 0
Names = List (List ℕ × Value)

-- some bound value lies in the base
abbrev pub is_held : Base → Names → Bool
is_held b [] = false
is_held b (e ∷ es) = lies_in b e.1 || is_held b es

-- the names in order, and the bytes of each base; a base that is not in the session has none
pub record Session : Type 0 where
  pub names : Names
  pub bytes : Base → List ℕ

-- the bytes of a base that is in the session: some bound value lies in it
abbrev pub held_bytes : Session → Base → List ℕ
held_bytes s b = if is_held b s.names then s.bytes b else []

-- only the bases that are in the session: so sessions are compared
abbrev pub collected : Session → Session
collected s = record { names = s.names; bytes = held_bytes s }

abbrev pub no_session : Session
no_session = record { names = []; bytes = λ b. [] }

-- the bytes at these places are replaced, the last one staying where a place comes twice
abbrev pub put : List (ℕ × ℕ) → List ℕ → List ℕ
put [] bytes = bytes
put (w ∷ ws) bytes = put ws (slice_set bytes w.0 w.1)

abbrev pub is_place : ℕ → List (ℕ × ℕ) → Bool
is_place p [] = false
is_place p (w ∷ ws) = nat_eq p w.0 || is_place p ws

abbrev pub is_in : ℕ → List ℕ → Bool
is_in p [] = false
is_in p (q ∷ qs) = nat_eq p q || is_in p qs
