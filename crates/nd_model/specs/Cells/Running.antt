-- A session while a cell runs, with what the cell has read and done so far. This file says what it is to read, and what
-- a cell may ask and do; what the statements mean is said in Meaning without a word on it.
use Rattle.std.specs.Prelude.{ℕ, ◌+◌, ℤ, Bool, true, false, not, ◌&&◌, ◌||◌, nat_eq, bytes_eq, if◌then◌else◌, List, [], ◌∷◌, ◌++◌, map, slice_index, Option, Some, None}
use Rattle.nd_model.specs.Arrays.Value.{Base, same_base, Value, Int, Truth, Scalar, Array, Row}
use Rattle.nd_model.specs.Cells.Session.{Names, lookup, bind, unbind, Session, held_bytes, put, is_place, is_in}

-- what a cell can read: a name, an input, the length of a base, a byte of it, and the rule
pub data Key : Type 0 where
  Name : List ℕ → Key
  Input : List ℕ → Key
  Length : Base → Key
  Byte : Base → ℕ → Key
  OfRule : Key

pub data Event : Type 0 where
  Binds : List ℕ → Value → Event
  Unbinds : List ℕ → Event

-- an input: the bytes of an NPY file, or a strided buffer (PEP 3118)
pub data Source : Type 0 where
  Npy : List ℕ → Source
  Buffer : (format : List ℕ) → (itemsize : ℕ) → (shape : List ℕ) → (strides : List ℤ) → (offset : ℕ) → (bytes : List ℕ) → Source

-- the inputs by name
abbrev pub Inputs : Type 0
Inputs = List ℕ → Option Source

-- What stands of a cell that is refused: all that came before its refusal, as in Python, or nothing.
pub data Rule : Type 0 where
  Python : Rule
  Atomic : Rule

-- what all cells of a notebook are run by
pub record World : Type 0 where
  pub inputs : Inputs
  pub rule : Rule

pub record Running : Type 0 where
  -- the session as it is now
  pub names : Names
  pub bytes : Base → List ℕ
  -- the running cell, and the number of its next base
  pub label : ℕ
  pub next : ℕ
  -- the names that it bound and unbound, in order; the bytes that it wrote; what it has read
  pub events : List Event
  pub written : Base → ℕ → Bool
  pub read : Key → Bool

-- a cell begins: only the bases that are in the session are there
abbrev pub start : ℕ → Session → Running
start label s = record {
  names = s.names;
  bytes = held_bytes s;
  label = label;
  next = 0;
  events = [];
  written = λ b p. false;
  read = λ k. false;
}

abbrev pub session_of : Running → Session
session_of r = record { names = r.names; bytes = r.bytes }

abbrev pub is_event_of : List ℕ → Event → Bool
is_event_of n (Binds m v) = bytes_eq n m
is_event_of n (Unbinds m) = bytes_eq n m

abbrev pub is_touched : List ℕ → List Event → Bool
is_touched n [] = false
is_touched n (e ∷ es) = is_event_of n e || is_touched n es

-- What stands there now is the cell's own doing: a name that it bound or unbound, a base that it made, a byte that it wrote.
abbrev pub is_doing_of : ℕ → List Event → (Base → ℕ → Bool) → Key → Bool
is_doing_of label events written (Name n) = is_touched n events
is_doing_of label events written (Input n) = false
is_doing_of label events written (Length b) = nat_eq b.label label
is_doing_of label events written (Byte b p) = nat_eq b.label label || written b p
is_doing_of label events written OfRule = false

abbrev pub is_own : Running → Key → Bool
is_own r k = is_doing_of r.label r.events r.written k

-- The cell has read these keys, but for those that are its own doing.
abbrev pub having_read : (Key → Bool) → Running → Running
having_read keys r = record r { read = λ k. r.read k || (keys k && not (is_own r k)) }

abbrev pub is_name : List ℕ → Key → Bool
is_name n (Name m) = bytes_eq n m
is_name n (Input m) = false
is_name n (Length b) = false
is_name n (Byte b p) = false
is_name n OfRule = false

abbrev pub is_input : List ℕ → Key → Bool
is_input n (Name m) = false
is_input n (Input m) = bytes_eq n m
is_input n (Length b) = false
is_input n (Byte b p) = false
is_input n OfRule = false

abbrev pub is_length : Base → Key → Bool
is_length b (Name m) = false
is_length b (Input m) = false
is_length b (Length c) = same_base b c
is_length b (Byte c p) = false
is_length b OfRule = false

abbrev pub is_byte : Base → List ℕ → Key → Bool
is_byte b ps (Name m) = false
is_byte b ps (Input m) = false
is_byte b ps (Length c) = false
is_byte b ps (Byte c p) = same_base b c && is_in p ps
is_byte b ps OfRule = false

abbrev pub is_rule : Key → Bool
is_rule (Name n) = false
is_rule (Input n) = false
is_rule (Length b) = false
is_rule (Byte b p) = false
is_rule OfRule = true

-- the length of the base that the value lies in, if it lies in one
abbrev pub is_length_of : Option Value → Key → Bool
is_length_of None k = false
is_length_of (Some (Int n)) k = false
is_length_of (Some (Truth t)) k = false
is_length_of (Some (Scalar e n)) k = false
is_length_of (Some (Array b g)) k = is_length b k
is_length_of (Some (Row b g)) k = is_length b k

-- WHAT AN EVALUATION MAY ASK
-- a name's value; an input; the bytes at these places; a new base with these bytes
pub data Act : Type 0 where
  Lookup : List ℕ → Act
  Ask : List ℕ → Act
  Use : Base → List ℕ → Act
  Make : List ℕ → Act

abbrev pub Reply : Act → Type 0
Reply (Lookup n) = Option Value
Reply (Ask n) = Option Source
Reply (Use b ps) = List ℕ
Reply (Make bytes) = Base

-- what it reads thereby
abbrev pub asked : Act → Running → Key → Bool
asked (Lookup n) r k = is_name n k || is_length_of (lookup n r.names) k
asked (Ask n) r k = is_input n k
asked (Use b ps) r k = is_byte b ps k
asked (Make bytes) r k = false

abbrev pub reply : Inputs → (a : Act) → Running → Reply a
reply inputs (Lookup n) r = lookup n r.names
reply inputs (Ask n) r = inputs n
reply inputs (Use b ps) r = map (λ p. slice_index (r.bytes b) p) ps
reply inputs (Make bytes) r = record { label = r.label; number = r.next }

-- the bytes of a base are set
abbrev pub with_base : Base → List ℕ → (Base → List ℕ) → Base → List ℕ
with_base b bytes old c = if same_base b c then bytes else old c

abbrev pub made : Act → Running → Running
made (Lookup n) r = r
made (Ask n) r = r
made (Use b ps) r = r
made (Make bytes) r = record r {
  bytes = with_base (record { label = r.label; number = r.next }) bytes r.bytes;
  next = r.next + 1;
}

abbrev pub after : Act → Running → Running
after a r = made a (having_read (asked a r) r)

-- WHAT A STATEMENT MAY DO, once it is evaluated: one of these
pub data Effect : Type 0 where
  Nothing : Effect
  Prints : List ℕ → Effect
  Saves : List ℕ → List ℕ → Effect
  Binding : List ℕ → Value → Effect
  Unbinding : List ℕ → Effect
  Storing : Base → List (ℕ × ℕ) → Effect

abbrev pub done : Effect → Running → Running
done Nothing r = r
done (Prints text) r = r
done (Saves name file) r = r
done (Binding n v) r = record r { names = bind n v r.names; events = r.events ++ Binds n v ∷ [] }
done (Unbinding n) r = record r { names = unbind n r.names; events = r.events ++ Unbinds n ∷ [] }
done (Storing b ws) r = record r {
  bytes = λ c. if same_base b c then put ws (r.bytes c) else r.bytes c;
  written = λ c p. r.written c p || (same_base b c && is_place p ws);
  read = λ k. r.read k || (is_length b k && not (is_own r k));
}

-- what a statement gives to its cell: the text that it prints, and perhaps a file that it saves
pub record Output : Type 0 where
  pub text : List ℕ
  pub save : Option (List ℕ × List ℕ)

abbrev pub output : Effect → Output
output Nothing = record { text = []; save = None }
output (Prints text) = record { text = text; save = None }
output (Saves name file) = record { text = []; save = Some (name, file) }
output (Binding n v) = record { text = []; save = None }
output (Unbinding n) = record { text = []; save = None }
output (Storing b ws) = record { text = []; save = None }
