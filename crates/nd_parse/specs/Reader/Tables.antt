-- Tables of words.
use Rattle.std.specs.Prelude.{ℕ, List, [], ◌∷◌, bytes_eq, if◌then◌else◌}
use Rattle.std.specs.Borrow.{Bor}

-- a table's word with its kind
abbrev pub entry : Bor (List ℕ) × ℕ → List ℕ × ℕ
entry e = (e.0.now, e.1)

-- a table's word with its meaning
abbrev pub named_entry : {A : Type 0} → Bor (List ℕ) × A → List ℕ × A
named_entry e = (e.0.now, e.1)

-- the meaning that a table has for a word, and of all other words
abbrev pub named : {A : Type 0} → List (List ℕ × A) → A → List ℕ → A
named [] other word = other
named (e ∷ es) other word = if bytes_eq word e.0 then e.1 else named es other word
