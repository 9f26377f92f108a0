-- Who reads whom: what a cell read, and the cells in front of it that did what it read.
use Rattle.std.specs.Prelude.{◌≡◌, ◌↔◌, ◌⊎◌, ℕ, ◌<◌, ◌≤◌, IsTrue, Contains, is_some, List, [], ◌∷◌, Option, Some, None, Result, Ok, Err, ⊤}
use Rattle.nd_model.specs.Arrays.Value.{Base}
use Rattle.nd_model.specs.Cells.Running.{Name, Input, Length, Byte, is_touched}
use Rattle.nd_model.specs.Book.Records.{Record}
use Rattle.nd_model.specs.Book.Entries.{entry_at, record_at}
use Rattle.nd_model.specs.Book.Book.{Book, QueryFault, count_of}

-- ---- runs

-- the record of the run of the cell at a place
abbrev pub run_at : Book → ℕ → Record
run_at b at = record_at b.world (entry_at b at)

-- A run bound the name, or unbound it.
abbrev pub SetsName : List ℕ → Record → Type 0
SetsName name r = IsTrue (is_touched name r.effects.events)

-- A run made the base, or wrote a byte of it that another run read.
abbrev pub WritesFor : (reader : Record) → Base → (writer : Record) → Type 0
WritesFor reader b writer = (b.label ≡ writer.label) ⊎ ((p : ℕ) × IsTrue (reader.read (Byte b p)) × IsTrue (is_some (writer.effects.writes b p)))

-- A run read the length of the base, or a byte of it.
abbrev pub ReadsBase : Record → Base → Type 0
ReadsBase r b = IsTrue (r.read (Length b)) ⊎ ((p : ℕ) × IsTrue (r.read (Byte b p)))

-- ---- places

-- the last place in front of another that is P; none where none is
abbrev pub IsLast : (ℕ → Type 0) → (at : ℕ) → Option ℕ → Type 0
IsLast P at None = (k : ℕ) → k < at → ¬ P k
IsLast P at (Some k) = (k < at) × P k × ((m : ℕ) → k < m → m < at → ¬ P m)

-- ---- what is told

-- a base by the cell that made it and its number there, and the cell that last wrote what was read of it
pub record BlockRead : Type 0 where
  pub maker : Option ℕ
  pub number : ℕ
  pub writer : Option ℕ

-- names, each with the cell that last bound or unbound it; names of inputs; bases
pub record CellReads : Type 0 where
  pub names : List (List ℕ × Option ℕ)
  pub inputs : List (List ℕ)
  pub blocks : List BlockRead

-- the cell that a name was read from
abbrev pub IsNameRead : Book → ℕ → List ℕ × Option ℕ → Type 0
IsNameRead b at n = IsTrue ((run_at b at).read (Name n.0)) × IsLast (λ k. SetsName n.0 (run_at b k)) at n.1

-- what is told of a base that was read
pub record IsBlockRead (b : Book) (at : ℕ) (d : BlockRead) : Type 0 where
  pub base : Base
  pub read : ReadsBase (run_at b at) base
  pub maker : IsLast (λ k. base.label ≡ (run_at b k).label) at d.maker
  pub number : d.number ≡ base.number
  pub writer : IsLast (λ k. WritesFor (run_at b at) base (run_at b k)) at d.writer

-- no two are the same
abbrev pub AreUnlike : {X : Type 0} → List X → Type 0
AreUnlike [] = ⊤
AreUnlike (x ∷ xs) = ¬ Contains xs x × AreUnlike xs

-- all that is P is in the list, and nothing else, each once
pub record AreAll {X : Type 0} (P : X → Type 0) (xs : List X) : Type 0 where
  pub all : (x : X) → Contains xs x ↔ P x
  pub once : AreUnlike xs

-- THE READS OF A CELL, by the record of its run: all of them and nothing else, each once.
pub record AreReads (b : Book) (at : ℕ) (r : CellReads) : Type 0 where
  pub names : AreAll (IsNameRead b at) r.names
  pub inputs : AreAll (λ n. IsTrue ((run_at b at).read (Input n))) r.inputs
  pub blocks : AreAll (IsBlockRead b at) r.blocks

-- THE ANSWER: the reads of a cell that is there. Memory may be wanted for them alone.
abbrev pub TellsReads : Book → (at : ℕ) → Result CellReads QueryFault → Type 0
TellsReads b at (Ok r) = (at < count_of b) × AreReads b at r
TellsReads b at (Err (QueryFault.NoCell place count)) = (count_of b ≤ at) × (place ≡ at) × (count ≡ count_of b)
TellsReads b at (Err (QueryFault.NoName name)) = ⊥
TellsReads b at (Err (QueryFault.NoSave name)) = ⊥
TellsReads b at (Err QueryFault.OutOfMemory) = at < count_of b
