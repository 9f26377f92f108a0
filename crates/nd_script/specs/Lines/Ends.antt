-- The reader and the writer of a script, with their counts.
use Rattle.std.specs.Prelude.{ℕ, ◌+◌, ◌-◌, ◌^◌, min}

-- a count that went on by so many, or as far as a `u64` goes
abbrev pub counted_on : ℕ → ℕ → ℕ
counted_on count more = count + min more (2 ^ 64 - 1 - count)

-- the reader, how many reads it was asked for, and how many of them failed
pub record ReaderState (R : Type 0) : Type 0 where
  pub reader : R
  pub reads : ℕ
  pub failures : ℕ

-- the writer, and how many of its writes failed or took nothing
pub record WriterState (W : Type 0) : Type 0 where
  pub writer : W
  pub failures : ℕ
