-- A number that is laid out over a chunk.
use Rattle.std.specs.Prelude.{◌≡◌, ℕ, ◌+◌, ◌*◌, ◌≤◌, length, replicate}
use Rattle.nd_model.specs.Arrays.Content.{number_at}
use Rattle.nd_model.specs.Arrays.Element.{size_of}
use Rattle.nd_model.specs.Making.Elementwise.{little}
use Rattle.nd_types.specs.Kinds.{kind_of}
use Rattle.nd_ufunc.specs.Loops.ElementsLeft.{ElementsLeft}
use Rattle.nd_ufunc.specs.declared.loops.laid_out.LaidOut.TheInside.{Inside}

-- those that are left, and their kind
abbrev pub laid_left : Inside → ElementsLeft
laid_left c = record { numbers = replicate c.count c.number; kind = kind_of c.kind }

-- the number stands there over and over, for a chunk or for all
pub record IsLaidOut (c : Inside) : Type 0 where
  pub many : (n : ℕ) → n ≤ c.count → n * size_of (kind_of c.kind) ≤ 8192 → n * size_of (kind_of c.kind) ≤ length c.numbers.now
  pub each : (j : ℕ) → (j + 1) * size_of (kind_of c.kind) ≤ length c.numbers.now → number_at (little (kind_of c.kind)) c.numbers.now (j * size_of (kind_of c.kind)) ≡ c.number
