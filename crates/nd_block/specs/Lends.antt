-- What the places hold, once a `&mut` to them has ended.
use Rattle.std.specs.Prelude.{ℕ, List, length}
use Rattle.std.specs.Borrow.{Fml, MutBor, Array, Lends, u8}
use Rattle.std.specs.List.{refill}
use Rattle.nd_block.specs.declared.memory.Places.{Places}
use Rattle.nd_block.specs.contracts.memory.Places.{the_row}

-- the places p with other bytes written
abbrev pub with_written : Places → List ℕ → Places
with_written p xs = record { first = p.first; written = xs; unwritten = p.unwritten }

-- the bytes are the last ones that were written through r
abbrev pub lends_written : MutBor Places → MutBor (List ℕ) → Fml
lends_written p r = Lends the_row (Array u8 0) p r (λ ws. with_written p.now (refill (length p.now.written) p.now.written ws))
