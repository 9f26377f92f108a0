-- What a block ends as, once a `&mut` to its bytes has ended.
use Rattle.std.specs.Prelude.{ℕ, List, length}
use Rattle.std.specs.Borrow.{Fml, MutBor, Array, Lends, u8}
use Rattle.std.specs.List.{refill}
use Rattle.nd_block.specs.contracts.block.RawBlock.{the_row}

-- the bytes are the last ones that were written through r
abbrev pub lends_bytes : MutBor (List ℕ) → MutBor (List ℕ) → Fml
lends_bytes b r = Lends the_row (Array u8 0) b r (λ ws. refill (length b.now) b.now ws)
