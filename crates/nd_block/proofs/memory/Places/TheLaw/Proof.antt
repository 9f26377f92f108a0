-- A `&` to the places sees each byte that is written. Assumes `Logic`.
use contract.BorrowLft.{⊑_static}
use denote.Struct.Lending.{of_Lends}
use Rattle.nd_block.specs.contracts.memory.Places as P
use Rattle.nd_block.proofs.Seen.{places_laws, Lends-places}
use Rattle.nd_block.proofs.memory.Places.TheLaw.Statement.{statement}

pub shares : statement
shares = of_Lends P.struct P.the_codes P.the_heap P.the_lent (λ d p. places_laws d.first d.written d.unwritten) tt
    (λ M 𝓤 𝓛 d p. Lends-places 𝓛 P.the_row.lives (⊑_static P.the_row.lives) d.first d.written d.unwritten)
