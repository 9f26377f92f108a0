-- A `&` to a right holds nothing. Assumes `Logic`.
use denote.RattleType.{RattleType}
use denote.Param.Laws.{Laws}
use denote.Param.Shared.{copy_shared}
use denote.SharingLaws.{nothing_shr_laws}
use denote.Struct.Laws.{field_copy}
use denote.Struct.Lending.{of_Lends, Lends-nothing}
use Rattle.core.specs.declared.alloc.Allocator.{Ghosts}
use Rattle.core.specs.contracts.marker.PhantomData as marker
use Rattle.nd_block.specs.contracts.memory.Right as R
use Rattle.nd_block.proofs.memory.Right.TheLaw.Statement.{statement}

pub shares : (A : RattleType) (g : Ghosts A.Denot) (L : Laws A) → statement A g L
shares A g L =
    of_Lends (R.struct A g) (R.the_codes A.Denot A.coded (marker.the_row A).coded) (R.the_heap A g) (R.the_lent A g) (λ d p. nothing_shr_laws)
    (copy_shared (marker.the_field A) (field_copy (marker.the_type A) tt), tt) (λ M 𝓤 𝓛 d p. Lends-nothing 𝓛 (R.the_heap A g d) (R.the_row A g).lives)
