-- A `&` to the places is made where one to a byte is. Assumes `Logic`.
use Rattle.std.proofs.Common.{ℕ, ◌+◌, List, [], ◌∷◌, length, w8}
use seplogic.Ra.Ura.{Ura}
use base.Fraction.{full_share}
use base.Fml.{Lft, Incl, ftrue, ffalse, fsep, froom}
use types.Logic.{Logic}
use types.SemTy.{cells}
use denote.Builtin.{u8}
use denote.Memory.{part_at, shared_of, mem}
use denote.Param.Shared.{copy_shared}
use denote.Plain.{uint_row_laws}
use denote.RawPtr.{Ptr, block_ptr, null_ptr}
use denote.Shares.{Shares-less}
use denote.Sharing.{ShrLaws, said}
use denote.SharingLaws.{beside_shr_laws, said_shr_laws}
use denote.Slice.{elements_shared, elements_shr_laws}
use denote.Struct.Field.{u8-field}
use denote.Struct.Laws.{u8-copy}
use denote.Struct.Lending.{Lends, Lends-both, Lends-first, Lends-nothing, Lends-said, Lends-false}
use Rattle.nd_block.specs.Ownership.{bytes_type, few, places_owned, places_lent}

pub places_laws : (p : Ptr) (xs : List ℕ) (n : ℕ) → ShrLaws (places_lent p xs n)
places_laws (block_ptr b o) xs n =
    beside_shr_laws (said (few (length xs + n))) (elements_shared u8 xs b o) (said_shr_laws (few (length xs + n)) tt) (elements_shr_laws u8 (uint_row_laws w8) xs b o)
places_laws null_ptr xs n = said_shr_laws ffalse tt

module _ {M : Type 1} {𝓤 : Ura M} (𝓛 : Logic 𝓤) (l : Lft) (inc : Incl l u8.lives) where
  Lends-byte : (x b o : ℕ) → Lends 𝓛 (part_at u8 full_share x b o) (shared_of u8 x b o) l
  Lends-byte x b o = λ κ ts. Shares-less 𝓛 u8 u8.lives l inc ((copy_shared u8-field u8-copy).shares M 𝓤 𝓛) x κ ts b o

  Lends-bytes : (xs : List ℕ) (b o : ℕ) → Lends 𝓛 (cells (mem u8) xs b o) (elements_shared u8 xs b o) l
  Lends-bytes [] b o = Lends-nothing 𝓛 ftrue l
  Lends-bytes (x ∷ xs) b o =
      Lends-both 𝓛 (part_at u8 full_share x b o) (cells (mem u8) xs b (o + 1)) (shared_of u8 x b o) (elements_shared u8 xs b (o + 1)) l (Lends-byte x b o) (Lends-bytes xs b (o + 1))

  pub Lends-places : (p : Ptr) (xs : List ℕ) (n : ℕ) → Lends 𝓛 (places_owned p xs n) (places_lent p xs n) l
  Lends-places (block_ptr b o) xs n =
      let room = froom (bytes_type n) b (length xs + o) in
      Lends-both 𝓛 (few (length xs + n)) (fsep (cells (mem u8) xs b o) room) (said (few (length xs + n))) (elements_shared u8 xs b o) l (Lends-said 𝓛 (few (length xs + n)) tt l)
      (Lends-first 𝓛 (cells (mem u8) xs b o) room (elements_shared u8 xs b o) l (Lends-bytes xs b o))
  Lends-places null_ptr xs n = Lends-false 𝓛 (said ffalse) l
