-- What the parts of a block own and lend. A byte takes one place.
use Rattle.std.specs.Prelude.{ℕ, ◌+◌, ◌^◌, List, length}
use base.Fml.{Lft, Fml, fsep, flt, ffalse, froom}
use mir.Syntax.{Ty, ty_int, ty_array, w8}
use types.SemTy.{cells}
use denote.Builtin.{u8}
use denote.Memory.{mem}
use denote.RawPtr.{Ptr, block_ptr, null_ptr}
use denote.Sharing.{said, beside}
use denote.Slice.{elements_shared}

-- places for n bytes, side by side
abbrev pub bytes_type : ℕ → Ty
bytes_type n = ty_array (ty_int w8) n

-- there are fewer than 2 ^ 63 bytes
abbrev pub few : ℕ → Fml
few n = flt n (2 ^ 63)

-- the places from p on: first the bytes xs, then room for n more. Together they are few.
abbrev pub places_owned : Ptr → List ℕ → ℕ → Fml
places_owned (block_ptr b o) xs n = fsep (few (length xs + n)) (fsep (cells (mem u8) xs b o) (froom (bytes_type n) b (length xs + o)))
places_owned null_ptr xs n = ffalse

-- what a `&` to them sees: the bytes xs
abbrev pub places_lent : Ptr → List ℕ → ℕ → Lft → Fml
places_lent (block_ptr b o) xs n = beside (said (few (length xs + n))) (elements_shared u8 xs b o)
places_lent null_ptr xs n = said ffalse

-- the allocator's token for places for n bytes
abbrev pub right_owned : (Ty → Ptr → Fml) → Ptr → ℕ → Fml
right_owned token p n = token (bytes_type n) p
