-- Bytes at marked places of bases, as they stood there: the bytes alone, or all bytes of the base.
use Rattle.std.specs.Prelude.{◌≡◌, ℕ, suc, List, [], ◌∷◌, length, Option, Some, None, slice_index, if◌then◌else◌}
use Rattle.std.proofs.Common.{refl, ap}
use Rattle.nd_heap.specs.Contents.{bytes_in}
use Rattle.nd_heap.specs.Values.{base_of}
use Rattle.nd_heap.specs.declared.value.Base as bases
use Rattle.nd_marks.specs.Kept.{KeptData, kept_at}
use Rattle.nd_marks.specs.Marks.{Places, holds}
use Rattle.nd_model.specs.Arrays.Value.{Base, same_base}
use Rattle.nd_model.specs.Cells.Footprint.{patched}
use Rattle.nd_session.specs.declared.session.found.FoundBytes as code
use Rattle.nd_session.specs.declared.session.found.FoundBytes.TheVariants as the

pub data Found : Type 0 where
  Kept : KeptData → Found
  Shared : Places → List ℕ → Found

abbrev pub bytes_of : code.FoundBytes → Found
bytes_of (the.Kept kept) = Kept kept
bytes_of (the.Shared marks block) = Shared marks (bytes_in block)

-- the byte that was found at a place, and none where the place is not marked
abbrev pub found_at : Found → ℕ → Option ℕ
found_at (Kept kept) p = kept_at kept p
found_at (Shared marks bytes) p = if holds marks p then Some (slice_index bytes p) else None

-- ---- of several bases

-- entries by their bases
abbrev pub by_base : {V A : Type 0} → (V → A) → List (bases.Base × V) → List (Base × A)
by_base f [] = []
by_base f (e ∷ es) = (base_of e.0, f e.1) ∷ by_base f es

-- what stands by a base
abbrev pub lookup_base : {A : Type 0} → Base → List (Base × A) → Option A
lookup_base b [] = None
lookup_base b (e ∷ es) = if same_base b e.0 then Some e.1 else lookup_base b es

-- the byte, if the place is marked
abbrev pub byte_at : Option Found → ℕ → Option ℕ
byte_at None p = None
byte_at (Some e) p = found_at e p

-- the byte that was found at a place of a base
abbrev pub byte_found : List (bases.Base × code.FoundBytes) → Base → ℕ → Option ℕ
byte_found es b p = byte_at (lookup_base b (by_base bytes_of es)) p

-- ---- put back into a block

pub length-patched : (w : ℕ → Option ℕ) (xs : List ℕ) → length (patched w xs) ≡ length xs
length-patched w [] = refl
length-patched w (x ∷ xs) = ap suc (length-patched (λ p. w (suc p)) xs)
