-- Views by an offset, and for each axis a stride in bytes (PEP 3118, "strides"); the limits of arrays; and which views a block holds.
use Rattle.std.specs.Prelude.{◌≡◌, ℕ, ◌+◌, ◌*◌, ◌^◌, ◌≤◌, ◌==◌, ◌&&◌, ◌||◌, not, Bool, true, ℤ, pos, ◌+ℤ◌, ◌*ℤ◌, int_le, nat_lt, nat_le, unsigned_abs, if◌then◌else◌, List, [], ◌∷◌, length, map, Option, Some, None, Result, Ok, Err}
use Rattle.std.specs.List.{list_all, list_any, All}
use Rattle.nd_model.specs.Cells.Fault.{ViewFault, AxesDiffer, TooManyAxes, TooManyElements, OutOfBlock}
use Rattle.nd_model.specs.Arrays.Tuple.{elements_of, indices}
use Rattle.nd_model.specs.Arrays.View.{ElementType, Geo, item_size}

-- how far the element of an index tuple is from the first one
abbrev pub way_to : List ℕ → List ℤ → ℤ
way_to [] strides = pos 0
way_to (i ∷ t) [] = pos 0
way_to (i ∷ t) (s ∷ strides) = (pos i *ℤ s) +ℤ way_to t strides

-- where the element of an index tuple begins, before it is known that this is no negative number
abbrev pub begins_at : ℕ → List ℤ → List ℕ → ℤ
begins_at offset strides t = pos offset +ℤ way_to t strides

abbrev pub place_at : ℕ → List ℤ → List ℕ → ℕ
place_at offset strides t = unsigned_abs (begins_at offset strides t)

-- the places of all elements in C order
abbrev pub places_by : ℕ → List ℤ → List ℕ → List ℕ
places_by offset strides shape = map (place_at offset strides) (indices shape)

-- ---- limits

-- an axis has at most 2^32 elements, also where another has none; an array at most 2^24, and 2^27 bytes
abbrev pub is_too_large : ℕ → List ℕ → Bool
is_too_large size shape = list_any (nat_lt (2 ^ 32)) shape || (nat_lt (2 ^ 24) (elements_of shape) || nat_lt (2 ^ 27) (elements_of shape * size))

-- the first of two refusals
abbrev pub or_else : Option ViewFault → Option ViewFault → Option ViewFault
or_else (Some fault) next = Some fault
or_else None next = next

-- why there is no array of these lengths, with elements of `size` bytes
abbrev pub limit_fault : ℕ → List ℕ → Option ViewFault
limit_fault size shape = if nat_lt 32 (length shape) then Some TooManyAxes else (if is_too_large size shape then Some TooManyElements else None)

abbrev pub IsInLimits : ℕ → List ℕ → Type 0
IsInLimits size shape = limit_fault size shape ≡ None

-- ---- views of a block of `len` bytes

-- every byte of the element that begins here is one of the block
abbrev pub is_held : ℕ → ℕ → ℤ → Bool
is_held size len begin = int_le (pos 0) begin && nat_le (unsigned_abs begin + size) len

abbrev pub are_held : ℕ → ℕ → ℕ → List ℤ → List ℕ → Bool
are_held size len offset strides shape = list_all (is_held size len) (map (begins_at offset strides) (indices shape))

-- the first refusal that holds
abbrev pub parts_fault : ℕ → List ℕ → List ℤ → ℕ → ℕ → Option ViewFault
parts_fault size shape strides offset len =
    if not (length shape == length strides) then Some AxesDiffer
    else or_else (limit_fault size shape) (if are_held size len offset strides shape then None else Some OutOfBlock)

abbrev pub parted : ElementType → List ℕ → List ℤ → ℕ → Geo
parted t shape strides offset = record { element = t; shape = shape; writable = true; places = places_by offset strides shape }

-- what is made, where no refusal holds
abbrev pub unless : {A : Type 0} → Option ViewFault → A → Result A ViewFault
unless None a = Ok a
unless (Some fault) a = Err fault

-- the view of these parts, or the first refusal that holds
abbrev pub from_parts : ElementType → List ℕ → List ℤ → ℕ → ℕ → Result Geo ViewFault
from_parts t shape strides offset len = unless (parts_fault (item_size t) shape strides offset len) (parted t shape strides offset)

-- THE LAW OF PARTS: every byte of every element of a view that is made lies in the block, the first and the last among them
abbrev pub PartsAreHeld : Type 0
PartsAreHeld = (t : ElementType) (shape : List ℕ) (strides : List ℤ) (offset len : ℕ) (g : Geo) → from_parts t shape strides offset len ≡ Ok g → All (λ p. p + item_size t ≤ len) g.places
