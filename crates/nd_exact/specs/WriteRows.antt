-- Cells that are given all that they leave.
use Rattle.std.specs.Prelude.{ℕ, ◌*◌, List, [], ◌∷◌, ◌++◌, length, false, true, zip, codes}
use Rattle.std.specs.List.{flat_map}
use Rattle.nd_model.specs.Arrays.Element.{Int64}
use Rattle.nd_model.specs.Arrays.View.{One, Geo}
use Rattle.nd_model.specs.Arrays.Tuple.{count_up}
use Rattle.nd_model.specs.Arrays.Value.{Base, Array}
use Rattle.nd_model.specs.Cells.Running.{Event, Binds, Unbinds, Atomic}
use Rattle.nd_exact.specs.Behind.{behind, behind_by, numbers, numbers_and_mask, records, base}
use Rattle.nd_exact.specs.Leaves.{LeavesNothing, OnlyNames, OnlyWrites, OnlyBase}

-- the bytes of a number below 256, in 8 bytes
abbrev pub value_bytes : ℕ → List ℕ
value_bytes n = n ∷ 0 ∷ 0 ∷ 0 ∷ 0 ∷ 0 ∷ 0 ∷ 0 ∷ []

abbrev pub values_of : List ℕ → List ℕ
values_of ns = flat_map value_bytes ns

-- such a number as this element, each byte with its place
abbrev pub number_at : (element n : ℕ) → List (ℕ × ℕ)
number_at element n = zip (count_up (element * 8) 8) (value_bytes n)

-- elements of 8 bytes at these places, on one axis
abbrev pub view_at : (places : List ℕ) → Geo
view_at places = record { element = One (record { kind = Int64; big = false }); shape = length places ∷ []; writable = true; places = places }

-- the name y gets such elements of a base
abbrev pub binds_y : Base → (places : List ℕ) → List Event
binds_y b places = Binds (codes "y") (Array b (view_at places)) ∷ []

-- the first base of the second cell
abbrev pub own_base : Base
own_base = record { label = 7; number = 0 }

-- a print
abbrev pub PrintLeavesNothing : Type 0
PrintLeavesNothing = LeavesNothing (behind numbers (codes "print(x[1:], np.arange(3))"))

-- a file
abbrev pub SaveLeavesNothing : Type 0
SaveLeavesNothing = LeavesNothing (behind numbers (codes "np.save('f', x + 1)"))

-- a view
abbrev pub ViewLeavesItsName : Type 0
ViewLeavesItsName = OnlyNames (behind numbers (codes "y = x[::2]")) (binds_y base (0 ∷ 16 ∷ []))

-- a deletion
abbrev pub DeletionLeavesItsName : Type 0
DeletionLeavesItsName = OnlyNames (behind numbers (codes "del x")) (Unbinds (codes "x") ∷ [])

-- an array whose name is gone
abbrev pub BaseWithoutNameIsGone : Type 0
BaseWithoutNameIsGone = OnlyNames (behind numbers (codes "y = np.arange(2)\ndel y")) (binds_y own_base (0 ∷ 8 ∷ []) ++ Unbinds (codes "y") ∷ [])

-- a copy
abbrev pub CopyLeavesItsBase : Type 0
CopyLeavesItsBase = OnlyBase (behind numbers (codes "y = x[1:3].copy()")) (binds_y own_base (0 ∷ 8 ∷ [])) own_base (values_of (1 ∷ 2 ∷ []))

-- a store into an array of its own
abbrev pub OwnStoreIsInItsBase : Type 0
OwnStoreIsInItsBase = OnlyBase (behind numbers (codes "y = np.arange(2)\ny[0] = 7")) (binds_y own_base (0 ∷ 8 ∷ [])) own_base (values_of (7 ∷ 1 ∷ []))

-- a store into a slice
abbrev pub StoreWritesItsSlice : Type 0
StoreWritesItsSlice = OnlyWrites (behind numbers (codes "x[1:3] = 5")) base (number_at 1 5 ++ number_at 2 5)

-- a store into a slice with gaps
abbrev pub StoreLeavesGaps : Type 0
StoreLeavesGaps = OnlyWrites (behind numbers (codes "x[::2] = 7")) base (number_at 0 7 ++ number_at 2 7)

-- a store at positions
abbrev pub StoreAtListWritesItsElements : Type 0
StoreAtListWritesItsElements = OnlyWrites (behind numbers (codes "x[[3, 0]] = 5")) base (number_at 3 5 ++ number_at 0 5)

-- a store by a mask
abbrev pub StoreByMaskWritesItsElements : Type 0
StoreByMaskWritesItsElements = OnlyWrites (behind numbers_and_mask (codes "x[m] = 5")) base (number_at 2 5 ++ number_at 3 5)

-- a store into a field
abbrev pub StoreWritesItsField : Type 0
StoreWritesItsField = OnlyWrites (behind records (codes "t['b'] = 9")) base (zip (count_up 2 4 ++ count_up 8 4) (9 ∷ 0 ∷ 0 ∷ 0 ∷ 9 ∷ 0 ∷ 0 ∷ 0 ∷ []))

-- an element in place
abbrev pub InPlaceWritesItsElement : Type 0
InPlaceWritesItsElement = OnlyWrites (behind numbers (codes "x[2] += 1")) base (number_at 2 3)

-- an array in place
abbrev pub InPlaceWritesItsArray : Type 0
InPlaceWritesItsArray = OnlyWrites (behind numbers (codes "x += 3")) base (number_at 0 3 ++ number_at 1 4 ++ number_at 2 5 ++ number_at 3 6)

-- a refusal behind a store, under the rule of Python
abbrev pub RefusedLeavesItsLines : Type 0
RefusedLeavesItsLines = OnlyWrites (behind numbers (codes "x[1] = 5\nx[9] = 6")) base (number_at 1 5)

-- a refusal behind a store and a new array, under the rule that keeps nothing of a refused cell
abbrev pub AtomicLeavesNothing : Type 0
AtomicLeavesNothing = LeavesNothing (behind_by Atomic numbers (codes "x[1] = 5\ny = np.arange(2)\nx[9] = 6"))
