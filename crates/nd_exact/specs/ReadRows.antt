-- Cells whose reads are listed in full.
use Rattle.std.specs.Prelude.{[], ◌∷◌, ◌++◌, codes}
use Rattle.nd_model.specs.Arrays.Tuple.{count_up}
use Rattle.nd_model.specs.Cells.Running.{Name, Input, OfRule}
use Rattle.nd_exact.specs.Reads.{bytes_at, Reads}
use Rattle.nd_exact.specs.Behind.{behind, numbers, numbers_and_mask, records, base, array_x, array_t, mask_m, elements}

-- a name that holds a number
abbrev pub NameIsRead : Type 0
NameIsRead = Reads (behind (codes "n = 5") (codes "print(n)")) (Name (codes "n") ∷ [])

-- a name that is not bound, and what stands behind it
abbrev pub MissingNameIsRead : Type 0
MissingNameIsRead = Reads (behind numbers (codes "print(q, x)")) (Name (codes "q") ∷ OfRule ∷ [])

-- an element
abbrev pub OneElementIsRead : Type 0
OneElementIsRead = Reads (behind numbers (codes "print(x[2])")) (array_x ++ elements 2 1)

-- a slice with gaps
abbrev pub GapsAreNotRead : Type 0
GapsAreNotRead = Reads (behind numbers (codes "print(x[::2])")) (array_x ++ elements 0 1 ++ elements 2 1)

-- a view
abbrev pub ViewReadsNoByte : Type 0
ViewReadsNoByte = Reads (behind numbers (codes "y = x[::2]")) array_x

-- a view in another shape
abbrev pub ReshapeReadsNoByte : Type 0
ReshapeReadsNoByte = Reads (behind numbers (codes "y = x.reshape(2, 2).T")) array_x

-- a view that is broadcast
abbrev pub BroadcastReadsNoByte : Type 0
BroadcastReadsNoByte = Reads (behind numbers (codes "y = np.broadcast_to(x, (3, 4))")) array_x

-- a deletion
abbrev pub DeletionReadsNoByte : Type 0
DeletionReadsNoByte = Reads (behind numbers (codes "del x")) array_x

-- a copy of a slice
abbrev pub CopyReadsItsElements : Type 0
CopyReadsItsElements = Reads (behind numbers (codes "y = x[1:3].copy()")) (array_x ++ elements 1 2)

-- a list of positions
abbrev pub ListReadsItsElements : Type 0
ListReadsItsElements = Reads (behind numbers (codes "y = x[[3, 0]]")) (array_x ++ elements 3 1 ++ elements 0 1)

-- a mask
abbrev pub MaskReadsItsElements : Type 0
MaskReadsItsElements = Reads (behind numbers_and_mask (codes "y = x[m]")) (array_x ++ mask_m ++ elements 2 2)

-- a field
abbrev pub FieldReadsItsBytes : Type 0
FieldReadsItsBytes = Reads (behind records (codes "print(t['b'])")) (array_t ++ bytes_at base (count_up 2 4) ++ bytes_at base (count_up 8 4))

-- a record, which sees the bytes of its array
abbrev pub RecordReadsNoByte : Type 0
RecordReadsNoByte = Reads (behind records (codes "r = t[1]")) array_t

-- operands
abbrev pub OperatorReadsItsOperands : Type 0
OperatorReadsItsOperands = Reads (behind numbers (codes "y = x[1:3] + x[3]")) (array_x ++ elements 3 1 ++ elements 1 2)

-- a reduction
abbrev pub SumReadsItsOperand : Type 0
SumReadsItsOperand = Reads (behind numbers (codes "y = x[1:4:2].sum()")) (array_x ++ elements 1 1 ++ elements 3 1)

-- a file
abbrev pub SaveReadsItsValue : Type 0
SaveReadsItsValue = Reads (behind numbers (codes "np.save('f', x[2:])")) (array_x ++ elements 2 2)

-- a store into a slice
abbrev pub StoreReadsNoByte : Type 0
StoreReadsNoByte = Reads (behind numbers (codes "x[1:3] = 5")) array_x

-- a store at positions
abbrev pub StoreAtListReadsNoByte : Type 0
StoreAtListReadsNoByte = Reads (behind numbers (codes "x[[3, 0]] = 5")) array_x

-- a store by a mask
abbrev pub StoreByMaskReadsTheMask : Type 0
StoreByMaskReadsTheMask = Reads (behind numbers_and_mask (codes "x[m] = 5")) (array_x ++ mask_m)

-- an element in place
abbrev pub InPlaceReadsItsElement : Type 0
InPlaceReadsItsElement = Reads (behind numbers (codes "x[0] += 1")) (array_x ++ elements 0 1)

-- a slice in place
abbrev pub InPlaceReadsItsSlice : Type 0
InPlaceReadsItsSlice = Reads (behind numbers (codes "x[::2] *= 3")) (array_x ++ elements 0 1 ++ elements 2 1)

-- an array in place
abbrev pub InPlaceReadsItsArray : Type 0
InPlaceReadsItsArray = Reads (behind numbers (codes "x += 1")) (array_x ++ elements 0 4)

-- what the cell bound, made and wrote itself
abbrev pub OwnDoingsAreNotRead : Type 0
OwnDoingsAreNotRead = Reads (behind numbers (codes "y = np.arange(3)\nx[0] = 5\nprint(y, x)")) (array_x ++ elements 1 3)

-- a name that the cell bound before
abbrev pub OwnNameIsNotRead : Type 0
OwnNameIsNotRead = Reads (behind numbers (codes "x = np.arange(2)\nprint(x)")) []

-- a refusal within a statement
abbrev pub RefusedReadsWhatItCameTo : Type 0
RefusedReadsWhatItCameTo = Reads (behind numbers (codes "print(x[0], x[9], x[1])")) (array_x ++ elements 0 1 ++ OfRule ∷ [])

-- a refusal behind a line
abbrev pub RefusedReadsItsLines : Type 0
RefusedReadsItsLines = Reads (behind numbers (codes "print(x[0])\nx[9] = x[1]")) (array_x ++ elements 0 2 ++ OfRule ∷ [])

-- a text that is no cell
abbrev pub NoCellReadsTheRule : Type 0
NoCellReadsTheRule = Reads (behind numbers (codes "print(")) (OfRule ∷ [])

-- an input that is not there
abbrev pub MissingInputIsRead : Type 0
MissingInputIsRead = Reads (behind numbers (codes "y = np.load('f')")) (Input (codes "f") ∷ OfRule ∷ [])
