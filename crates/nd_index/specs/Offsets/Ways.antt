-- How far elements are from the first one.
use Rattle.std.specs.Prelude.{ℕ, ◌≡◌, ◌-◌, ◌==◌, ◌^◌, ◌≤◌, ℤ, pos, ◌+ℤ◌, ◌*ℤ◌, unsigned_abs, if◌then◌else◌, List, [], ◌∷◌, ◌++◌, length, map, replicate, slice_index_or}
use Rattle.std.specs.List.{All}
use Rattle.nd_model.specs.Indexing.Advanced.{unravelled}
use Rattle.nd_model.specs.Arrays.Strides.{way_to}
use Rattle.nd_model.specs.Arrays.Tuple.{elements_of, indices}

-- of all elements of axes with these lengths and strides, in C order
abbrev pub ways : List ℕ → List ℤ → List ℤ
ways shape strides = map (λ t. way_to t strides) (indices shape)

-- a few of them may be added up
abbrev pub AreNear : List ℤ → Type 0
AreNear zs = All (λ z. unsigned_abs z ≤ 2 ^ 112) zs

-- element k of axes with these lengths and strides is k steps behind the first one
abbrev pub IsEvenBy : ℤ → List ℕ → List ℤ → Type 0
IsEvenBy step shape strides = (k : ℕ) → way_to (unravelled shape k) strides ≡ pos k *ℤ step

-- so they are walked by one step, which is small
abbrev pub HasSmallStep : List ℕ → List ℤ → Type 0
HasSmallStep shape strides = (step : ℤ) × (unsigned_abs step ≤ 2 ^ 29) × IsEvenBy step shape strides

-- the strides by which a tuple of so many axes leads to the number of the element of a shape that stands there
abbrev pub narrowed_strides : List ℕ → List ℤ
narrowed_strides [] = []
narrowed_strides (n ∷ shape) = (if n == 1 then pos 0 else pos (elements_of shape)) ∷ narrowed_strides shape

abbrev pub own_strides : ℕ → List ℕ → List ℤ
own_strides axes shape = replicate (axes - length shape) (pos 0) ++ narrowed_strides shape

-- ways with those of an array added, each of which is the one of this number
abbrev pub sums_at : List ℤ → List ℤ → List ℤ → List ℤ
sums_at own [] numbers = []
sums_at own (w ∷ ws) [] = []
sums_at own (w ∷ ws) (k ∷ numbers) = (w +ℤ slice_index_or own (unsigned_abs k) (pos 0)) ∷ sums_at own ws numbers

-- ways added up one by one
abbrev pub sums_of : List ℤ → List ℤ → List ℤ
sums_of [] own = []
sums_of (w ∷ ws) [] = []
sums_of (w ∷ ws) (z ∷ own) = (w +ℤ z) ∷ sums_of ws own
