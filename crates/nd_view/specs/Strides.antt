-- What strides reach, the strides that a view keeps, and those of an array without gaps.
use Rattle.std.specs.Prelude.{◌≡◌, ℕ, ◌+◌, ◌-◌, ◌*◌, ◌<◌, ◌==◌, ◌&&◌, ◌||◌, suc, ℤ, pos, negsuc, ◌+ℤ◌, ◌*ℤ◌, nat_le, nat_lt, if◌then◌else◌, List, [], ◌∷◌, length, drop, replicate}
use Rattle.nd_model.specs.Arrays.Strides.{way_to}
use Rattle.nd_model.specs.Arrays.Tuple.{elements_of, number}
use Rattle.nd_view.specs.Indexes.{IsIndex}

-- how far the last element of an axis is before the first one, and behind it
abbrev pub before : ℕ → ℤ → ℕ
before n (pos s) = 0
before n (negsuc s) = (n - 1) * suc s

abbrev pub behind : ℕ → ℤ → ℕ
behind n (pos s) = (n - 1) * s
behind n (negsuc s) = 0

abbrev pub before_of : List ℕ → List ℤ → ℕ
before_of [] strides = 0
before_of (n ∷ shape) [] = 0
before_of (n ∷ shape) (s ∷ strides) = before n s + before_of shape strides

abbrev pub behind_of : List ℕ → List ℤ → ℕ
behind_of [] strides = 0
behind_of (n ∷ shape) [] = 0
behind_of (n ∷ shape) (s ∷ strides) = behind n s + behind_of shape strides

-- the stride that a view of `count` elements keeps of an axis of length n
abbrev pub kept : ℕ → ℕ → ℤ → ℤ
kept count n s = if nat_le n 1 || count == 0 then pos 0 else s

abbrev pub kept_all : ℕ → List ℕ → List ℤ → List ℤ
kept_all count [] strides = []
kept_all count (n ∷ shape) [] = []
kept_all count (n ∷ shape) (s ∷ strides) = kept count n s ∷ kept_all count shape strides

-- contiguous in C order: the stride of an axis is the size of all below it, 0 where the axis is not walked
abbrev pub steps_of : ℕ → List ℕ → List ℤ
steps_of size [] = []
steps_of size (n ∷ shape) = (if nat_le n 1 then pos 0 else pos (elements_of shape * size)) ∷ steps_of size shape

-- where there are no elements each stride is 0
abbrev pub strides_of : ℕ → List ℕ → List ℤ
strides_of size shape = if elements_of shape == 0 then replicate (length shape) (pos 0) else steps_of size shape

-- ---- several axes walked as one

-- element k of these axes, in C order, is k steps behind the first one
abbrev pub IsEven : List ℕ → List ℤ → ℤ → Type 0
IsEven shape strides step = (t : List ℕ) → IsIndex shape t → way_to t strides ≡ pos (number shape t) *ℤ step

-- element k of the axes behind the outer ones is k steps behind the first one
abbrev pub IsEvenBehind : ℕ → List ℕ → List ℤ → ℤ → Type 0
IsEvenBehind outer shape strides step = IsEven (drop outer shape) (drop outer strides) step

-- the step through an axis of length n and the `count` elements behind each of its indexes
abbrev pub joined_step : ℕ → ℤ → ℕ → ℤ → ℤ
joined_step n s count step = if nat_lt 1 n && nat_le count 1 then s else step

-- the joined step leads to each of these elements
abbrev pub AreJoined : ℕ → ℤ → ℕ → ℤ → Type 0
AreJoined n s count step = (i k : ℕ) → i < n → k < count → (pos i *ℤ s) +ℤ (pos k *ℤ step) ≡ pos (i * count + k) *ℤ joined_step n s count step
