-- The text of values (NumPy's print).
use Rattle.std.specs.Prelude.{ℕ, zero, suc, ◌+◌, ◌-◌, max, ℤ, unsigned_abs, ◌==◌, Bool, true, false, if◌then◌else◌, List, [], ◌∷◌, ◌++◌, map, length, take, drop, replicate, codes}
use Rattle.std.specs.Fmt.{signed_decimal}
use Rattle.std.specs.List.{concat, flat_map}
use Rattle.nd_model.specs.Arrays.Element.{Kind, Boolean}
use Rattle.nd_model.specs.Arrays.Tuple.{elements_of}

abbrev pub truth_text : Bool → List ℕ
truth_text true = codes "True"
truth_text false = codes "False"

-- a number of a kind, by itself
abbrev pub number_text : Kind → ℤ → List ℕ
number_text Boolean z = if unsigned_abs z == 0 then codes "False" else codes "True"
number_text k z = signed_decimal z

-- the parts with a separator between two of them
abbrev pub joined : List ℕ → List (List ℕ) → List ℕ
joined between [] = []
joined between (p ∷ ps) = p ++ flat_map (λ q. between ++ q) ps

abbrev pub widest : List (List ℕ) → ℕ
widest [] = 0
widest (p ∷ ps) = max (length p) (widest ps)

-- aligned to the right
abbrev pub aligned : ℕ → List ℕ → List ℕ
aligned width p = replicate (width - length p) 32 ++ p

-- n parts of the same length
abbrev pub split : {A : Type 0} → ℕ → ℕ → List A → List (List A)
split zero each xs = []
split (suc n) each xs = take each xs ∷ split n each (drop each xs)

-- Each array in brackets; where k axes are left its parts stand apart by k-1 newlines and a space for each open bracket.
abbrev pub bracketed : ℕ → List ℕ → List (List ℕ) → List ℕ
bracketed depth [] parts = concat parts
bracketed depth (n ∷ []) parts = 91 ∷ joined (32 ∷ []) parts ++ 93 ∷ []
bracketed depth (n ∷ m ∷ shape) parts =
    91 ∷ joined (replicate (length (m ∷ shape)) 10 ++ replicate (depth + 1) 32)
    (map (bracketed (depth + 1) (m ∷ shape)) (split n (elements_of (m ∷ shape)) parts)) ++ 93 ∷ []

-- in an array a Boolean is as wide as False
abbrev pub least_width : Kind → ℕ
least_width Boolean = 5
least_width k = 0

-- the numbers of an array, each as wide as the widest; without axes there is no padding
abbrev pub array_text : Kind → List ℕ → List ℤ → List ℕ
array_text k shape [] = codes "[]"
array_text k [] (z ∷ zs) = number_text k z
array_text k (n ∷ shape) (z ∷ zs) =
    let parts = map (number_text k) (z ∷ zs) in bracketed 0 (n ∷ shape) (map (aligned (max (least_width k) (widest parts))) parts)
