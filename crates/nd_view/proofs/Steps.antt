-- The next index tuple.
use Rattle.std.proofs.Common.{◌≡◌, ℕ, zero, suc, ◌+◌, ◌-◌, ◌*◌, ◌<◌, ◌≤◌, List, [], ◌∷◌, ◌++◌, length, get_or, set, take, drop, replicate, refl, sym, ap, ◌∙◌, arith, add-one, append_assoc, drop-cons, length-append, length-take}
use Rattle.std.specs.List.{AllZip}
use Rattle.std.proofs.Math.Nat.{mul-le-mul_right}
use Rattle.std.proofs.lemmas.List.{take_more_set, drop_all, length-set, length-replicate}
use Rattle.nd_model.specs.Arrays.Tuple.{elements_of, number}
use Rattle.nd_view.specs.Indexes.{IsIndex}
use Rattle.nd_view.proofs.Counts.{rest_some}

-- each index is the last one of its axis
abbrev pub IsLast : List ℕ → List ℕ → Type 0
IsLast shape t = AllZip (λ i n. i + 1 ≡ n) t shape

pub length-index : (shape t : List ℕ) → IsIndex shape t → length t ≡ length shape
length-index [] [] is = refl
length-index [] (i ∷ t) is = absurd is
length-index (n ∷ shape) [] is = absurd is
length-index (n ∷ shape) (i ∷ t) is = ap suc (length-index shape t is.1)

pub number-last : (shape t : List ℕ) → IsLast shape t → number shape t + 1 ≡ elements_of shape
number-last [] [] is = refl
number-last [] (i ∷ t) is = absurd is
number-last (n ∷ shape) [] is = absurd is
number-last (n ∷ shape) (i ∷ t) is = let rest : number shape t + 1 ≡ elements_of shape = number-last shape t is.1 in rw (← is.0) (omega arith)

pub number-below : (shape t : List ℕ) → IsIndex shape t → number shape t < elements_of shape
number-below [] [] is = omega arith
number-below [] (i ∷ t) is = absurd is
number-below (n ∷ shape) [] is = absurd is
number-below (n ∷ shape) (i ∷ t) is =
    let rest : number shape t < elements_of shape = number-below shape t is.1 in
    let more : i + 1 ≤ n = omega (arith, is.0) in
    let row : (i + 1) * elements_of shape ≤ n * elements_of shape = mul-le-mul_right (elements_of shape) more in omega arith

-- the first tuple
pub zeros : (shape : List ℕ) → 0 < elements_of shape → IsIndex shape (replicate (length shape) 0) × (number shape (replicate (length shape) 0) ≡ 0)
zeros [] some = (tt, refl)
zeros (zero ∷ shape) some = absurd (omega arith)
zeros (suc n ∷ shape) some =
    let below : 0 < elements_of shape = rest_some (suc n) (elements_of shape) some in
    let rest : IsIndex shape (replicate (length shape) 0) × (number shape (replicate (length shape) 0) ≡ 0) = zeros shape below in
    ((omega arith, rest.0), omega (arith, rest.1))

pub below : (shape t : List ℕ) (k : ℕ) → IsIndex shape t → k < length t → get_or t k 0 < get_or shape k 0
below [] [] k is lt = absurd (omega arith)
below [] (i ∷ t) k is lt = absurd is
below (n ∷ shape) [] k is lt = absurd is
below (n ∷ shape) (i ∷ t) zero is lt = is.0
below (n ∷ shape) (i ∷ t) (suc k) is lt = below shape t k is.1 (omega arith)

-- no axis is left
pub no_axes : (shape t : List ℕ) → IsIndex shape t → IsLast (drop (length shape) shape) (drop (length shape) t)
no_axes shape t is =
    let a : drop (length shape) shape ≡ [] = drop_all (length shape) shape (omega arith) in
    let b : drop (length shape) t ≡ [] = drop_all (length shape) t (omega (arith, length-index shape t is)) in
    rw (a, b) tt

-- one axis more is at its end
last_suc : (shape t : List ℕ) (b : ℕ) → b < length t → b < length shape → get_or t b 0 + 1 ≡ get_or shape b 0 → IsLast (drop (suc b) shape) (drop (suc b) t) → IsLast (drop b shape) (drop b t)
last_suc shape t b lt lt' e last = rw (drop-cons shape b 0, drop-cons t b 0) (e, last)

pub last_more : (shape t : List ℕ) (a : ℕ) → IsIndex shape t → 0 < a → a ≤ length shape → get_or t (a - 1) 0 + 1 ≡ get_or shape (a - 1) 0 → IsLast (drop a shape) (drop a t) → IsLast (drop (a - 1) shape) (drop (a - 1) t)
last_more shape t zero is some le e last = absurd (omega arith)
last_more shape t (suc b) is some le e last =
    let back : suc b - 1 ≡ b = omega arith in
    rw back (last_suc shape t b (omega (arith, length-index shape t is)) (omega arith) (rw back at e) last)

-- one more at an axis, and 0 behind it
abbrev pub bumped : ℕ → List ℕ → List ℕ
bumped a t = take a t ++ (get_or t a 0 + 1) ∷ replicate (length t - suc a) 0

pub number-bumped : (shape t : List ℕ) (a : ℕ) → IsIndex shape t → a < length t → get_or t a 0 + 1 < get_or shape a 0
    → IsLast (drop (suc a) shape) (drop (suc a) t) → IsIndex shape (bumped a t) × (number shape (bumped a t) ≡ number shape t + 1)
number-bumped [] [] a is lt further last = absurd (omega arith)
number-bumped [] (i ∷ t) a is lt further last = absurd is
number-bumped (n ∷ shape) [] a is lt further last = absurd is
number-bumped (n ∷ shape) (i ∷ t) zero is lt further last =
    let long : suc (length t) - 1 ≡ length shape = omega (arith, length-index shape t is.1) in
    let first : IsIndex shape (replicate (length shape) 0) × (number shape (replicate (length shape) 0) ≡ 0) = zeros shape (omega (arith, number-below shape t is.1)) in
    let whole : number shape t + 1 ≡ elements_of shape = number-last shape t last in
    rw long ((further, first.0), omega (arith, first.1))
number-bumped (n ∷ shape) (i ∷ t) (suc a) is lt further last =
    let long : suc (length t) - suc (suc a) ≡ length t - suc a = omega arith in
    let rest : IsIndex shape (bumped a t) × (number shape (bumped a t) ≡ number shape t + 1) = number-bumped shape t a is.1 (omega arith) further last in
    rw long ((is.0, rest.0), omega (arith, rest.1))

set_mid : (a ys : List ℕ) (x y i : ℕ) → i ≡ length a → set (a ++ x ∷ ys) i y ≡ a ++ y ∷ ys
set_mid [] ys x y zero e = refl
set_mid [] ys x y (suc i) e = absurd (omega arith)
set_mid (z ∷ a) ys x y zero e = absurd (omega arith)
set_mid (z ∷ a) ys x y (suc i) e = ap (λ l. z ∷ l) (set_mid a ys x y i (omega arith))

zeros_more : (n : ℕ) → replicate {A = ℕ} (suc n) 0 ≡ replicate n 0 ++ 0 ∷ []
zeros_more zero = refl
zeros_more (suc n) = ap (λ l. 0 ∷ l) (zeros_more n)

-- one index more is 0
pub cleared : (xs : List ℕ) (from at : ℕ) → from ≤ at → at < length xs
    → set ((take from xs ++ replicate (at - from) 0) ++ drop at xs) at 0 ≡ (take from xs ++ replicate (at + 1 - from) 0) ++ drop (at + 1) xs
cleared xs from at le lt =
    let a : List ℕ = take from xs ++ replicate (at - from) 0 in
    let long : at ≡ length a = simp (length-append, length-take, length-replicate) (omega arith) in
    let tail : drop at xs ≡ get_or xs at 0 ∷ drop (at + 1) xs = rw add-one (drop-cons xs at 0 lt) in
    let count : at + 1 - from ≡ suc (at - from) = omega arith in
    let more : take from xs ++ replicate (at + 1 - from) 0 ≡ a ++ 0 ∷ [] = rw (count, zeros_more (at - from)) (sym (append_assoc (take from xs) (replicate (at - from) 0) (0 ∷ []))) in
    ap (λ l. set (a ++ l) at 0) tail ∙ set_mid a (drop (at + 1) xs) (get_or xs at 0) 0 at long
    ∙ sym (ap (λ l. l ++ drop (at + 1) xs) more ∙ append_assoc a (0 ∷ []) (drop (at + 1) xs))

bumped_suc : (t : List ℕ) (b v : ℕ) → b < length t → take (suc b) (set t b v) ++ replicate (length (set t b v) - suc b) 0 ≡ take b t ++ v ∷ replicate (length t - suc b) 0
bumped_suc t b v lt =
    let front : take (suc b) (set t b v) ≡ take b t ++ v ∷ [] = rw (← add-one) (take_more_set t b v lt) in
    let long : length (set t b v) ≡ length t = length-set t b v in
    rw (front, long) (append_assoc (take b t) (v ∷ []) (replicate (length t - suc b) 0))

-- what the code leaves is the next tuple
pub advanced : (shape t u : List ℕ) (a : ℕ) → IsIndex shape t → 0 < a → a ≤ length t → get_or t (a - 1) 0 + 1 < get_or shape (a - 1) 0 → IsLast (drop a shape) (drop a t)
    → u ≡ take a (set t (a - 1) (get_or t (a - 1) 0 + 1)) ++ replicate (length (set t (a - 1) (get_or t (a - 1) 0 + 1)) - a) 0
    → IsIndex shape u × (number shape u ≡ number shape t + 1)
advanced shape t u zero is some le further last e = absurd (omega arith)
advanced shape t u (suc b) is some le further last e =
    let back : suc b - 1 ≡ b = omega arith in
    let next : IsIndex shape (bumped b t) × (number shape (bumped b t) ≡ number shape t + 1) = number-bumped shape t b is (omega arith) (rw back at further) last in
    let same : u ≡ bumped b t = rw back at e ∙ bumped_suc t b (get_or t b 0 + 1) (omega arith) in
    rw same next

pub whole_index : (shape t : List ℕ) → IsIndex shape t → IsIndex (take (length t) shape) t
whole_index [] [] is = tt
whole_index [] (i ∷ t) is = absurd is
whole_index (n ∷ shape) [] is = absurd is
whole_index (n ∷ shape) (i ∷ t) is = (is.0, whole_index shape t is.1)

pub front_zeros : (shape : List ℕ) (m : ℕ) → 0 < elements_of shape → m ≤ length shape → IsIndex (take m shape) (replicate m 0) × (number shape (replicate m 0) ≡ 0)
front_zeros [] zero some le = (tt, refl)
front_zeros [] (suc m) some le = absurd (omega arith)
front_zeros (n ∷ shape) zero some le = (tt, refl)
front_zeros (n ∷ shape) (suc m) some le =
    let rest = front_zeros shape m (rest_some n (elements_of shape) some) (omega arith) in ((omega (arith, first n (elements_of shape) some), rest.0), omega (arith, rest.1))
  where
    first : (k e : ℕ) → 0 < k * e → 0 < k
    first zero e lt = absurd (omega arith)
    first (suc k) e lt = omega arith

pub take_zeros : (m n : ℕ) → m ≤ n → take m (replicate {A = ℕ} n 0) ≡ replicate m 0
take_zeros zero n le = refl
take_zeros (suc m) zero le = absurd (omega arith)
take_zeros (suc m) (suc n) le = ap (λ l. 0 ∷ l) (take_zeros m n (omega arith))
