-- How far strides reach, and what that says of the elements.
use Rattle.std.proofs.Common.{rules, ◌≡◌, ℕ, zero, suc, ◌+◌, ◌-◌, ◌*◌, ◌<◌, ◌≤◌, ◌^◌, Bool, true, false, List, [], ◌∷◌, length, get_or, take, drop, refl, sym, ap, ◌∙◌, arith}
use Rattle.std.specs.Prelude.{ℤ, pos, negsuc, ◌+ℤ◌, ◌*ℤ◌, ◌≤ℤ◌, unsigned_abs, int_le, nat_le, ◌&&◌}
use Rattle.std.proofs.Math.Nat.{mul-le-mul_right}
use Rattle.std.proofs.lemmas.Bool.Decides.{nat_tests}
use Rattle.std.proofs.lemmas.Int.{ints}
use Rattle.std.proofs.lemmas.List.{drop_all}
use Rattle.nd_model.specs.Arrays.Strides.{way_to, begins_at, place_at, is_held, are_held}
use Rattle.nd_model.specs.Arrays.Tuple.{elements_of}
use Rattle.nd_view.specs.Indexes.{IsIndex}
use Rattle.nd_view.specs.Paths.{IsPath}
use Rattle.nd_view.specs.Strides.{before_of, behind_of}
use Rattle.nd_view.proofs.Counts.{rest_some}
use Rattle.nd_view.proofs.Indexed.{all_indexes, of_all}

-- the elements of `size` bytes whose first one is at p lie within `len` bytes
pub record Lies (size len : ℕ) (shape : List ℕ) (strides : List ℤ) (p : ℕ) : Type 0 where
  pub low : before_of shape strides ≤ p
  pub high : p + behind_of shape strides + size ≤ len

-- where the elements of an index of the first axis begin
pub record Steps (size len : ℕ) (i : ℕ) (s : ℤ) (shape : List ℕ) (strides : List ℤ) (p : ℕ) : Type 0 where
  pub to : ℕ
  pub is : pos p +ℤ (pos i *ℤ s) ≡ pos to
  pub lies : Lies size len shape strides to

pub step : (size len n i : ℕ) (s : ℤ) (shape : List ℕ) (strides : List ℤ) (p : ℕ) → i < n → Lies size len (n ∷ shape) (s ∷ strides) p → Steps size len i s shape strides p
step size len (suc n) i (pos m) shape strides p lt lies =
    let far : i * m ≤ n * m = mul-le-mul_right m (omega arith) in
    let one : suc n - 1 ≡ n = omega arith in let last : (suc n - 1) * m ≡ n * m = ap (λ k. k * m) one in
    record { to = p + i * m; is = omega (arith, ints); lies = record { low = omega (arith, lies.low); high = omega (arith, lies.high, last) } }
step size len (suc n) i (negsuc m) shape strides p lt lies =
    let far : i * suc m ≤ n * suc m = mul-le-mul_right (suc m) (omega arith) in
    let one : suc n - 1 ≡ n = omega arith in let last : (suc n - 1) * suc m ≡ n * suc m = ap (λ k. k * suc m) one in
    let back : i * suc m ≤ p = omega (arith, lies.low, last) in
    record { to = p - i * suc m; is = omega (arith, ints); lies = record { low = omega (arith, lies.low, last); high = omega (arith, lies.high) } }
step size len zero i s shape strides p lt lies = absurd (omega arith)

pub path_of : (size : ℕ) (shape t : List ℕ) (strides : List ℤ) (p : ℕ) → 0 < size → length strides ≡ length shape → IsIndex (take (length t) shape) t → Lies size (2 ^ 64) shape strides p → IsPath p strides t
path_of size shape [] strides p some same is lies = tt
path_of size [] (i ∷ t) strides p some same is lies = absurd is
path_of size (n ∷ shape) (i ∷ t) [] p some same is lies = absurd (omega arith)
path_of size (n ∷ shape) (i ∷ t) (s ∷ strides) p some same is lies =
    let next = step size (2 ^ 64) n i s shape strides p is.0 lies in
    (next.to, next.is, omega (arith, next.lies.high), path_of size shape t strides next.to some (omega arith) is.1 next.lies)

-- one axis further
pub onward : (p q i : ℕ) (s : ℤ) (strides : List ℤ) (t : List ℕ) → pos p +ℤ (pos i *ℤ s) ≡ pos q → begins_at p (s ∷ strides) (i ∷ t) ≡ begins_at q strides t
onward p q i s strides t e =
    let sum : pos p +ℤ ((pos i *ℤ s) +ℤ way_to t strides) ≡ (pos p +ℤ (pos i *ℤ s)) +ℤ way_to t strides = omega (arith, ints) in
    sum ∙ ap (λ z. z +ℤ way_to t strides) e

-- the element of a tuple lies within
pub reached : (size len : ℕ) (shape t : List ℕ) (strides : List ℤ) (p : ℕ) → length strides ≡ length shape → IsIndex shape t → Lies size len shape strides p
    → (pos 0 ≤ℤ begins_at p strides t) × (place_at p strides t + size ≤ len)
reached size len [] [] strides p same is lies = let here : pos p +ℤ pos 0 ≡ pos p = omega (arith, ints) in rw here (omega (arith, ints), omega (arith, lies.high))
reached size len [] (i ∷ t) strides p same is lies = absurd is
reached size len (n ∷ shape) [] strides p same is lies = absurd is
reached size len (n ∷ shape) (i ∷ t) [] p same is lies = absurd (omega arith)
reached size len (n ∷ shape) (i ∷ t) (s ∷ strides) p same is lies =
    let next = step size len n i s shape strides p is.0 lies in
    rw (onward p next.to i s strides t next.is) (reached size len shape t strides next.to (omega arith) is.1 next.lies)

-- ---- the elements that reach farthest

abbrev lowest : List ℕ → List ℤ → List ℕ
lowest [] strides = []
lowest (n ∷ shape) [] = []
lowest (n ∷ shape) (pos s ∷ strides) = 0 ∷ lowest shape strides
lowest (n ∷ shape) (negsuc s ∷ strides) = (n - 1) ∷ lowest shape strides

abbrev highest : List ℕ → List ℤ → List ℕ
highest [] strides = []
highest (n ∷ shape) [] = []
highest (n ∷ shape) (pos s ∷ strides) = (n - 1) ∷ highest shape strides
highest (n ∷ shape) (negsuc s ∷ strides) = 0 ∷ highest shape strides

lowest_is : (shape : List ℕ) (strides : List ℤ) → 0 < elements_of shape → length strides ≡ length shape
    → IsIndex shape (lowest shape strides) × (way_to (lowest shape strides) strides +ℤ pos (before_of shape strides) ≡ pos 0)
lowest_is [] strides some same = (tt, refl)
lowest_is (n ∷ shape) [] some same = absurd (omega arith)
lowest_is (zero ∷ shape) (s ∷ strides) some same = absurd (omega arith)
lowest_is (suc n ∷ shape) (pos s ∷ strides) some same =
    let rest = lowest_is shape strides (rest_some (suc n) (elements_of shape) some) (omega arith) in
    ((omega arith, rest.0), omega (arith, ints, rest.1))
lowest_is (suc n ∷ shape) (negsuc s ∷ strides) some same =
    let rest = lowest_is shape strides (rest_some (suc n) (elements_of shape) some) (omega arith) in
    ((omega arith, rest.0), omega (arith, ints, rest.1))

highest_is : (shape : List ℕ) (strides : List ℤ) → 0 < elements_of shape → length strides ≡ length shape
    → IsIndex shape (highest shape strides) × (way_to (highest shape strides) strides ≡ pos (behind_of shape strides))
highest_is [] strides some same = (tt, refl)
highest_is (n ∷ shape) [] some same = absurd (omega arith)
highest_is (zero ∷ shape) (s ∷ strides) some same = absurd (omega arith)
highest_is (suc n ∷ shape) (pos s ∷ strides) some same =
    let rest = highest_is shape strides (rest_some (suc n) (elements_of shape) some) (omega arith) in
    ((omega arith, rest.0), omega (arith, ints, rest.1))
highest_is (suc n ∷ shape) (negsuc s ∷ strides) some same =
    let rest = highest_is shape strides (rest_some (suc n) (elements_of shape) some) (omega arith) in
    ((omega arith, rest.0), omega (arith, ints, rest.1))

-- ---- a block holds every element where it holds those two

pub bounds : (size len : ℕ) (z : ℤ) → is_held size len z ≡ true → (pos 0 ≤ℤ z) × (unsigned_abs z + size ≤ len)
bounds size len z held = elim (int_le (pos 0) z) as (λ b. int_le (pos 0) z ≡ b → (b && nat_le (unsigned_abs z + size) len) ≡ true → (pos 0 ≤ℤ z) × (unsigned_abs z + size ≤ len)) [
  | true ↦ λ low high. (omega (arith, ints, low), grind (arith, nat_tests))
  | false ↦ λ low high. cc
] refl held

pub held_by : (size len : ℕ) (z : ℤ) → pos 0 ≤ℤ z → unsigned_abs z + size ≤ len → is_held size len z ≡ true
held_by size len z low high =
    let above : int_le (pos 0) z ≡ true = search rules in let below : nat_le (unsigned_abs z + size) len ≡ true = grind (arith, nat_tests) in rw (above, below) refl

pub held : (size len offset : ℕ) (shape : List ℕ) (strides : List ℤ) → length strides ≡ length shape → Lies size len shape strides offset → are_held size len offset strides shape ≡ true
held size len offset shape strides same lies =
    all_indexes (is_held size len) (begins_at offset strides) shape
    (λ t is. let r = reached size len shape t strides offset same is lies in held_by size len (begins_at offset strides t) r.0 r.1)

pub lies : (size len offset : ℕ) (shape : List ℕ) (strides : List ℤ) → length strides ≡ length shape → 0 < elements_of shape → are_held size len offset strides shape ≡ true → Lies size len shape strides offset
lies size len offset shape strides same some all =
    let low = lowest_is shape strides some same in let high = highest_is shape strides some same in
    let l = bounds size len (begins_at offset strides (lowest shape strides)) (of_all (is_held size len) (begins_at offset strides) shape (lowest shape strides) all low.0) in
    let h = bounds size len (begins_at offset strides (highest shape strides)) (of_all (is_held size len) (begins_at offset strides) shape (highest shape strides) all high.0) in
    let far : begins_at offset strides (highest shape strides) ≡ pos (offset + behind_of shape strides) = ap (λ z. pos offset +ℤ z) high.1 ∙ omega (arith, ints) in
    let end : offset + behind_of shape strides + size ≤ len = rw far at h.1 in
    record { low = omega (arith, ints, l.0, low.1); high = end }

pub held_is : (size len offset : ℕ) (shape : List ℕ) (strides : List ℤ) → length strides ≡ length shape → 0 < elements_of shape
    → are_held size len offset strides shape ≡ (nat_le (before_of shape strides) offset && nat_le (offset + behind_of shape strides + size) len)
held_is size len offset shape strides same some = by (nat_le (before_of shape strides) offset) (nat_le (offset + behind_of shape strides + size) len) (are_held size len offset strides shape) refl refl refl
  where
    not_held : (before_of shape strides ≤ offset → offset + behind_of shape strides + size ≤ len → ⊥) → (all : Bool) → are_held size len offset strides shape ≡ all → all ≡ false
    not_held none true e = let l = lies size len offset shape strides same some e in absurd (none l.low l.high)
    not_held none false e = refl

    by : (a b all : Bool) → nat_le (before_of shape strides) offset ≡ a → nat_le (offset + behind_of shape strides + size) len ≡ b → are_held size len offset strides shape ≡ all → are_held size len offset strides shape ≡ (a && b)
    by true true all x y z = held size len offset shape strides same (record { low = grind (arith, nat_tests); high = grind (arith, nat_tests) })
    by true false all x y z = z ∙ not_held (λ low high. grind (arith, nat_tests)) all z
    by false b all x y z = z ∙ not_held (λ low high. grind (arith, nat_tests)) all z

-- one axis further on a path
pub record Goes (p : ℕ) (strides : List ℤ) (t : List ℕ) (k : ℕ) : Type 0 where
  pub within : k < length strides
  pub to : ℕ
  pub is : pos p +ℤ (pos (get_or t k 0) *ℤ get_or strides k (pos 0)) ≡ pos to
  pub below : to < 2 ^ 64
  pub path : IsPath to (drop (k + 1) strides) (drop (k + 1) t)
  pub same : place_at to (drop (k + 1) strides) (drop (k + 1) t) ≡ place_at p (drop k strides) (drop k t)

pub goes : (p : ℕ) (strides : List ℤ) (t : List ℕ) (k : ℕ) → k < length t → IsPath p (drop k strides) (drop k t) → Goes p strides t k
goes p strides [] k lt path = absurd (omega arith)
goes p [] (i ∷ t) zero lt path = absurd path
goes p (s ∷ strides) (i ∷ t) zero lt path =
    record { within = omega arith; to = path.0; is = path.1; below = path.2; path = path.3; same = sym (ap unsigned_abs (onward p path.0 i s strides t path.1)) }
goes p [] (i ∷ t) (suc k) lt path =
    let gone : drop {A = ℤ} k [] ≡ [] = drop_all k [] (omega arith) in let none = goes p [] t k (omega arith) (rw gone path) in absurd (omega (arith, none.within))
goes p (s ∷ strides) (i ∷ t) (suc k) lt path =
    let rest = goes p strides t k (omega arith) path in let more : suc k + 1 ≡ suc (k + 1) = omega arith in
    record { within = omega (arith, rest.within); to = rest.to; is = rest.is; below = rest.below; path = rw more rest.path; same = rw more rest.same }
