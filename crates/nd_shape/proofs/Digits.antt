-- Numbers by the indexes of axes, the last axis first. Two lists of axes lead to the same places wherever each leads to the steps of the other.
use Rattle.std.proofs.Common.{◌≡◌, ℕ, zero, suc, ◌+◌, ◌*◌, ◌/◌, ◌%◌, ◌<◌, ◌≤◌, List, [], ◌∷◌, length, refl, sym, ap, subst, ◌∙◌, ◌⊎◌, inl, inr, arith}
use Rattle.std.specs.Prelude.{ℤ, pos, negsuc, ◌+ℤ◌, ◌*ℤ◌}
use Rattle.std.proofs.Math.Nat.{div-div-eq-div-mul, div-eq_of_lt, div-one, mod-eq_of_lt, mod-lt, mul-div_right, mul-mod_right, zero-div, zero-mod}
use Rattle.std.proofs.Math.Arith.{mod-mul}
use Rattle.std.proofs.lemmas.Bool.{cases_lt}
use Rattle.std.proofs.lemmas.Int.{ints}

-- the length of an axis and its step
abbrev pub Axis : Type 0
Axis = ℕ × ℤ

-- the way to the element of a number
abbrev pub reach : List Axis → ℕ → ℤ
reach [] f = pos 0
reach (a ∷ xs) f = (pos (f % a.0) *ℤ a.1) +ℤ reach xs (f / a.0)

abbrev pub count : List Axis → ℕ
count [] = 1
count (a ∷ xs) = a.0 * count xs

abbrev pub ArePositive : List Axis → Type 0
ArePositive [] = Unit {0}
ArePositive (a ∷ xs) = (0 < a.0) × ArePositive xs

-- the first axis has its second element at number w; the step of each axis that is walked is the way to its second element
abbrev pub Meets : List Axis → (ℕ → ℤ) → ℕ → Type 0
Meets [] q w = Unit {0}
Meets (a ∷ xs) q w = (1 < a.0 → a.1 ≡ q w) × Meets xs q (w * a.0)

pub meets_same : (xs : List Axis) (q r : ℕ → ℤ) (w : ℕ) → ((f : ℕ) → q f ≡ r f) → Meets xs q w → Meets xs r w
meets_same [] q r w same m = tt
meets_same (a ∷ xs) q r w same m = (λ long. m.0 long ∙ same w, meets_same xs q r (w * a.0) same m.1)

product : (n w k : ℕ) → n * w * k ≡ n * (w * k)
product n w k = omega arith

meets_scaled : (xs : List Axis) (q r : ℕ → ℤ) (n w : ℕ) → ((x : ℕ) → q (n * x) ≡ r x) → Meets xs q (n * w) → Meets xs r w
meets_scaled [] q r n w same m = tt
meets_scaled (a ∷ xs) q r n w same m = (λ long. m.0 long ∙ same w, meets_scaled xs q r n (w * a.0) same (subst (Meets xs q) (product n w a.0) m.1))

nothing : (s z : ℤ) → z ≡ pos 0 → (pos 0 *ℤ s) +ℤ z ≡ pos 0
nothing s z e = omega (arith, ints, e)

reach_zero : (xs : List Axis) → reach xs 0 ≡ pos 0
reach_zero [] = refl
reach_zero (a ∷ xs) = (λ i. (pos (zero-mod a.0 i) *ℤ a.1) +ℤ reach xs (zero-div a.0 i)) ∙ nothing a.1 (reach xs 0) (reach_zero xs)

-- an index on the first axis
reach_first : (n k : ℕ) (s : ℤ) (xs : List Axis) → k < n → reach ((n, s) ∷ xs) k ≡ pos k *ℤ s
reach_first n k s xs lt =
    (λ i. (pos (mod-eq_of_lt lt i) *ℤ s) +ℤ reach xs (div-eq_of_lt lt i)) ∙ ap (λ z. (pos k *ℤ s) +ℤ z) (reach_zero xs) ∙ plain (pos k *ℤ s)
  where
    plain : (z : ℤ) → z +ℤ pos 0 ≡ z
    plain z = omega (arith, ints)

once : (s : ℤ) → pos 1 *ℤ s ≡ s
once s = omega (arith, ints)

-- behind the first axis
reach_behind : (n x : ℕ) (s : ℤ) (xs : List Axis) → 0 < n → reach ((n, s) ∷ xs) (n * x) ≡ reach xs x
reach_behind n x s xs some = (λ i. (pos (mul-mod_right n x i) *ℤ s) +ℤ reach xs (mul-div_right x some i)) ∙ none s (reach xs x)
  where
    none : (s z : ℤ) → (pos 0 *ℤ s) +ℤ z ≡ z
    none s z = omega (arith, ints)

-- an axis of length 1 is not walked
reach_short : (f : ℕ) (s : ℤ) (xs : List Axis) → reach ((1, s) ∷ xs) f ≡ reach xs f
reach_short f s xs = (λ i. (pos (none f i) *ℤ s) +ℤ reach xs (div-one f i)) ∙ still s (reach xs f)
  where
    none : (f : ℕ) → f % 1 ≡ 0
    none f = let lt : f % 1 < 1 = mod-lt f (omega arith) in omega (arith, lt)

    still : (s z : ℤ) → (pos 0 *ℤ s) +ℤ z ≡ z
    still s z = omega (arith, ints)

-- two axes of which the second goes on where the first ends
spread : (x d n : ℕ) (s : ℤ) → pos (d * n + x) *ℤ s ≡ (pos x *ℤ s) +ℤ (pos d *ℤ (pos n *ℤ s))
spread x d n (pos m) = omega (arith, ints)
spread x d zero (negsuc m) = let none : pos 0 *ℤ negsuc m ≡ pos 0 = omega (arith, ints) in let same : d * 0 + x ≡ x = omega arith in rw (none, same) (omega (arith, ints))
spread x d (suc n) (negsuc m) = let below : pos (suc n) *ℤ negsuc m ≡ negsuc (n * suc m + m) = omega (arith, ints) in rw below (omega (arith, ints))

regroup : (a b c : ℤ) → (a +ℤ b) +ℤ c ≡ a +ℤ (b +ℤ c)
regroup a b c = omega (arith, ints)

reach_joined : (n o : ℕ) (s z : ℤ) (xs : List Axis) → 0 < n → 0 < o → (o ≡ 1) ⊎ (z ≡ pos n *ℤ s) → (f : ℕ) → reach ((o * n, s) ∷ xs) f ≡ reach ((n, s) ∷ (o, z) ∷ xs) f
reach_joined n o s z xs some some' joins f =
    let digits : f % (o * n) ≡ (f / n % o) * n + f % n = mod-mul f some' some in
    let rest : f / (o * n) ≡ f / n / o = ap (λ k. f / k) (swap o n) ∙ sym (div-div-eq-div-mul f n o) in
    (λ i. (pos (digits i) *ℤ s) +ℤ reach xs (rest i))
    ∙ ap (λ x. x +ℤ reach xs (f / n / o)) (spread (f % n) (f / n % o) n s)
    ∙ regroup (pos (f % n) *ℤ s) (pos (f / n % o) *ℤ (pos n *ℤ s)) (reach xs (f / n / o))
    ∙ ap (λ x. (pos (f % n) *ℤ s) +ℤ (x +ℤ reach xs (f / n / o))) (step joins)
  where
    swap : (a b : ℕ) → a * b ≡ b * a
    swap a b = omega arith

    none : (y : ℤ) → pos 0 *ℤ y ≡ pos 0
    none y = omega (arith, ints)

    first : o ≡ 1 → f / n % o ≡ 0
    first one = let lt : f / n % o < o = mod-lt (f / n) some' in omega (arith, lt, one)

    step : (o ≡ 1) ⊎ (z ≡ pos n *ℤ s) → pos (f / n % o) *ℤ (pos n *ℤ s) ≡ pos (f / n % o) *ℤ z
    step (inl one) = (λ i. pos (first one i) *ℤ (pos n *ℤ s)) ∙ none (pos n *ℤ s) ∙ sym (none z) ∙ (λ i. pos (sym (first one) i) *ℤ z)
    step (inr same) = ap (λ y. pos (f / n % o) *ℤ y) (sym same)

-- ---- the shorter of two first axes goes on in the next one

pub record Joined (n : ℕ) (s : ℤ) (xs : List Axis) (q : ℕ → ℤ) : Type 0 where
  pub axes : List Axis
  pub fewer : length axes ≡ length xs
  pub same : (f : ℕ) → reach axes f ≡ reach ((n, s) ∷ xs) f
  pub count_same : count axes ≡ n * count xs
  pub positive : ArePositive axes
  pub meets : Meets axes q 1

count_some : (xs : List Axis) → ArePositive xs → 0 < count xs
count_some [] p = omega arith
count_some (a ∷ xs) p = product_some a.0 (count xs) p.0 (count_some xs p.1)
  where
    product_some : (a b : ℕ) → 0 < a → 0 < b → 0 < a * b
    product_some zero b x y = absurd (omega arith)
    product_some (suc a) zero x y = absurd (omega arith)
    product_some (suc a) (suc b) x y = omega arith

join : (n m : ℕ) (s z : ℤ) (xs ys : List Axis) → 1 < n → n < m → n * count xs ≡ m * count ys → ArePositive ((n, s) ∷ xs) → ArePositive ((m, z) ∷ ys)
    → Meets ((n, s) ∷ xs) (reach ((m, z) ∷ ys)) 1 → Joined n s xs (reach ((m, z) ∷ ys))
join n m s z [] ys long lt same p p' meets =
    let many : m * 1 ≤ m * count ys = more m (count ys) (count_some ys p'.1) in absurd (omega (arith, same, many))
  where
    more : (m b : ℕ) → 0 < b → m * 1 ≤ m * b
    more m zero some = absurd (omega arith)
    more m (suc b) some = omega arith
join n m s z (a ∷ xs) ys long lt same p p' meets = record {
  axes = (a.0 * n, s) ∷ xs;
  fewer = refl;
  same = reach_joined n a.0 s a.1 xs p.0 p.1.0 joins;
  count_same = counted a.0 n (count xs);
  positive = (product_some a.0 n p.1.0 p.0, p.1.1);
  meets = (λ _. meets.0 long, subst (Meets xs (reach ((m, z) ∷ ys))) (units n a.0) meets.1.1);
}
  where
    counted : (o n c : ℕ) → o * n * c ≡ n * (o * c)
    counted o n c = omega arith

    units : (n o : ℕ) → 1 * n * o ≡ 1 * (o * n)
    units n o = omega arith

    product_some : (a b : ℕ) → 0 < a → 0 < b → 0 < a * b
    product_some zero b x y = absurd (omega arith)
    product_some (suc a) zero x y = absurd (omega arith)
    product_some (suc a) (suc b) x y = omega arith

    own_step : s ≡ z
    own_step = meets.0 long ∙ reach_first m 1 z ys (omega arith) ∙ once z

    one_more : 1 * n ≡ n
    one_more = omega arith

    joins : (a.0 ≡ 1) ⊎ (a.1 ≡ pos n *ℤ s)
    joins = elim (cases_lt 1 a.0) [
      | inl walked ↦ inr (meets.1.0 walked ∙ ap (reach ((m, z) ∷ ys)) one_more ∙ reach_first m n z ys lt ∙ ap (λ y. pos n *ℤ y) (sym own_step))
      | inr short ↦ inl (omega (arith, p.1.0))
    ]

-- ---- the same

sames : (a b c : ℕ) → 0 < a → a * b ≡ a * c → b ≡ c
sames zero b c some e = absurd (omega arith)
sames (suc a) b c some e = cancel b c e
  where
    cancel : (b c : ℕ) → suc a * b ≡ suc a * c → b ≡ c
    cancel zero zero e = refl
    cancel zero (suc c) e = absurd (omega arith)
    cancel (suc b) zero e = absurd (omega arith)
    cancel (suc b) (suc c) e = ap suc (cancel b c (omega arith))

ones : (a b : ℕ) → 1 ≡ a * b → a ≡ 1
ones zero b e = absurd (omega arith)
ones (suc a) zero e = absurd (omega arith)
ones (suc zero) (suc b) e = refl
ones (suc (suc a)) (suc b) e = absurd (omega arith)

ones_left : (b : ℕ) → 1 * b ≡ b
ones_left b = omega arith

pub agree : (fuel : ℕ) (xs ys : List Axis) → length xs + length ys ≤ fuel → count xs ≡ count ys → ArePositive xs → ArePositive ys → Meets xs (reach ys) 1 → Meets ys (reach xs) 1 → (f : ℕ) → reach xs f ≡ reach ys f
agree zero [] [] le same p p' m m' f = refl
agree zero [] (b ∷ ys) le same p p' m m' f = absurd (omega arith)
agree zero (a ∷ xs) ys le same p p' m m' f = absurd (omega arith)
agree (suc k) [] [] le same p p' m m' f = refl
agree (suc k) [] ((n, z) ∷ ys) le same p p' m m' f =
    let one : n ≡ 1 = ones n (count ys) same in
    let short : (x : ℕ) → reach ((n, z) ∷ ys) x ≡ reach ys x = λ x. ap (λ l. reach ((l, z) ∷ ys) x) one ∙ reach_short x z ys in
    agree k [] ys (omega arith) (same ∙ ap (λ l. l * count ys) one ∙ ones_left (count ys)) tt p'.1 tt (subst (Meets ys (reach [])) (ap (λ l. 1 * l) one) m'.1) f ∙ sym (short f)
agree (suc k) ((n, s) ∷ xs) [] le same p p' m m' f =
    let one : n ≡ 1 = ones n (count xs) (sym same) in
    let short : (x : ℕ) → reach ((n, s) ∷ xs) x ≡ reach xs x = λ x. ap (λ l. reach ((l, s) ∷ xs) x) one ∙ reach_short x s xs in
    short f ∙ agree k xs [] (omega arith) (sym (ap (λ l. l * count xs) one ∙ ones_left (count xs)) ∙ same) p.1 tt (subst (Meets xs (reach [])) (ap (λ l. 1 * l) one) m.1) tt f
agree (suc k) ((n, s) ∷ xs) ((o, z) ∷ ys) le same p p' m m' f = elim (cases_lt 1 n) [
  | inr few ↦
      let one : n ≡ 1 = omega (arith, p.0) in
      let short : (x : ℕ) → reach ((n, s) ∷ xs) x ≡ reach xs x = λ x. ap (λ l. reach ((l, s) ∷ xs) x) one ∙ reach_short x s xs in
      short f ∙ agree k xs ((o, z) ∷ ys) (omega arith) (sym (ap (λ l. l * count xs) one ∙ ones_left (count xs)) ∙ same) p.1 p' (subst (Meets xs (reach ((o, z) ∷ ys))) (ap (λ l. 1 * l) one) m.1)
      (meets_same ((o, z) ∷ ys) (reach ((n, s) ∷ xs)) (reach xs) 1 short m') f
  | inl long ↦ elim (cases_lt 1 o) [
    | inr few ↦
        let one : o ≡ 1 = omega (arith, p'.0) in
        let short : (x : ℕ) → reach ((o, z) ∷ ys) x ≡ reach ys x = λ x. ap (λ l. reach ((l, z) ∷ ys) x) one ∙ reach_short x z ys in
        agree k ((n, s) ∷ xs) ys (omega arith) (same ∙ ap (λ l. l * count ys) one ∙ ones_left (count ys)) p p'.1 (meets_same ((n, s) ∷ xs) (reach ((o, z) ∷ ys)) (reach ys) 1 short m)
        (subst (Meets ys (reach ((n, s) ∷ xs))) (ap (λ l. 1 * l) one) m'.1) f ∙ sym (short f)
    | inl long' ↦ elim (cases_lt n o) [
      | inl less ↦
          let w = join n o s z xs ys long less same p p' m in
          sym (w.same f) ∙ agree k w.axes ((o, z) ∷ ys) (omega (arith, w.fewer)) (w.count_same ∙ same) w.positive p' w.meets
          (meets_same ((o, z) ∷ ys) (reach ((n, s) ∷ xs)) (reach w.axes) 1 (λ x. sym (w.same x)) m') f
      | inr other ↦ elim (cases_lt o n) [
        | inl less ↦
            let w = join o n z s ys xs long' less (sym same) p' p m' in
            agree k ((n, s) ∷ xs) w.axes (omega (arith, w.fewer)) (same ∙ sym w.count_same) p w.positive (meets_same ((n, s) ∷ xs) (reach ((o, z) ∷ ys)) (reach w.axes) 1 (λ x. sym (w.same x)) m)
            w.meets f ∙ w.same f
        | inr equal ↦
            let e : n ≡ o = omega (arith, other, equal) in
            let step : s ≡ z = m.0 long ∙ reach_first o 1 z ys (omega arith) ∙ once z in
            let here : 1 * n ≡ n * 1 = omega arith in
            let here' : 1 * o ≡ o * 1 = omega arith in
            let count_is : count xs ≡ count ys = sames n (count xs) (count ys) p.0 (same ∙ ap (λ l. l * count ys) (sym e)) in
            let behind : Meets xs (reach ys) 1 = meets_scaled xs (reach ((o, z) ∷ ys)) (reach ys) n 1 (λ x. ap (λ l. reach ((o, z) ∷ ys) (l * x)) e ∙ reach_behind o x z ys p'.0) (subst (Meets xs (reach ((o, z) ∷ ys))) here m.1) in
            let behind' : Meets ys (reach xs) 1 = meets_scaled ys (reach ((n, s) ∷ xs)) (reach xs) o 1 (λ x. ap (λ l. reach ((n, s) ∷ xs) (l * x)) (sym e) ∙ reach_behind n x s xs p.0) (subst (Meets ys (reach ((n, s) ∷ xs))) here' m'.1) in
            let rest : reach xs (f / n) ≡ reach ys (f / n) = agree k xs ys (omega arith) count_is p.1 p'.1 behind behind' (f / n) in
            (λ i. (pos (f % n) *ℤ step i) +ℤ rest i) ∙ (λ i. (pos (f % e i) *ℤ z) +ℤ reach ys (f / e i))
      ]
    ]
  ]
]
