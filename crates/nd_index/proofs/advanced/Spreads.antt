-- How far what is taken of axes leads.
use Rattle.std.proofs.Common.{◌≡◌, ℕ, zero, suc, ◌+◌, ◌-◌, ◌*◌, ◌^◌, ◌<◌, ◌≤◌, List, [], ◌∷◌, ◌++◌, map, length, take, drop, get_or, refl, sym, ap, subst, ◌∙◌, arith, length-take}
use Rattle.std.specs.Prelude.{ℤ, pos, ◌+ℤ◌, ◌*ℤ◌, unsigned_abs}
use Rattle.std.specs.List.{All}
use Rattle.std.proofs.lemmas.Int.{ints}
use Rattle.std.proofs.lemmas.List.{drop-drop, take_more, take-append-drop, map-append, length-drop}
use Rattle.std.proofs.lemmas.List.Elements.{All-drop, All-take, All-map, All-weaker}
use Rattle.nd_model.specs.Indexing.Advanced.{Take, Whole, Added, Spread, unravelled, number_at, source, kept_shape}
use Rattle.nd_model.specs.Arrays.Broadcast.{own_tuple}
use Rattle.nd_model.specs.Arrays.Strides.{way_to}
use Rattle.nd_model.specs.Arrays.Tuple.{indices, number}
use Rattle.nd_view.proofs.Tuples.{map_same}
use Rattle.nd_index.specs.Advanced.Takes.{axes_taken_by, axes_taken, kept_in, take_of, takes_of}
use Rattle.nd_index.specs.Advanced.TakenWays.{kept_strides, way_by, way_taken}
use Rattle.nd_index.specs.Offsets.Ways.{AreNear, sums_at}
use Rattle.nd_index.specs.declared.advanced.takes.Take as code
use Rattle.nd_index.specs.declared.advanced.takes.Take.TheVariants as variants
use Rattle.nd_index.proofs.offsets.Sums.{no_way, way_append, way_take, way_near, zero_way, few_digits, length-unravelled, each_index}

-- ---- one take more

sum_end : (a b c : ℤ) → a +ℤ (b +ℤ c) ≡ (a +ℤ b) +ℤ c
sum_end a b c = omega (arith, ints)

sum_first : (z : ℤ) → z +ℤ pos 0 ≡ pos 0 +ℤ z
sum_first z = omega (arith, ints)

pub taken_more : (ts : List Take) (u : Take) (sizes : List ℕ) (strides : List ℤ) (m : List ℕ)
    → way_taken (ts ++ u ∷ []) sizes strides m ≡ way_taken ts sizes strides m +ℤ way_by u (drop (axes_taken ts) sizes) (drop (axes_taken ts) strides) m
taken_more [] u sizes strides m = sum_first (way_by u sizes strides m)
taken_more (t ∷ ts) u sizes strides m =
    let a = axes_taken_by t in
    ap (λ z. way_by t sizes strides m +ℤ z) (taken_more ts u (drop a sizes) (drop a strides) m
    ∙ (λ i. way_taken ts (drop a sizes) (drop a strides) m +ℤ way_by u (behind sizes a (axes_taken ts) i) (behind strides a (axes_taken ts) i) m))
    ∙ sum_end (way_by t sizes strides m) (way_taken ts (drop a sizes) (drop a strides) m) (way_by u (drop (a + axes_taken ts) sizes) (drop (a + axes_taken ts) strides) m)
  where
    behind : {A : Type 0} (xs : List A) (a b : ℕ) → drop b (drop a xs) ≡ drop (a + b) xs
    behind xs a b = drop-drop b a xs

pub axes_more : (ts : List Take) (u : Take) → axes_taken (ts ++ u ∷ []) ≡ axes_taken ts + axes_taken_by u
axes_more [] u = omega arith
axes_more (t ∷ ts) u = omega (arith, axes_more ts u)

pub axes_front : (ts us : List Take) → axes_taken ts ≤ axes_taken (ts ++ us)
axes_front [] us = omega arith
axes_front (t ∷ ts) us = omega (arith, axes_front ts us)

takes_more : (takes : List code.Take) (k : ℕ) (d : code.Take) → k < length takes → takes_of (take (k + 1) takes) ≡ takes_of (take k takes) ++ take_of (get_or takes k d) ∷ []
takes_more takes k d lt = ap takes_of (take_more takes k d lt) ∙ map-append take_of (take k takes) (get_or takes k d ∷ [])

-- an array without numbers leads nowhere
pub none_by : (axes : ℕ) (shape sizes : List ℕ) (strides : List ℤ) (m : List ℕ) → way_by (Spread axes shape []) sizes strides m ≡ pos 0
none_by axes shape sizes strides m = ap (λ k. way_to (unravelled (take axes sizes) k) strides) (get_or-nil (number shape (own_tuple shape m))) ∙ zero_way (take axes sizes) strides
  where
    get_or-nil : (k : ℕ) → ◌≡◌ {A = ℕ} (get_or [] k 0) 0
    get_or-nil zero = refl
    get_or-nil (suc k) = refl

-- an array on its own axes
pub by_own : (axes : ℕ) (shape ks sizes : List ℕ) (strides : List ℤ) (m : List ℕ)
    → way_by (Spread axes shape ks) sizes strides m ≡ way_to (unravelled (take axes sizes) (number_at shape ks m)) (take axes strides)
by_own axes shape ks sizes strides m =
    let t : List ℕ = unravelled (take axes sizes) (number_at shape ks m) in
    sym (way_take axes t strides (omega (arith, length-unravelled (take axes sizes) (number_at shape ks m), length-take axes sizes)))

-- ---- all at once

added_all : {X : Type 0} (own : List ℤ) (f g : X → ℤ) (ts : List X) → sums_at own (map f ts) (map g ts) ≡ map (λ t. f t +ℤ get_or own (unsigned_abs (g t)) (pos 0)) ts
added_all own f g [] = refl
added_all own f g (t ∷ ts) = ap (λ l. (f t +ℤ get_or own (unsigned_abs (g t)) (pos 0)) ∷ l) (added_all own f g ts)

at_number : (w : ℕ → ℤ) (ks : List ℕ) (j : ℕ) → w 0 ≡ pos 0 → get_or (map w ks) j (pos 0) ≡ w (get_or ks j 0)
at_number w [] zero none = sym none
at_number w [] (suc j) none = sym none
at_number w (k ∷ ks) zero none = refl
at_number w (k ∷ ks) (suc j) none = at_number w ks j none

pub array_added : (shape ks lengths many : List ℕ) (strides before own numbers : List ℤ) (f : List ℕ → ℤ) → before ≡ map f (indices many)
    → own ≡ map (λ k. way_to (unravelled lengths k) strides) ks → numbers ≡ map (λ m. pos (number shape (own_tuple shape m))) (indices many)
    → sums_at own before numbers ≡ map (λ m. f m +ℤ way_to (unravelled lengths (number_at shape ks m)) strides) (indices many)
array_added shape ks lengths many strides before own numbers f were ways_are numbers_are =
    let w : ℕ → ℤ = λ k. way_to (unravelled lengths k) strides in
    (λ i. sums_at (ways_are i) (were i) (numbers_are i))
    ∙ added_all (map w ks) f (λ m. pos (number shape (own_tuple shape m))) (indices many)
    ∙ map_same (λ m. f m +ℤ get_or (map w ks) (number shape (own_tuple shape m)) (pos 0)) (λ m. f m +ℤ w (number_at shape ks m))
    (λ m. ap (λ z. f m +ℤ z) (at_number w ks (number shape (own_tuple shape m)) (zero_way lengths strides))) (indices many)

-- the axes of an array, as the code cuts them out
pub cut : {A : Type 0} (axis axes : ℕ) (xs : List A) → take (axis + axes - axis) (drop axis xs) ≡ take axes (drop axis xs)
cut axis axes xs = ap (λ k. take k (drop axis xs)) (same axis axes)
  where
    same : (a b : ℕ) → a + b - a ≡ b
    same a b = omega arith

pub array_led : (shape ks many sizes : List ℕ) (strides : List ℤ) (axis axes : ℕ) (before own numbers after : List ℤ) (f : List ℕ → ℤ)
    → own ≡ map (λ k. way_to (unravelled (take (axis + axes - axis) (drop axis sizes)) k) (take (axis + axes - axis) (drop axis strides))) ks
    → numbers ≡ map (λ m. pos (number shape (own_tuple shape m))) (indices many) → after ≡ sums_at own before numbers → before ≡ map f (indices many)
    → after ≡ map (λ m. f m +ℤ way_by (Spread axes shape ks) (drop axis sizes) (drop axis strides) m) (indices many)
array_led shape ks many sizes strides axis axes before own numbers after f owns numbers_are is were =
    is ∙ array_added shape ks (take axes (drop axis sizes)) many (take axes (drop axis strides)) before own numbers f were
    (owns ∙ (λ i. map (λ k. way_to (unravelled (cut axis axes sizes i) k) (cut axis axes strides i)) ks)) numbers_are
    ∙ map_same (λ m. f m +ℤ way_to (unravelled (take axes (drop axis sizes)) (number_at shape ks m)) (take axes (drop axis strides)))
    (λ m. f m +ℤ way_by (Spread axes shape ks) (drop axis sizes) (drop axis strides) m)
    (λ m. ap (λ z. f m +ℤ z) (sym (by_own axes shape ks (drop axis sizes) (drop axis strides) m))) (indices many)

-- what leads nowhere adds nothing
pub none_added : (u : Take) (sizes many : List ℕ) (strides before : List ℤ) (f : List ℕ → ℤ) → ((m : List ℕ) → way_by u sizes strides m ≡ pos 0) → before ≡ map f (indices many)
    → before ≡ map (λ m. f m +ℤ way_by u sizes strides m) (indices many)
none_added u sizes many strides before f none were =
    were ∙ map_same f (λ m. f m +ℤ way_by u sizes strides m) (λ m. stays (f m) ∙ ap (λ z. f m +ℤ z) (sym (none m))) (indices many)
  where
    stays : (z : ℤ) → z ≡ z +ℤ pos 0
    stays z = omega (arith, ints)

-- one take more of the code's
pub takes_again : (takes : List code.Take) (k : ℕ) (x : code.Take) → k < length takes → x ≡ get_or takes k x → takes_of (take (k + 1) takes) ≡ takes_of (take k takes) ++ take_of x ∷ []
takes_again takes k x lt is = takes_more takes k x lt ∙ ap (λ y. takes_of (take k takes) ++ take_of y ∷ []) (sym is)

pub take_again : (takes : List code.Take) (k : ℕ) (x : code.Take) (sizes many : List ℕ) (strides before after : List ℤ) (axis : ℕ) → k < length takes → x ≡ get_or takes k x
    → axis ≡ axes_taken (takes_of (take k takes))
    → ((f : List ℕ → ℤ) → before ≡ map f (indices many) → after ≡ map (λ m. f m +ℤ way_by (take_of x) (drop axis sizes) (drop axis strides) m) (indices many))
    → before ≡ map (way_taken (takes_of (take k takes)) sizes strides) (indices many) → after ≡ map (way_taken (takes_of (take (k + 1) takes)) sizes strides) (indices many)
take_again takes k x sizes many strides before after axis lt is axes led so_far =
    let ts : List Take = takes_of (take k takes) in
    let u : Take = take_of x in
    led (way_taken ts sizes strides) so_far
    ∙ map_same (λ m. way_taken ts sizes strides m +ℤ way_by u (drop axis sizes) (drop axis strides) m) (way_taken (ts ++ u ∷ []) sizes strides)
    (λ m. (λ i. way_taken ts sizes strides m +ℤ way_by u (drop (axes i) sizes) (drop (axes i) strides) m) ∙ sym (taken_more ts u sizes strides m)) (indices many)
    ∙ ap (λ us. map (way_taken us sizes strides) (indices many)) (sym (takes_again takes k x lt is))

pub axes_again : (takes : List code.Take) (k : ℕ) (x : code.Take) (axis more : ℕ) → k < length takes → x ≡ get_or takes k x → axis ≡ axes_taken (takes_of (take k takes)) → more ≡ axes_taken_by (take_of x)
    → (axis + more ≡ axes_taken (takes_of (take (k + 1) takes))) × (axis + more ≤ axes_taken (takes_of takes))
axes_again takes k x axis more lt is axes by =
    let ts : List Take = takes_of (take k takes) in
    let sum : axis + more ≡ axes_taken (takes_of (take (k + 1) takes)) = omega (arith, axes, by, axes_more ts (take_of x), ap axes_taken (takes_again takes k x lt is)) in
    let all : takes_of (take (k + 1) takes) ++ takes_of (drop (k + 1) takes) ≡ takes_of takes = sym (map-append take_of (take (k + 1) takes) (drop (k + 1) takes)) ∙ ap takes_of (take-append-drop (k + 1) takes) in
    (sum, omega (arith, sum, axes_front (takes_of (take (k + 1) takes)) (takes_of (drop (k + 1) takes)), ap axes_taken all))

pub no_items : {A : Type 0} (xs : List A) → length xs ≡ 0 → xs ≡ []
no_items [] e = refl
no_items (x ∷ xs) e = absurd (omega (arith, e))

-- ---- how far arrays lead

abbrev pub AreFew : List Take → Type 0
AreFew [] = Unit {0}
AreFew (Whole ∷ ts) = AreFew ts
AreFew (Added ∷ ts) = AreFew ts
AreFew (Spread axes shape ks ∷ ts) = All (λ k. k ≤ 2 ^ 32) ks × AreFew ts

pub code_few : (ts : List code.Take) → AreFew (takes_of ts)
code_few [] = tt
code_few (variants.Whole ∷ ts) = code_few ts
code_few (variants.Added ∷ ts) = code_few ts
code_few (variants.Spread s ∷ ts) = (s.near, code_few ts)

few_at : (ks : List ℕ) (j : ℕ) → All (λ k. k ≤ 2 ^ 32) ks → get_or ks j 0 ≤ 2 ^ 32
few_at [] zero few = omega arith
few_at [] (suc j) few = omega arith
few_at (k ∷ ks) zero few = few 0 0 (omega arith)
few_at (k ∷ ks) (suc j) few = few_at ks j (λ i d lt. few (suc i) d (omega arith))

abs_sum : (a b : ℤ) → unsigned_abs (a +ℤ b) ≤ unsigned_abs a + unsigned_abs b
abs_sum a b = omega (arith, ints)

abbrev pub in_range : ℤ → Type 0
in_range s = unsigned_abs s < 2 ^ 64

range_drop : (k : ℕ) (strides : List ℤ) → All in_range strides → All in_range (drop k strides)
range_drop k strides range = All-drop in_range k strides range

pub own_near : (ks lengths : List ℕ) (strides : List ℤ) → All (λ k. k ≤ 2 ^ 32) ks → length lengths ≤ 64 → All in_range strides → AreNear (map (λ k. way_to (unravelled lengths k) strides) ks)
own_near ks lengths strides few most range =
    All-map (λ z. unsigned_abs z ≤ 2 ^ 112) (λ k. way_to (unravelled lengths k) strides) ks
    (All-weaker (λ k. k ≤ 2 ^ 32) (λ k. unsigned_abs (way_to (unravelled lengths k) strides) ≤ 2 ^ 112) near ks few)
  where
    near : (k : ℕ) → k ≤ 2 ^ 32 → unsigned_abs (way_to (unravelled lengths k) strides) ≤ 2 ^ 112
    near k few = omega (arith, most, length-unravelled lengths k, way_near (unravelled lengths k) strides (few_digits lengths k few) range)

-- those of the axes that the code cuts out
pub led_near : (ks sizes : List ℕ) (strides own : List ℤ) (axis axes : ℕ)
    → own ≡ map (λ k. way_to (unravelled (take (axis + axes - axis) (drop axis sizes)) k) (take (axis + axes - axis) (drop axis strides))) ks
    → All (λ k. k ≤ 2 ^ 32) ks → length sizes ≤ 32 → All in_range strides → AreNear own
led_near ks sizes strides own axis axes is few most range =
    let lengths : List ℕ = take (axis + axes - axis) (drop axis sizes) in
    let short : length lengths ≤ 64 = omega (arith, length-take (axis + axes - axis) (drop axis sizes), length-drop axis sizes, most) in
    subst AreNear (sym is)
    (own_near ks lengths (take (axis + axes - axis) (drop axis strides)) few short (All-take in_range (axis + axes - axis) (drop axis strides) (All-drop in_range axis strides range)))

taken_near : (ts : List Take) (sizes : List ℕ) (strides : List ℤ) (m : List ℕ) → AreFew ts → All (λ s. unsigned_abs s < 2 ^ 64) strides → unsigned_abs (way_taken ts sizes strides m) ≤ axes_taken ts * 2 ^ 96
taken_near [] sizes strides m few range = omega arith
taken_near (Whole ∷ ts) sizes strides m few range =
    let rest : unsigned_abs (way_taken ts (drop 1 sizes) (drop 1 strides) m) ≤ axes_taken ts * 2 ^ 96 = taken_near ts (drop 1 sizes) (drop 1 strides) m few (range_drop 1 strides range) in
    omega (arith, rest, abs_sum (pos 0) (way_taken ts (drop 1 sizes) (drop 1 strides) m))
taken_near (Added ∷ ts) sizes strides m few range =
    let rest : unsigned_abs (way_taken ts sizes strides m) ≤ axes_taken ts * 2 ^ 96 = taken_near ts sizes strides m few range in
    omega (arith, rest, abs_sum (pos 0) (way_taken ts sizes strides m))
taken_near (Spread axes shape ks ∷ ts) sizes strides m few range =
    let k : ℕ = number_at shape ks m in
    let t : List ℕ = unravelled (take axes sizes) k in
    let first : unsigned_abs (way_to t strides) ≤ length t * 2 ^ 96 = way_near t strides (few_digits (take axes sizes) k (few_at ks (number shape (own_tuple shape m)) few.0)) range in
    let long : length t ≤ axes = omega (arith, length-unravelled (take axes sizes) k, length-take axes sizes) in
    let rest : unsigned_abs (way_taken ts (drop axes sizes) (drop axes strides) m) ≤ axes_taken ts * 2 ^ 96 = taken_near ts (drop axes sizes) (drop axes strides) m few.1 (range_drop axes strides range) in
    omega (arith, first, long, rest, abs_sum (way_to t strides) (way_taken ts (drop axes sizes) (drop axes strides) m))

pub arrays_near : (ts : List Take) (sizes : List ℕ) (strides : List ℤ) (many : List ℕ) → AreFew ts → axes_taken ts ≤ 64 → All (λ s. unsigned_abs s < 2 ^ 64) strides
    → AreNear (map (way_taken ts sizes strides) (indices many))
arrays_near ts sizes strides many few most range =
    each_index (λ z. unsigned_abs z ≤ 2 ^ 112) (way_taken ts sizes strides) many (λ m is. omega (arith, most, taken_near ts sizes strides m few range))

-- ---- the axes that are kept

pub length-kept_shape : (ts : List Take) (sizes : List ℕ) → length (kept_shape ts sizes) ≡ kept_in ts
length-kept_shape [] sizes = refl
length-kept_shape (Whole ∷ ts) sizes = omega (arith, length-kept_shape ts (drop 1 sizes))
length-kept_shape (Added ∷ ts) sizes = omega (arith, length-kept_shape ts sizes)
length-kept_shape (Spread axes shape ks ∷ ts) sizes = omega (arith, length-kept_shape ts (drop axes sizes))

pub length-kept_strides : (ts : List Take) (strides : List ℤ) → length (kept_strides ts strides) ≡ kept_in ts
length-kept_strides [] strides = refl
length-kept_strides (Whole ∷ ts) strides = omega (arith, length-kept_strides ts (drop 1 strides))
length-kept_strides (Added ∷ ts) strides = omega (arith, length-kept_strides ts strides)
length-kept_strides (Spread axes shape ks ∷ ts) strides = omega (arith, length-kept_strides ts (drop axes strides))

first_range : (strides : List ℤ) → All (λ s. unsigned_abs s < 2 ^ 64) strides → unsigned_abs (get_or strides 0 (pos 0)) < 2 ^ 64
first_range [] range = omega arith
first_range (s ∷ strides) range = range 0 (pos 0) (omega arith)

cons_range : (s : ℤ) (strides : List ℤ) → unsigned_abs s < 2 ^ 64 → All (λ s. unsigned_abs s < 2 ^ 64) strides → All (λ s. unsigned_abs s < 2 ^ 64) (s ∷ strides)
cons_range s strides here range zero d lt = here
cons_range s strides here range (suc k) d lt = range k d (omega arith)

pub kept_range : (ts : List Take) (strides : List ℤ) → All (λ s. unsigned_abs s < 2 ^ 64) strides → All (λ s. unsigned_abs s < 2 ^ 64) (kept_strides ts strides)
kept_range [] strides range = λ k d lt. absurd (omega arith)
kept_range (Whole ∷ ts) strides range = cons_range (get_or strides 0 (pos 0)) (kept_strides ts (drop 1 strides)) (first_range strides range) (kept_range ts (drop 1 strides) (range_drop 1 strides range))
kept_range (Added ∷ ts) strides range = cons_range (pos 0) (kept_strides ts strides) (omega arith) (kept_range ts strides range)
kept_range (Spread axes shape ks ∷ ts) strides range = kept_range ts (drop axes strides) (range_drop axes strides range)

-- ---- the way to an element is that of the arrays and that of the kept axes

module _ (m : List ℕ) where
  no_ways : (t : List ℕ) → pos 0 ≡ pos 0 +ℤ way_to t []
  no_ways t = rw (no_way t) refl

  whole_way : (x w k : ℤ) → x +ℤ (w +ℤ k) ≡ (pos 0 +ℤ w) +ℤ (x +ℤ k)
  whole_way x w k = omega (arith, ints)

  added_way : (i : ℕ) (w k : ℤ) → w +ℤ k ≡ (pos 0 +ℤ w) +ℤ ((pos i *ℤ pos 0) +ℤ k)
  added_way i w k = omega (arith, ints)

  same_drop : {A B : Type 0} (axes : ℕ) (xs : List A) (ys : List B) → length ys ≡ length xs → drop (length (take axes xs)) ys ≡ drop axes ys
  same_drop zero xs ys e = refl
  same_drop (suc a) [] [] e = refl
  same_drop (suc a) [] (y ∷ ys) e = absurd (omega arith)
  same_drop (suc a) (x ∷ xs) [] e = absurd (omega arith)
  same_drop (suc a) (x ∷ xs) (y ∷ ys) e = same_drop a xs ys (omega arith)

  length-behind : {A B : Type 0} (axes : ℕ) (xs : List A) (ys : List B) → length ys ≡ length xs → length (drop axes ys) ≡ length (drop axes xs)
  length-behind zero xs ys e = e
  length-behind (suc a) [] [] e = refl
  length-behind (suc a) [] (y ∷ ys) e = absurd (omega arith)
  length-behind (suc a) (x ∷ xs) [] e = absurd (omega arith)
  length-behind (suc a) (x ∷ xs) (y ∷ ys) e = length-behind a xs ys (omega arith)

  less_axes : (axes rest : ℕ) (sizes : List ℕ) → axes + rest ≡ length sizes → rest ≡ length (drop axes sizes)
  less_axes zero rest sizes e = omega (arith, e)
  less_axes (suc a) rest [] e = absurd (omega arith)
  less_axes (suc a) rest (n ∷ sizes) e = less_axes a rest sizes (omega arith)

  pub way_source : (ts : List Take) (sizes : List ℕ) (strides : List ℤ) (t : List ℕ) → axes_taken ts ≡ length sizes → length strides ≡ length sizes → length t ≡ kept_in ts
      → way_to (source ts sizes m t) strides ≡ way_taken ts sizes strides m +ℤ way_to t (kept_strides ts strides)
  way_source [] sizes strides t axes each kept = no_ways t
  way_source (Whole ∷ ts) [] strides t axes each kept = absurd (omega arith)
  way_source (Whole ∷ ts) (n ∷ sizes) [] t axes each kept = absurd (omega arith)
  way_source (Whole ∷ ts) (n ∷ sizes) (s ∷ strides) [] axes each kept = absurd (omega arith)
  way_source (Whole ∷ ts) (n ∷ sizes) (s ∷ strides) (i ∷ t) axes each kept =
      ap (λ z. (pos i *ℤ s) +ℤ z) (way_source ts sizes strides t (omega arith) (omega arith) (omega arith))
      ∙ whole_way (pos i *ℤ s) (way_taken ts sizes strides m) (way_to t (kept_strides ts strides))
  way_source (Added ∷ ts) sizes strides [] axes each kept = absurd (omega arith)
  way_source (Added ∷ ts) sizes strides (i ∷ t) axes each kept =
      way_source ts sizes strides t (omega arith) each (omega arith) ∙ added_way i (way_taken ts sizes strides m) (way_to t (kept_strides ts strides))
  way_source (Spread axes shape ks ∷ ts) sizes strides t taken each kept =
      let u : List ℕ = unravelled (take axes sizes) (number_at shape ks m) in
      let rest : List ℕ = source ts (drop axes sizes) m t in
      let behind : drop (length u) strides ≡ drop axes strides = ap (λ k. drop k strides) (length-unravelled (take axes sizes) (number_at shape ks m)) ∙ same_drop axes sizes strides each in
      way_append u rest strides
      ∙ ap (λ ss. way_to u strides +ℤ way_to rest ss) behind
      ∙ ap (λ z. way_to u strides +ℤ z) (way_source ts (drop axes sizes) (drop axes strides) t (less_axes axes (axes_taken ts) sizes taken) (length-behind axes sizes strides each) (omega (arith, kept)))
      ∙ sum_end (way_to u strides) (way_taken ts (drop axes sizes) (drop axes strides) m) (way_to t (kept_strides ts (drop axes strides)))
