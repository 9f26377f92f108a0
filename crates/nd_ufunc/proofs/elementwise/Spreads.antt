-- Elements of a view in a greater shape, by their numbers.
use Rattle.std.proofs.Common.{◌≡◌, ℕ, zero, suc, ◌+◌, ◌-◌, ◌*◌, ◌/◌, ◌%◌, ◌<◌, ◌≤◌, true, false, List, [], ◌∷◌, length, take, drop, get_or, refl, sym, ap, ◌∙◌, subst, inl, inr, arith, eqb-true, drop-cons, length-drop, take_all, ◌++◌}
use Rattle.std.specs.Prelude.{nat_le, ◌==◌, ◌||◌, if◌then◌else◌}
use Rattle.std.proofs.lemmas.Bool.{cases_Bool}
use Rattle.std.proofs.lemmas.Bool.Decides.{nat_tests}
use Rattle.std.specs.List.{flat_map}
use Rattle.std.proofs.lemmas.List.{drop-drop, get_or-drop, length-map}
use Rattle.std.proofs.lemmas.Nat.{mod-mul-add, div-mul-add}
use Rattle.std.proofs.Math.Nat.{mod-lt, div-lt_iff_lt-mul, mul-div_cancel_left, mul-le-mul_right, mul-add-mod_self_right}
use Rattle.nd_model.specs.Arrays.Broadcast.{broadcast_view, broadcasts_to, can_stretch, last_axes, narrowed_axes, own_tuple}
use Rattle.nd_model.specs.Arrays.Tuple.{count_up, elements_of, indices, number}
use Rattle.nd_model.specs.Arrays.View.{Geo}
use Rattle.nd_model.proofs.Transposed.{both}
use Rattle.nd_model.proofs.Tuples.{IsTuple, length-tuple, number_below, tuple-drop}
use Rattle.nd_view.proofs.Counts.{rest_some}
use Rattle.nd_view.proofs.Indexed.{at_index, length-indices}
use Rattle.nd_view.proofs.Numbered.{tuple_is, tuple_of}
use Rattle.nd_shape.proofs.Rearranged.{tuple_of_index}
use Rattle.nd_ufunc.specs.Elementwise.Spread.{own_index, own_number}

-- ---- by the tuple

pub own_is : (own shape t : List ℕ) → can_stretch own shape ≡ true → IsTuple shape t → own_number own shape (number shape t) ≡ number own (narrowed_axes own t)
own_is [] [] t fits is = refl
own_is [] (m ∷ shape) t fits is = absurd (cc)
own_is (n ∷ own) [] t fits is = absurd (cc)
own_is (n ∷ own) (m ∷ shape) [] fits is = absurd is
own_is (n ∷ own) (m ∷ shape) (i ∷ t) fits is =
    let below = number_below shape t is.1 in
    let index : (i * elements_of shape + number shape t) / elements_of shape ≡ i = div-mul-add i (elements_of shape) (number shape t) below in
    let rest : (i * elements_of shape + number shape t) % elements_of shape ≡ number shape t = mod-mul-add i (elements_of shape) (number shape t) below in
    (λ j. own_index n (index j) * elements_of own + own_number own shape (rest j))
    ∙ ap (λ k. own_index n i * elements_of own + k) (own_is own shape t (both (n == m || n == 1) (can_stretch own shape) fits).1 is.1)

-- the elements of the last axes are counted anew for each index of the others
parts : (k : ℕ) (shape : List ℕ) → (c : ℕ) × (elements_of shape ≡ c * elements_of (drop k shape))
parts zero shape = (1, omega arith)
parts (suc k) [] = (1, refl)
parts (suc k) (m ∷ shape) = let p = parts k shape in (m * p.0, ap (λ e. m * e) p.1 ∙ omega arith)

pub number_last : (k : ℕ) (shape t : List ℕ) → IsTuple shape t → number (drop k shape) (drop k t) ≡ number shape t % elements_of (drop k shape)
number_last zero shape t is =
    let same : number shape t ≡ 0 * elements_of shape + number shape t = omega arith in
    sym (ap (λ k. k % elements_of shape) same ∙ mod-mul-add 0 (elements_of shape) (number shape t) (number_below shape t is))
number_last (suc k) [] [] is = refl
number_last (suc k) [] (i ∷ t) is = absurd is
number_last (suc k) (m ∷ shape) [] is = absurd is
number_last (suc k) (m ∷ shape) (i ∷ t) is =
    let p = parts k shape in let e = elements_of (drop k shape) in
    let whole : i * elements_of shape + number shape t ≡ i * p.0 * e + number shape t = ap (λ x. i * x + number shape t) p.1 ∙ omega arith in
    number_last k shape t is.1 ∙ sym (ap (λ x. x % e) whole ∙ mul-add-mod_self_right (i * p.0) e (number shape t))

pub last_few : (k : ℕ) (shape : List ℕ) → 0 < elements_of shape → (0 < elements_of (drop k shape)) × (elements_of (drop k shape) ≤ elements_of shape)
last_few k shape some =
    let p = parts k shape in let e = elements_of (drop k shape) in
    let more : 0 < e = rest_some p.0 e (omega (arith, some, p.1)) in
    let times : 0 < p.0 = first_some p.0 e (omega (arith, some, p.1)) in
    let most : 1 * e ≤ p.0 * e = mul-le-mul_right e times in
    (more, omega (arith, most, p.1))
  where
    first_some : (a b : ℕ) → 0 < a * b → 0 < a
    first_some zero b lt = absurd (omega arith)
    first_some (suc a) b lt = omega arith

-- what stands at a number of the greater shape
pub spread_place : (g : Geo) (shape : List ℕ) (k : ℕ) → broadcasts_to g.shape shape ≡ true → k < elements_of shape
    → get_or (broadcast_view g shape).places k 0 ≡ get_or g.places (own_number g.shape (last_axes g.shape shape) (k % elements_of (last_axes g.shape shape))) 0
spread_place g shape k fits lt =
    let t : List ℕ = tuple_of shape k in let is = tuple_is shape k lt in
    let tuple : IsTuple shape t = tuple_of_index shape t is.0 in
    let more : ℕ = length shape - length g.shape in
    let same : length t - length g.shape ≡ more = ap (λ n. n - length g.shape) (length-tuple shape t tuple) in
    let stretch : can_stretch g.shape (drop more shape) ≡ true = (both _ (can_stretch g.shape (drop more shape)) fits).1 in
    ap (λ n. get_or (broadcast_view g shape).places n 0) (sym is.1)
    ∙ at_index (λ u. get_or g.places (number g.shape (own_tuple g.shape u)) 0) shape t 0 is.0
    ∙ ap (λ n. get_or g.places (number g.shape (narrowed_axes g.shape (drop n t))) 0) same
    ∙ ap (λ n. get_or g.places n 0) (sym (own_is g.shape (drop more shape) (drop more t) stretch (tuple-drop more shape t tuple))
    ∙ ap (own_number g.shape (drop more shape)) (number_last more shape t tuple ∙ ap (λ n. n % elements_of (drop more shape)) is.1))

-- the last axes of a shape
pub behind_is : (k : ℕ) (shape : List ℕ) → take (length shape - k) (drop k shape) ≡ drop k shape
behind_is k shape = take_all (length shape - k) (drop k shape) (omega (arith, length-drop k shape))

-- the element that a walk comes to
pub next_of : (places walk rest : List ℕ) (at p : ℕ) → walk ≡ drop at places → walk ≡ p ∷ rest → (get_or places at 0 ≡ p) × (rest ≡ drop (at + 1) places)
next_of places walk rest at p is split =
    let same : drop at places ≡ p ∷ rest = sym is ∙ split in let here : at + 0 ≡ at = omega arith in (
      sym (get_or-drop at places 0 0 ∙ ap (λ k. get_or places k 0) here) ∙ ap (λ l. get_or l 0 0) same,
      sym (ap (drop 1) same) ∙ drop-drop 1 at places,
    )

-- the first elements, one by one
pub firsts : {X : Type 0} (f : ℕ → List X) (xs : List ℕ) (n : ℕ) → n ≤ length xs → flat_map (λ k. f (get_or xs k 0)) (count_up 0 n) ≡ flat_map f (take n xs)
firsts f xs zero le = refl
firsts f [] (suc n) le = absurd (omega arith)
firsts f (x ∷ xs) (suc n) le =
    let later : flat_map (λ k. f (get_or (x ∷ xs) k 0)) (count_up 1 n) ≡ flat_map (λ k. f (get_or xs k 0)) (count_up 0 n) = moved 0 n in
    ap (λ l. f x ++ l) (later ∙ firsts f xs n (omega arith))
  where
    moved : (from n : ℕ) → flat_map (λ k. f (get_or (x ∷ xs) k 0)) (count_up (from + 1) n) ≡ flat_map (λ k. f (get_or xs k 0)) (count_up from n)
    moved from zero = refl
    moved from (suc n) =
        let same : from + 1 ≡ suc from = omega arith in
        (λ i. f (get_or (x ∷ xs) (same i) 0) ++ flat_map (λ k. f (get_or (x ∷ xs) k 0)) (count_up (from + 1 + 1) n)) ∙ ap (λ l. f (get_or xs from 0) ++ l) (moved (from + 1) n)

-- ---- axis by axis

pub record IsAlong (own shape : List ℕ) (axis some own_some left found whole : ℕ) : Type 0 where
  pub each : some ≡ elements_of (drop axis shape)
  pub own_each : own_some ≡ elements_of (drop axis own)
  pub below : left < some
  pub fits : can_stretch (drop axis own) (drop axis shape) ≡ true
  pub room : found + own_some ≤ elements_of own
  pub same : found + own_number (drop axis own) (drop axis shape) left ≡ whole

pub record IsNext (n m : ℕ) (own shape : List ℕ) (left : ℕ) : Type 0 where
  pub length_some : 0 < m
  pub own_some : 0 < n
  pub each_some : 0 < elements_of shape
  pub each : m * elements_of shape / m ≡ elements_of shape
  pub own_each : n * elements_of own / n ≡ elements_of own
  pub fits : can_stretch own shape ≡ true
  pub index : own_index n (left / elements_of shape) + 1 ≤ n
  pub more : own_index n (left / elements_of shape) * elements_of own + elements_of own ≤ n * elements_of own

is_next : (n m : ℕ) (own shape : List ℕ) (left : ℕ) → can_stretch (n ∷ own) (m ∷ shape) ≡ true → left < m * elements_of shape → IsNext n m own shape left
is_next n m own shape left fits lt =
    let split = both (n == m || n == 1) (can_stretch own shape) fits in
    let some : 0 < elements_of shape = rest_some m (elements_of shape) (omega (arith, lt)) in
    let below : left / elements_of shape < m = (div-lt_iff_lt-mul some).1 lt in
    let own_some : 0 < n = elim (cases_Bool (n == 1)) [
      | inl one ↦ let is : n ≡ 1 = eqb-true n 1 one in omega (arith, is)
      | inr other ↦ let is : n ≡ m = equal n m split.0 other in omega (arith, is, below)
    ] in
    let index : own_index n (left / elements_of shape) + 1 ≤ n = elim (cases_Bool (n == 1)) [
      | inl one ↦ let zero_is : own_index n (left / elements_of shape) ≡ 0 = ap (λ b. if b then 0 else left / elements_of shape) one in omega (arith, zero_is, own_some)
      | inr other ↦
          let is : n ≡ m = equal n m split.0 other in
          let index_is : own_index n (left / elements_of shape) ≡ left / elements_of shape = ap (λ b. if b then 0 else left / elements_of shape) other in
          omega (arith, is, index_is, below)
    ] in
    let most : (own_index n (left / elements_of shape) + 1) * elements_of own ≤ n * elements_of own = mul-le-mul_right (elements_of own) index in
    record {
      length_some = omega (arith, below);
      own_some = own_some;
      each_some = some;
      each = mul-div_cancel_left (elements_of shape) {n = m} (omega (arith, below));
      own_each = mul-div_cancel_left (elements_of own) {n = n} own_some;
      fits = split.1;
      index = index;
      more = omega (arith, most);
    }
  where
    equal : (n m : ℕ) → (n == m || n == 1) ≡ true → (n == 1) ≡ false → n ≡ m
    equal n m e other = grind (arith, nat_tests)

-- the number is one of the shape
pub own_below : (own shape : List ℕ) (k : ℕ) → can_stretch own shape ≡ true → k < elements_of shape → own_number own shape k < elements_of own
own_below [] [] k fits lt = omega arith
own_below [] (m ∷ shape) k fits lt = absurd (cc)
own_below (n ∷ own) [] k fits lt = absurd (cc)
own_below (n ∷ own) (m ∷ shape) k fits lt =
    let next = is_next n m own shape k fits lt in
    let rest = own_below own shape (k % elements_of shape) next.fits (mod-lt k next.each_some) in
    omega (arith, next.more, rest)

pub length-spread : (g : Geo) (shape : List ℕ) → length (broadcast_view g shape).places ≡ elements_of shape
length-spread g shape = length-map (indices shape) (λ t. get_or g.places (number g.shape (own_tuple g.shape t)) 0) ∙ length-indices shape

-- a shape that broadcasts to another, and the last axes of that
pub record IsAligned (own shape : List ℕ) : Type 0 where
  pub axes : length own ≤ length shape
  pub fits : can_stretch own (last_axes own shape) ≡ true
  pub same : length own ≡ length (last_axes own shape)

pub aligned : (own shape : List ℕ) → broadcasts_to own shape ≡ true → IsAligned own shape
aligned own shape fits =
    let split = both (nat_le (length own) (length shape)) (can_stretch own (last_axes own shape)) fits in
    let le : length own ≤ length shape = grind (arith, nat_tests) in
    record { axes = le; fits = split.1; same = omega (arith, le, length-drop (length shape - length own) shape) }

module _ (own shape : List ℕ) (axis each own_each left found whole : ℕ) (at : IsAlong own shape axis each own_each left found whole) (lt : axis < length shape) (axes : length own ≡ length shape) where
  abbrev m : ℕ
  m = get_or shape axis 0

  abbrev n : ℕ
  n = get_or own axis 0

  lengths : drop axis shape ≡ m ∷ drop (suc axis) shape
  lengths = drop-cons shape axis 0 lt

  own_lengths : drop axis own ≡ n ∷ drop (suc axis) own
  own_lengths = drop-cons own axis 0 (omega (arith, lt, axes))

  each_whole : each ≡ m * elements_of (drop (suc axis) shape)
  each_whole = at.each ∙ ap elements_of lengths

  own_whole : own_each ≡ n * elements_of (drop (suc axis) own)
  own_whole = at.own_each ∙ ap elements_of own_lengths

  pub go : IsNext n m (drop (suc axis) own) (drop (suc axis) shape) left
  go = is_next n m (drop (suc axis) own) (drop (suc axis) shape) left ((λ i. can_stretch (sym own_lengths i) (sym lengths i)) ∙ at.fits) (omega (arith, at.below, each_whole))

  pub each_is : each / m ≡ elements_of (drop (suc axis) shape)
  each_is = ap (λ k. k / m) each_whole ∙ go.each

  pub own_is_each : own_each / n ≡ elements_of (drop (suc axis) own)
  own_is_each = ap (λ k. k / n) own_whole ∙ go.own_each

  pub each_left : 0 < each / m
  each_left = subst (λ k. 0 < k) (sym each_is) go.each_some

  pub step_room : found + (own_index n (left / (each / m)) * (own_each / n) + own_each / n) ≤ elements_of own
  step_room =
      let same : own_index n (left / (each / m)) * (own_each / n) + own_each / n ≡ own_index n (left / elements_of (drop (suc axis) shape)) * elements_of (drop (suc axis) own) + elements_of (drop (suc axis) own)
      = λ i. own_index n (left / each_is i) * own_is_each i + own_is_each i in
      omega (arith, same, go.more, own_whole, at.room)

  pub onward : IsAlong own shape (suc axis) (each / m) (own_each / n) (left % (each / m)) (found + own_index n (left / (each / m)) * (own_each / n)) whole
  onward =
      let index : own_index n (left / (each / m)) * (own_each / n) ≡ own_index n (left / elements_of (drop (suc axis) shape)) * elements_of (drop (suc axis) own)
      = λ i. own_index n (left / each_is i) * own_is_each i in
      let rest : own_number (drop (suc axis) own) (drop (suc axis) shape) (left % (each / m)) ≡ own_number (drop (suc axis) own) (drop (suc axis) shape) (left % elements_of (drop (suc axis) shape))
      = λ i. own_number (drop (suc axis) own) (drop (suc axis) shape) (left % each_is i) in
      let before : found + own_number (n ∷ drop (suc axis) own) (m ∷ drop (suc axis) shape) left ≡ whole = (λ i. found + own_number (sym own_lengths i) (sym lengths i) left) ∙ at.same in
      record {
        each = each_is;
        own_each = own_is_each;
        below = mod-lt left each_left;
        fits = go.fits;
        room = omega (arith, step_room);
        same = omega (arith, index, rest, before);
      }
