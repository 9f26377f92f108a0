-- Values beside a target: where their strides lead.
use Rattle.std.proofs.Common.{◌≡◌, ◌≢◌, ℕ, zero, suc, ◌+◌, ◌-◌, ◌*◌, ◌<◌, ◌≤◌, ◌^◌, ◌==◌, Bool, true, false, List, [], ◌∷◌, ◌++◌, map, length, take, drop, replicate, get_or, refl, sym, ap, ◌∙◌, ◌⊎◌, subst, inl, inr, arith, append-nil, add-one, drop-cons, length-append, length-drop}
use Rattle.std.specs.Prelude.{ℤ, pos, ◌+ℤ◌, ◌*ℤ◌, nat_le, ◌||◌, ◌&&◌, unsigned_abs, if◌then◌else◌, None}
use Rattle.std.specs.List.{All, list_all}
use Rattle.std.proofs.Math.Seq.{take-length}
use Rattle.std.proofs.lemmas.Bool.{cases_eq}
use Rattle.std.proofs.lemmas.Bool.Decides.{nat_tests}
use Rattle.std.proofs.lemmas.Int.{ints}
use Rattle.std.proofs.lemmas.List.{length-replicate, length-map, drop_all}
use Rattle.nd_model.specs.Making.Assigning.{without_ones, value_shape, fits_into}
use Rattle.nd_model.specs.Arrays.Broadcast.{can_stretch, narrowed_axes, own_tuple}
use Rattle.nd_model.specs.Arrays.Strides.{way_to, begins_at, place_at, places_by, is_held, are_held, IsInLimits, parts_fault}
use Rattle.nd_model.specs.Arrays.Tuple.{elements_of, indices, number}
use Rattle.nd_model.specs.Arrays.View.{Geo}
use Rattle.nd_view.specs.Indexes.{IsIndex}
use Rattle.nd_view.proofs.Indexed.{all_indexes, at_index, length-indices, of_all, same_indexes}
use Rattle.nd_view.proofs.Made.{facts, axes, no_fault}
use Rattle.nd_view.proofs.Numbered.{tuple_of, tuple_is, at_tuple}
use Rattle.nd_view.proofs.Steps.{length-index, number-below}
use Rattle.nd_view.proofs.Tuples.{map-map}
use Rattle.nd_assign.specs.Stretched.{narrowed_strides, value_places}

-- ---- tests

both : (a b : Bool) → (a && b) ≡ true → (a ≡ true) × (b ≡ true)
both true b e = (refl, e)
both false b e = cc

-- an axis is of length 1, or of the same length
axis_cases : (n m : ℕ) → (n == m || n == 1) ≡ true → (((n == 1) ≡ true) × (n ≡ 1)) ⊎ (((n == 1) ≡ false) × (n ≡ m))
axis_cases n m e = elim (cases_eq n 1) [ inl one ↦ inl (grind (arith, nat_tests), one) | inr other ↦ inr (grind (arith, nat_tests), grind (arith, nat_tests)) ]

-- ---- leading axes of length 1

pub without_less : (more : ℕ) (shape : List ℕ) → length (without_ones more shape) ≤ length shape
without_less zero shape = omega arith
without_less (suc more) [] = omega arith
without_less (suc more) (n ∷ shape) = elim (n == 1) as (λ b. length (if b then without_ones more shape else n ∷ shape) ≤ suc (length shape)) [
  | true ↦ let rest = without_less more shape in omega (arith, rest)
  | false ↦ omega arith
]

pub without_nil : (more : ℕ) → without_ones more [] ≡ []
without_nil zero = refl
without_nil (suc more) = refl

-- one axis more is dropped
pub ones_more : (shape : List ℕ) (axis most : ℕ) → axis < most → axis < length shape → get_or shape axis 0 ≡ 1
    → without_ones (most - (axis + 1)) (drop (axis + 1) shape) ≡ without_ones (most - axis) (drop axis shape)
ones_more shape axis most few lt one =
    let left : most - axis ≡ suc (most - (axis + 1)) = omega arith in
    let here : drop axis shape ≡ 1 ∷ drop (axis + 1) shape = rw add-one (drop-cons shape axis 0 lt) ∙ ap (λ n. n ∷ drop (axis + 1) shape) one in
    sym (λ i. without_ones (left i) (here i))

-- no axis more is
pub ones_end : (shape : List ℕ) (axis most : ℕ) → axis < length shape → get_or shape axis 0 ≢ 1 → without_ones (most - axis) (drop axis shape) ≡ drop axis shape
ones_end shape axis most lt other =
    let here : drop axis shape ≡ get_or shape axis 0 ∷ drop (axis + 1) shape = rw add-one (drop-cons shape axis 0 lt) in
    ap (without_ones (most - axis)) here ∙ stays (most - axis) (get_or shape axis 0) (drop (axis + 1) shape) other ∙ sym here
  where
    stays : (more n : ℕ) (rest : List ℕ) → n ≢ 1 → without_ones more (n ∷ rest) ≡ n ∷ rest
    stays zero n rest other = refl
    stays (suc more) n rest other = let test : (n == 1) ≡ false = grind (arith, nat_tests) in rw test refl

pub ones_none : (shape : List ℕ) (axis most : ℕ) → length shape ≤ axis → without_ones (most - axis) (drop axis shape) ≡ drop axis shape
ones_none shape axis most le = let none : drop axis shape ≡ [] = drop_all axis shape le in ap (without_ones (most - axis)) none ∙ without_nil (most - axis) ∙ sym none

pub elements-ones : (more : ℕ) (shape : List ℕ) → elements_of (without_ones more shape) ≡ elements_of shape
elements-ones zero shape = refl
elements-ones (suc more) [] = refl
elements-ones (suc more) (n ∷ shape) = elim (cases_eq n 1) [
  | inl one ↦ let test : (n == 1) ≡ true = grind (arith, nat_tests) in let rest = elements-ones more shape in
      rw test (rest ∙ single (elements_of shape) ∙ ap (λ m. m * elements_of shape) (sym one))
  | inr other ↦ let test : (n == 1) ≡ false = grind (arith, nat_tests) in rw test refl
]
  where
    single : (m : ℕ) → m ≡ 1 * m
    single m = omega arith

-- an axis of length 1 leads nowhere
first_one : (offset : ℕ) (shape : List ℕ) (s : ℤ) (strides : List ℤ) → map (begins_at offset (s ∷ strides)) (indices (1 ∷ shape)) ≡ map (begins_at offset strides) (indices shape)
first_one offset shape s strides =
    ap (map (begins_at offset (s ∷ strides))) (append-nil (map (λ t. 0 ∷ t) (indices shape)))
    ∙ map-map (begins_at offset (s ∷ strides)) (λ t. 0 ∷ t) (indices shape)
    ∙ same_indexes (λ t. begins_at offset (s ∷ strides) (0 ∷ t)) (begins_at offset strides) shape (λ t is. nowhere (way_to t strides))
  where
    nowhere : (z : ℤ) → pos offset +ℤ ((pos 0 *ℤ s) +ℤ z) ≡ pos offset +ℤ z
    nowhere z = omega (arith, ints)

pub dropped : (offset more : ℕ) (shape : List ℕ) (strides : List ℤ) → length strides ≡ length shape
    → map (begins_at offset strides) (indices shape) ≡ map (begins_at offset (drop (length shape - length (without_ones more shape)) strides)) (indices (without_ones more shape))
dropped offset zero shape strides same = let none : length shape - length shape ≡ 0 = omega arith in ap (λ k. map (begins_at offset (drop k strides)) (indices shape)) (sym none)
dropped offset (suc more) [] strides same = refl
dropped offset (suc more) (n ∷ shape) [] same = absurd (omega arith)
dropped offset (suc more) (n ∷ shape) (s ∷ strides) same = elim (cases_eq n 1) [
  | inl one ↦
      let test : (n == 1) ≡ true = grind (arith, nat_tests) in
      let less = without_less more shape in
      let k : suc (length shape) - length (without_ones more shape) ≡ suc (length shape - length (without_ones more shape)) = omega (arith, less) in
      rw test (ap (λ m. map (begins_at offset (s ∷ strides)) (indices (m ∷ shape))) one ∙ first_one offset shape s strides
      ∙ dropped offset more shape strides (omega (arith, same))
      ∙ ap (λ j. map (begins_at offset (drop j (s ∷ strides))) (indices (without_ones more shape))) (sym k))
  | inr other ↦
      let test : (n == 1) ≡ false = grind (arith, nat_tests) in
      let none : suc (length shape) - suc (length shape) ≡ 0 = omega arith in
      rw test (ap (λ j. map (begins_at offset (drop j (s ∷ strides))) (indices (n ∷ shape))) (sym none))
]

-- ---- axes of one shape and the other, as many of both

no_step : (i : ℕ) (s y z : ℤ) → y ≡ z → (pos i *ℤ pos 0) +ℤ y ≡ (pos 0 *ℤ s) +ℤ z
no_step i s y z e = omega (arith, ints, e)

way_narrowed : (shape to t : List ℕ) (strides : List ℤ) → length strides ≡ length shape → can_stretch shape to ≡ true → IsIndex to t
    → way_to t (narrowed_strides shape strides) ≡ way_to (narrowed_axes shape t) strides
way_narrowed [] [] [] strides same e is = refl
way_narrowed [] [] (i ∷ t) strides same e is = absurd is
way_narrowed [] (m ∷ to) t strides same e is = cc
way_narrowed (n ∷ shape) [] t strides same e is = cc
way_narrowed (n ∷ shape) (m ∷ to) t [] same e is = absurd (omega arith)
way_narrowed (n ∷ shape) (m ∷ to) [] (s ∷ strides) same e is = absurd is
way_narrowed (n ∷ shape) (m ∷ to) (i ∷ t) (s ∷ strides) same e is =
    let axis = both (n == m || n == 1) (can_stretch shape to) e in
    let rest : way_to t (narrowed_strides shape strides) ≡ way_to (narrowed_axes shape t) strides = way_narrowed shape to t strides (omega (arith, same)) axis.1 is.1 in
    elim (axis_cases n m axis.0) [
      | inl one ↦ rw one.0 (no_step i s (way_to t (narrowed_strides shape strides)) (way_to (narrowed_axes shape t) strides) rest)
      | inr other ↦ rw other.0 (ap (λ z. (pos i *ℤ s) +ℤ z) rest)
    ]

index_narrowed : (shape to t : List ℕ) → can_stretch shape to ≡ true → IsIndex to t → IsIndex shape (narrowed_axes shape t)
index_narrowed [] [] [] e is = tt
index_narrowed [] [] (i ∷ t) e is = absurd is
index_narrowed [] (m ∷ to) t e is = cc
index_narrowed (n ∷ shape) [] t e is = cc
index_narrowed (n ∷ shape) (m ∷ to) [] e is = absurd is
index_narrowed (n ∷ shape) (m ∷ to) (i ∷ t) e is =
    let axis = both (n == m || n == 1) (can_stretch shape to) e in
    let rest = index_narrowed shape to t axis.1 is.1 in
    elim (axis_cases n m axis.0) [
      | inl one ↦ (subst (λ b. (if b then 0 else i) < n) (sym one.0) (omega (arith, one.1)), rest)
      | inr other ↦ (subst (λ b. (if b then 0 else i) < n) (sym other.0) (omega (arith, other.1, is.0)), rest)
    ]

-- ---- missing axes

no_way : (i : ℕ) (z : ℤ) → (pos i *ℤ pos 0) +ℤ z ≡ z
no_way i z = omega (arith, ints)

way_more : (n : ℕ) (t : List ℕ) (strides : List ℤ) → n ≤ length t → way_to t (replicate n (pos 0) ++ strides) ≡ way_to (drop n t) strides
way_more zero t strides le = refl
way_more (suc n) [] strides le = absurd (omega arith)
way_more (suc n) (i ∷ t) strides le = no_way i (way_to t (replicate n (pos 0) ++ strides)) ∙ way_more n t strides (omega arith)

index_more : (n : ℕ) (to t : List ℕ) → IsIndex to t → IsIndex (drop n to) (drop n t)
index_more zero to t is = is
index_more (suc n) [] [] is = tt
index_more (suc n) [] (i ∷ t) is = absurd is
index_more (suc n) (m ∷ to) [] is = absurd is
index_more (suc n) (m ∷ to) (i ∷ t) is = index_more n to t is.1

length-narrowed : (shape : List ℕ) (strides : List ℤ) → length strides ≡ length shape → length (narrowed_strides shape strides) ≡ length shape
length-narrowed [] strides same = refl
length-narrowed (n ∷ shape) [] same = absurd (omega arith)
length-narrowed (n ∷ shape) (s ∷ strides) same = ap suc (length-narrowed shape strides (omega (arith, same)))

-- ---- the whole

module _ (shape to : List ℕ) (fits : fits_into shape to ≡ true) where
  abbrev pub own : List ℕ
  own = value_shape shape to

  abbrev pub more : ℕ
  more = length to - length own

  fewer : (length own ≤ length to) × (can_stretch own (drop more to) ≡ true)
  fewer = let t = both (nat_le (length own) (length to)) (can_stretch own (drop more to)) fits in let test = t.0 in (grind (arith, nat_tests), t.1)

  last : (t : List ℕ) → IsIndex to t → length t - length own ≡ more
  last t is = ap (λ n. n - length own) (length-index to t is)

  pub own_index : (t : List ℕ) → IsIndex to t → IsIndex own (own_tuple own t)
  own_index t is = index_narrowed own (drop (length t - length own) to) (drop (length t - length own) t) (ap (λ n. can_stretch own (drop n to)) (last t is) ∙ fewer.1) (index_more (length t - length own) to t is)

  module _ (strides : List ℤ) (same : length strides ≡ length own) where
    abbrev pub longer : List ℤ
    longer = replicate more (pos 0) ++ narrowed_strides own strides

    pub length-longer : length longer ≡ length to
    length-longer = let le = fewer.0 in omega (arith, length-append (replicate more (pos 0)) (narrowed_strides own strides), length-replicate more (pos 0), length-narrowed own strides same)

    pub own_way : (t : List ℕ) → IsIndex to t → way_to t longer ≡ way_to (own_tuple own t) strides
    own_way t is =
        let long : length t ≡ length to = length-index to t is in
        way_more more t (narrowed_strides own strides) (omega arith)
        ∙ way_narrowed own (drop more to) (drop more t) strides same fewer.1 (index_more more to t is)
        ∙ ap (λ n. way_to (narrowed_axes own (drop n t)) strides) (sym (last t is))

-- the parts of the view, by what the code has of it
module _ (size offset : ℕ) (shape to : List ℕ) (fits : fits_into shape to ≡ true) (strides : List ℤ) (none : parts_fault size shape strides offset (2 ^ 64) ≡ None) where
  abbrev own' : List ℕ
  own' = value_shape shape to

  abbrev pub own_strides : List ℤ
  own_strides = drop (length shape - length own') strides

  length-strides : length strides ≡ length shape
  length-strides = axes size shape strides offset (2 ^ 64) none

  pub length-own : length own_strides ≡ length own'
  length-own = let less = without_less (length shape - length to) shape in let same = length-strides in omega (arith, length-drop (length shape - length own') strides)

  begins : map (begins_at offset strides) (indices shape) ≡ map (begins_at offset own_strides) (indices own')
  begins = dropped offset (length shape - length to) shape strides length-strides

  own_held : are_held size (2 ^ 64) offset own_strides own' ≡ true
  own_held = ap (list_all (is_held size (2 ^ 64))) (sym begins) ∙ (facts size shape strides offset (2 ^ 64) none).2

  own_places : places_by offset own_strides own' ≡ places_by offset strides shape
  own_places = sym (map-map unsigned_abs (begins_at offset own_strides) (indices own')) ∙ ap (map unsigned_abs) (sym begins) ∙ map-map unsigned_abs (begins_at offset strides) (indices shape)

  at_own : (t : List ℕ) → IsIndex to t → begins_at offset (longer shape to fits own_strides length-own) t ≡ begins_at offset own_strides (own_tuple own' t)
  at_own t is = ap (λ z. pos offset +ℤ z) (own_way shape to fits own_strides length-own t is)

  pub stretched_fault : IsInLimits size to → parts_fault size to (longer shape to fits own_strides length-own) offset (2 ^ 64) ≡ None
  stretched_fault limits = no_fault size (2 ^ 64) offset to (longer shape to fits own_strides length-own) limits (length-longer shape to fits own_strides length-own)
      (all_indexes (is_held size (2 ^ 64)) (begins_at offset (longer shape to fits own_strides length-own)) to
      (λ t is. rw (at_own t is) (of_all (is_held size (2 ^ 64)) (begins_at offset own_strides) own' (own_tuple own' t) own_held (own_index shape to fits t is))))

  pub stretched_places : (places : List ℕ) → places ≡ places_by offset strides shape
      → places_by offset (longer shape to fits own_strides length-own) to ≡ map (λ t. get_or places (number own' (own_tuple own' t)) 0) (indices to)
  stretched_places places by = same_indexes (place_at offset (longer shape to fits own_strides length-own)) (λ t. get_or places (number own' (own_tuple own' t)) 0) to
      (λ t is. ap unsigned_abs (at_own t is) ∙ sym (at_tuple offset own_strides own' (own_tuple own' t) (own_index shape to fits t is))
      ∙ ap (λ ps. get_or ps (number own' (own_tuple own' t)) 0) (own_places ∙ sym by))

-- the rest of a list, as the code has it
whole_rest : {A : Type 0} (k : ℕ) (xs : List A) → take (length xs - k) (drop k xs) ≡ drop k xs
whole_rest k xs = ap (λ n. take n (drop k xs)) (sym (length-drop k xs)) ∙ take-length (drop k xs)

-- the strides that the code has are those
pub strides_are : (size offset : ℕ) (shape to lengths others : List ℕ) (fits : fits_into shape to ≡ true) (strides : List ℤ) (none : parts_fault size shape strides offset (2 ^ 64) ≡ None) (k : ℕ) (items : List ℤ)
    → k ≤ length lengths → lengths ≡ shape → others ≡ shape → drop k lengths ≡ value_shape lengths to
    → items ≡ replicate (length to - length (take (length others - k) (drop k others))) (pos 0) ++ narrowed_strides (take (length others - k) (drop k others)) (take (length strides - k) (drop k strides))
    → items ≡ longer shape to fits (own_strides size offset shape to fits strides none) (length-own size offset shape to fits strides none)
strides_are size offset shape to lengths others fits strides none k items le same other rest is =
    let own : drop k shape ≡ value_shape shape to = sym (ap (drop k) same) ∙ rest ∙ ap (λ s. value_shape s to) same in
    let here : drop k others ≡ value_shape shape to = ap (drop k) other ∙ own in
    let few : k ≤ length shape = omega (arith, le, ap length same) in
    let at : k ≡ length shape - length (value_shape shape to) = omega (arith, length-drop k shape, ap length own, few) in
    is ∙ (λ i. replicate (length to - length (whole_rest k others i)) (pos 0) ++ narrowed_strides (whole_rest k others i) (whole_rest k strides i))
    ∙ (λ i. replicate (length to - length (here i)) (pos 0) ++ narrowed_strides (here i) (drop (at i) strides))

-- ---- the places of the values

module _ (g : Geo) (to : List ℕ) (fits : fits_into g.shape to ≡ true) (count : length g.places ≡ elements_of g.shape) where
  abbrev own_number : List ℕ → ℕ
  own_number t = number (value_shape g.shape to) (own_tuple (value_shape g.shape to) t)

  -- at each tuple there is an element
  pub own_below : (t : List ℕ) → IsIndex to t → own_number t < length g.places
  own_below t is =
      let below = number-below (value_shape g.shape to) (own_tuple (value_shape g.shape to) t) (own_index g.shape to fits t is) in
      omega (arith, below, elements-ones (length g.shape - length to) g.shape, count)

  pub length-values : length (value_places g to) ≡ elements_of to
  length-values = length-map (indices to) (λ t. get_or g.places (own_number t) 0) ∙ length-indices to

  -- what is so of all elements is so of those
  pub values_all : (P : ℕ → Type 0) → All P g.places → All P (value_places g to)
  values_all P all k d lt =
      let few : k < elements_of to = omega (arith, lt, length-values) in
      let is = tuple_is to k few in let t = tuple_of to k in
      let here : get_or (value_places g to) k d ≡ get_or g.places (own_number t) 0
      = ap (λ m. get_or (value_places g to) m d) (sym is.1) ∙ at_index (λ u. get_or g.places (own_number u) 0) to t d is.0 in
      subst P (sym here) (all (own_number t) 0 (own_below t is.0))
