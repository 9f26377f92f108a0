-- The way to an element of a view that is stretched, and common shapes axis by axis.
use Rattle.std.proofs.Common.{◌≡◌, ℕ, zero, suc, ◌+◌, ◌-◌, ◌^◌, ◌<◌, ◌≤◌, true, false, eqb, leb, List, [], ◌∷◌, ◌++◌, length, drop, take, replicate, reverse, get_or, Option, Some, None, refl, sym, ap, ◌∙◌, inl, inr, arith, eqb-true, add-one, append-nil, drop-cons, length-append}
use Rattle.std.specs.Prelude.{ℤ, pos, ◌+ℤ◌, ◌*ℤ◌, ◌&&◌, ◌||◌, ◌==◌, nat_lt, if◌then◌else◌}
use Rattle.std.proofs.lemmas.Bool.{cases_Bool, cases_lt, or_cases}
use Rattle.std.proofs.lemmas.Bool.Decides.{nat_tests}
use Rattle.std.proofs.lemmas.Int.{ints}
use Rattle.std.proofs.lemmas.List.{drop_all, length-replicate, reverse-append, take_all, take_more}
use Rattle.nd_model.specs.Arrays.Broadcast.{can_stretch, broadcasts_to, narrowed_axes, own_tuple, broadcast_view, common_length, and_axis, common_axes}
use Rattle.nd_model.specs.Arrays.Strides.{way_to, IsInLimits, parts_fault, places_by}
use Rattle.nd_model.specs.Arrays.View.{ElementType, Geo, item_size}
use Rattle.nd_model.proofs.Transposed.{both}
use Rattle.nd_view.specs.Indexes.{IsIndex}
use Rattle.nd_view.proofs.Made.{axes}
use Rattle.nd_shape.specs.Stretches.{own_stride, own_strides, stretched_strides, is_common, are_common, joined_length, joined_shape}
use Rattle.nd_shape.proofs.Ordered.{length_index}
use Rattle.nd_shape.proofs.Pushed.{joined}
use Rattle.nd_shape.proofs.Rearranged.{HasStrides, LeadsTo, built_fault, built_view}

-- ---- tuples

narrowed_index : (s to t : List ℕ) → can_stretch s to ≡ true → IsIndex to t → IsIndex s (narrowed_axes s t)
narrowed_index [] [] [] e is = tt
narrowed_index [] [] (i ∷ t) e is = absurd is
narrowed_index [] (m ∷ to) t e is = absurd (cc)
narrowed_index (n ∷ s) [] t e is = absurd (cc)
narrowed_index (n ∷ s) (m ∷ to) [] e is = absurd is
narrowed_index (n ∷ s) (m ∷ to) (i ∷ t) e is =
    let axis = both (eqb n m || eqb n 1) (can_stretch s to) e in (
      elim (cases_Bool (eqb n 1)) [
        | inl one ↦ let e : n ≡ 1 = eqb-true n 1 one in rw one (omega arith)
        | inr other ↦ rw other (elim (or_cases _ _ axis.0) [ inl same ↦ let e : n ≡ m = eqb-true n m same in omega (arith, is.0) | inr one ↦ absurd (cc) ])
      ],
      narrowed_index s to t axis.1 is.1,
    )

index_drop : (k : ℕ) (to t : List ℕ) → IsIndex to t → IsIndex (drop k to) (drop k t)
index_drop zero to t is = is
index_drop (suc k) [] [] is = tt
index_drop (suc k) [] (i ∷ t) is = absurd is
index_drop (suc k) (n ∷ to) [] is = absurd is
index_drop (suc k) (n ∷ to) (i ∷ t) is = index_drop k to t is.1

pub own_index : (s to t : List ℕ) → broadcasts_to s to ≡ true → IsIndex to t → IsIndex s (own_tuple s t)
own_index s to t e is =
    let parts = both (leb (length s) (length to)) (can_stretch s (drop (length to - length s) to)) e in
    rw (length_index to t is) (narrowed_index s (drop (length to - length s) to) (drop (length to - length s) t) parts.1 (index_drop (length to - length s) to t is))

-- ---- ways

way_own : (s t : List ℕ) (strides : List ℤ) → length strides ≡ length s → way_to (narrowed_axes s t) strides ≡ way_to t (own_strides s strides)
way_own [] [] strides same = refl
way_own [] (i ∷ t) strides same = refl
way_own (n ∷ s) t [] same = absurd (omega arith)
way_own (n ∷ s) [] (z ∷ strides) same = refl
way_own (n ∷ s) (i ∷ t) (z ∷ strides) same =
    let rest : way_to (narrowed_axes s t) strides ≡ way_to t (own_strides s strides) = way_own s t strides (omega arith) in
    elim (n == 1) as (λ b. (pos (if b then 0 else i) *ℤ z) +ℤ way_to (narrowed_axes s t) strides ≡ (pos i *ℤ (if b then pos 0 else z)) +ℤ way_to t (own_strides s strides)) [
      | true ↦ still i z (way_to (narrowed_axes s t) strides) (way_to t (own_strides s strides)) rest
      | false ↦ ap (λ y. (pos i *ℤ z) +ℤ y) rest
    ]
  where
    still : (i : ℕ) (z x y : ℤ) → x ≡ y → (pos 0 *ℤ z) +ℤ x ≡ (pos i *ℤ pos 0) +ℤ y
    still i z x y e = omega (arith, ints, e)

way_more : (n : ℕ) (t : List ℕ) (strides : List ℤ) → n ≤ length t → way_to t (replicate n (pos 0) ++ strides) ≡ way_to (drop n t) strides
way_more zero t strides le = refl
way_more (suc n) [] strides le = absurd (omega arith)
way_more (suc n) (i ∷ t) strides le = gone i (way_to t (replicate n (pos 0) ++ strides)) ∙ way_more n t strides (omega arith)
  where
    gone : (i : ℕ) (z : ℤ) → (pos i *ℤ pos 0) +ℤ z ≡ z
    gone i z = omega (arith, ints)

length-own : (s : List ℕ) (strides : List ℤ) → length strides ≡ length s → length (own_strides s strides) ≡ length s
length-own [] strides same = refl
length-own (n ∷ s) [] same = absurd (omega arith)
length-own (n ∷ s) (z ∷ strides) same = ap suc (length-own s strides (omega arith))

pub own_next : (s : List ℕ) (strides : List ℤ) (k : ℕ) (items new whole : List ℤ) (v : ℤ) → k < length s → k < length strides → v ≡ own_stride (get_or s k 0) (get_or strides k (pos 0)) → new ≡ items ++ v ∷ []
    → items ++ own_strides (drop k s) (drop k strides) ≡ whole → new ++ own_strides (drop (k + 1) s) (drop (k + 1) strides) ≡ whole
own_next s strides k items new whole v lt lt' is e so_far =
    let first : drop k s ≡ get_or s k 0 ∷ drop (k + 1) s = rw add-one (drop-cons s k 0 lt) in
    let stride : drop k strides ≡ get_or strides k (pos 0) ∷ drop (k + 1) strides = rw add-one (drop-cons strides k (pos 0) lt') in
    joined items new (own_strides (drop (k + 1) s) (drop (k + 1) strides)) whole v e
    ((λ i. items ++ is i ∷ own_strides (drop (k + 1) s) (drop (k + 1) strides)) ∙ (λ i. items ++ own_strides (sym first i) (sym stride i)) ∙ so_far)

fewer : (a b : ℕ) → leb a b ≡ true → a ≤ b
fewer a b e = grind (arith, nat_tests)

module _ (g : Geo) (strides : List ℤ) (has : HasStrides g strides) (to : List ℕ) (limits : IsInLimits (item_size g.element) to) (fits : broadcasts_to g.shape to ≡ true) where
  same : length strides ≡ length g.shape
  same = axes (item_size g.element) g.shape strides (get_or g.places 0 0) (2 ^ 64) has.held

  few : length g.shape ≤ length to
  few = fewer (length g.shape) (length to) (both (leb (length g.shape) (length to)) (can_stretch g.shape (drop (length to - length g.shape) to)) fits).0

  abbrev steps : List ℤ
  steps = stretched_strides (length to - length g.shape) g.shape strides

  long : length steps ≡ length to
  long = omega (arith, few, length-append (replicate (length to - length g.shape) (pos 0)) (own_strides g.shape strides), length-replicate (length to - length g.shape) (pos 0), length-own g.shape strides same)

  way : (t : List ℕ) → IsIndex to t → way_to (own_tuple g.shape t) strides ≡ way_to t steps
  way t is =
      let whole : length t ≡ length to = length_index to t is in
      let less : length to - length g.shape ≤ length t = omega arith in
      way_own g.shape (drop (length t - length g.shape) t) strides same
      ∙ (λ i. way_to (drop (whole i - length g.shape) t) (own_strides g.shape strides))
      ∙ sym (way_more (length to - length g.shape) t (own_strides g.shape strides) less)

  leads : LeadsTo g strides to steps (own_tuple g.shape)
  leads = record { limits = limits; long = long; index = λ t is. own_index g.shape to t fits is; way = way }

  -- by what the code has of it
  module _ (t : ElementType) (ss : List ℤ) (at : ℕ) (type_is : t ≡ g.element) (strides_are : ss ≡ stretched_strides (length to - length g.shape) g.shape strides) (at_is : at ≡ get_or g.places 0 0) where
    pub stretch_fault : parts_fault (item_size t) to ss at (2 ^ 64) ≡ None
    stretch_fault = built_fault g strides has to steps (own_tuple g.shape) leads t to ss at type_is refl strides_are at_is

    pub stretch_view : ◌≡◌ {A = Geo} (record { element = t; shape = to; writable = false; places = places_by at ss to }) (broadcast_view g to)
    stretch_view = built_view g strides has to steps (own_tuple g.shape) leads t to ss at type_is refl strides_are at_is false false refl

-- ---- common shapes

common_is : (m n : ℕ) → is_common m n ≡ true → common_length m n ≡ Some (joined_length m n)
common_is m n e = elim (cases_Bool (m == n)) [
  | inl same ↦ let e' : m ≡ n = eqb-true m n same in rw same (elim (m == 1) as (λ b. Some m ≡ Some (if b then n else m)) [ true ↦ ap Some e' | false ↦ refl ])
  | inr differ ↦ elim (cases_Bool (m == 1)) [
    | inl one ↦ rw (differ, one) refl
    | inr other ↦ elim (cases_Bool (n == 1)) [
      | inl one ↦ rw (differ, other, one) refl
      | inr neither ↦ let no_one : false ≡ true = rw (differ, other, neither) at e in absurd (cc)
    ]
  ]
]

common_none : (m n : ℕ) → is_common m n ≡ false → common_length m n ≡ None
common_none m n e = elim (cases_Bool (m == n)) [
  | inl same ↦ let no_one : true ≡ false = rw same at e in absurd (cc)
  | inr differ ↦ elim (cases_Bool (m == 1)) [
    | inl one ↦ let no_one : true ≡ false = rw (differ, one) at e in absurd (cc)
    | inr other ↦ elim (cases_Bool (n == 1)) [
      | inl one ↦ let no_one : true ≡ false = rw (differ, other, one) at e in absurd (cc)
      | inr neither ↦ rw (differ, other, neither) refl
    ]
  ]
]

and_none : (o : Option ℕ) → and_axis o None ≡ None
and_none None = refl
and_none (Some n) = refl

pub all_common : (s t : List ℕ) → are_common s t ≡ true → common_axes s t ≡ Some (joined_shape s t)
all_common [] t e = refl
all_common (m ∷ s) [] e = refl
all_common (m ∷ s) (n ∷ t) e =
    let parts = both (is_common m n) (are_common s t) e in (λ i. and_axis (common_is m n parts.0 i) (all_common s t parts.1 i))

pub none_common : (s t : List ℕ) → are_common s t ≡ false → common_axes s t ≡ None
none_common [] t e = absurd (cc)
none_common (m ∷ s) [] e = absurd (cc)
none_common (m ∷ s) (n ∷ t) e = elim (cases_Bool (is_common m n)) [
  | inl is ↦ let rest : are_common s t ≡ false = rw is at e in ap (and_axis (common_length m n)) (none_common s t rest) ∙ and_none (common_length m n)
  | inr other ↦ ap (λ o. and_axis o (common_axes s t)) (common_none m n other)
]

-- one axis further; a missing one has length 1
always : (n : ℕ) → (is_common 1 n ≡ true) × (is_common n 1 ≡ true)
always n = (
  elim (1 == n) as (λ b. (b || (1 == 1 || n == 1)) ≡ true) [ true ↦ refl | false ↦ refl ],
  elim (n == 1) as (λ b. (b || (b || (1 == 1))) ≡ true) [ true ↦ refl | false ↦ refl ],
)

pub common_next : (s t : List ℕ) (k : ℕ) → are_common (drop k s) (drop k t) ≡ (is_common (get_or s k 1) (get_or t k 1) && are_common (drop (suc k) s) (drop (suc k) t))
common_next [] t k = next t k
  where
    nothing : (k : ℕ) (t : List ℕ) → are_common (drop k []) t ≡ true
    nothing zero t = refl
    nothing (suc k) t = refl

    next : (t : List ℕ) (k : ℕ) → are_common (drop k []) (drop k t) ≡ (is_common (get_or [] k 1) (get_or t k 1) && are_common (drop (suc k) []) (drop (suc k) t))
    next t zero = rw (always (get_or t 0 1)).0 refl
    next t (suc k) = rw (always (get_or t (suc k) 1)).0 refl
common_next (m ∷ s) [] zero = rw (always m).1 (sym (none_right s))
  where
    none_right : (s : List ℕ) → are_common s [] ≡ true
    none_right [] = refl
    none_right (m ∷ s) = refl
common_next (m ∷ s) [] (suc k) = (λ i. are_common (drop k s) (sym none_left i)) ∙ common_next s [] k
  where
    none_left : drop {A = ℕ} k [] ≡ []
    none_left = drop_all k [] (omega arith)
common_next (m ∷ s) (n ∷ t) zero = refl
common_next (m ∷ s) (n ∷ t) (suc k) = common_next s t k

pub joined_at : (s t : List ℕ) (k : ℕ) → k < length (joined_shape s t) → get_or (joined_shape s t) k 1 ≡ joined_length (get_or s k 1) (get_or t k 1)
joined_at [] t zero lt = refl
joined_at [] t (suc k) lt = refl
joined_at (m ∷ s) [] zero lt = one m
  where
    one : (m : ℕ) → m ≡ joined_length m 1
    one m = elim (cases_Bool (m == 1)) [ inl is ↦ let e : m ≡ 1 = eqb-true m 1 is in rw is e | inr other ↦ rw other refl ]
joined_at (m ∷ s) [] (suc k) lt = one (get_or s k 1)
  where
    one : (m : ℕ) → m ≡ joined_length m 1
    one m = elim (cases_Bool (m == 1)) [ inl is ↦ let e : m ≡ 1 = eqb-true m 1 is in rw is e | inr other ↦ rw other refl ]
joined_at (m ∷ s) (n ∷ t) zero lt = refl
joined_at (m ∷ s) (n ∷ t) (suc k) lt = joined_at s t k (omega arith)

joined_left : (s t : List ℕ) → length t ≤ length s → length (joined_shape s t) ≡ length s
joined_left [] [] le = refl
joined_left [] (n ∷ t) le = absurd (omega arith)
joined_left (m ∷ s) [] le = refl
joined_left (m ∷ s) (n ∷ t) le = ap suc (joined_left s t (omega arith))

joined_right : (s t : List ℕ) → length s ≤ length t → length (joined_shape s t) ≡ length t
joined_right [] t le = refl
joined_right (m ∷ s) [] le = absurd (omega arith)
joined_right (m ∷ s) (n ∷ t) le = ap suc (joined_right s t (omega arith))

pub length-joined : (s t : List ℕ) → length (joined_shape s t) ≡ (if nat_lt (length s) (length t) then length t else length s)
length-joined s t = elim (cases_lt (length s) (length t)) [
  | inl lt ↦ let test : nat_lt (length s) (length t) ≡ true = grind (arith, nat_tests) in rw test (joined_right s t (omega arith))
  | inr le ↦ let test : nat_lt (length s) (length t) ≡ false = grind (arith, nat_tests) in rw test (joined_left s t le)
]

-- ---- the loop that builds the common shape, from its first axis on

pub front_next : (whole items new : List ℕ) (at v : ℕ) → 0 < at → at ≤ length whole → v ≡ get_or whole (at - 1) 1 → new ≡ items ++ v ∷ []
    → items ++ reverse (take at whole) ≡ reverse whole → new ++ reverse (take (at - 1) whole) ≡ reverse whole
front_next whole items new zero v some le is e so_far = absurd (omega arith)
front_next whole items new (suc at) v some le is e so_far =
    let back : suc at - 1 ≡ at = omega arith in
    let more : take (suc at) whole ≡ take at whole ++ get_or whole at 1 ∷ [] = rw (← add-one) (take_more whole at 1 (omega arith)) in
    let turned : reverse (take (suc at) whole) ≡ get_or whole at 1 ∷ reverse (take at whole) = ap reverse more ∙ reverse-append (take at whole) (get_or whole at 1 ∷ []) in
    joined items new (reverse (take (suc at - 1) whole)) (reverse whole) v e
    ((λ i. items ++ (is ∙ ap (λ m. get_or whole m 1) back) i ∷ reverse (take (back i) whole)) ∙ (λ i. items ++ sym turned i) ∙ so_far)

pub front_first : (whole items : List ℕ) (n : ℕ) → n ≡ length whole → items ≡ [] → items ++ reverse (take n whole) ≡ reverse whole
front_first whole items n e none = rw none (ap reverse (take_all n whole (omega arith)))

pub front_last : (whole items : List ℕ) (n : ℕ) → n ≡ 0 → items ++ reverse (take n whole) ≡ reverse whole → items ≡ reverse whole
front_last whole items n none e = sym (append-nil items) ∙ (λ i. items ++ reverse (take (sym none i) whole)) ∙ e
