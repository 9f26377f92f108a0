-- The rows of a view in a greater shape: along one axis the elements are one stride apart.
use Rattle.std.proofs.Common.{◌≡◌, ℕ, zero, suc, ◌+◌, ◌-◌, ◌*◌, ◌/◌, ◌%◌, ◌<◌, ◌≤◌, ◌^◌, true, false, List, [], ◌∷◌, length, drop, get_or, refl, sym, ap, ◌∙◌, inl, inr, arith}
use Rattle.std.specs.Prelude.{ℤ, pos, negsuc, ◌+ℤ◌, ◌*ℤ◌, ◌==◌, nat_lt, None, unsigned_abs, if◌then◌else◌}
use Rattle.std.proofs.Math.Nat.{mod-lt, mod-one, div-one, div-lt_iff_lt-mul, mul-le-mul_right, mul-add-mod_self_right}
use Rattle.std.proofs.lemmas.Bool.{cases_lt}
use Rattle.std.proofs.lemmas.Bool.Decides.{nat_tests}
use Rattle.std.proofs.lemmas.Int.{ints}
use Rattle.std.proofs.lemmas.Nat.{div-add-mod', div-mul-add, mod-mul-add}
use Rattle.nd_model.specs.Arrays.Broadcast.{broadcast_view, broadcasts_to, narrowed_axes, own_tuple}
use Rattle.nd_model.specs.Arrays.Strides.{way_to, begins_at, is_held, parts_fault, place_at, places_by}
use Rattle.nd_model.specs.Arrays.Tuple.{elements_of, number}
use Rattle.nd_model.specs.Arrays.View.{Geo, item_size}
use Rattle.nd_model.proofs.Tuples.{length-tuple}
use Rattle.nd_view.specs.Indexes.{IsIndex}
use Rattle.nd_view.proofs.Counts.{rest_some}
use Rattle.nd_view.proofs.Extents.{bounds}
use Rattle.nd_view.proofs.Indexed.{at_index, of_all}
use Rattle.nd_view.proofs.Made.{axes, facts}
use Rattle.nd_view.proofs.Numbered.{at_tuple, tuple_is, tuple_of}
use Rattle.nd_view.proofs.Split.{of_low}
use Rattle.nd_shape.proofs.Rearranged.{tuple_of_index}
use Rattle.nd_shape.proofs.Stretches as stretches
use Rattle.nd_ufunc.specs.Elementwise.Spread.{AreBehind, AreRows, broadcast_stride}
use Rattle.nd_ufunc.proofs.elementwise.Spreads.{aligned, length-spread}

-- ---- numbers in a row

-- all elements are rows
row_count : (axis : ℕ) (shape : List ℕ) → axis < length shape → elements_of (drop (suc axis) shape) ≡ 1 → (c : ℕ) × (elements_of shape ≡ c * get_or shape axis 0)
row_count axis [] lt one = absurd (omega arith)
row_count zero (m ∷ shape) lt one = (1, ap (λ e. m * e) one ∙ omega arith)
row_count (suc axis) (m ∷ shape) lt one =
    let c = row_count axis shape (omega arith) one in (m * c.0, ap (λ e. m * e) c.1 ∙ omega arith)

-- d elements further, in the same row
pub record IsInRow (whole row k d : ℕ) : Type 0 where
  pub index : (k + d) / whole ≡ k / whole
  pub rest : (k + d) % whole ≡ k % whole + d
  pub still : k % whole % row + d < row
  pub below : k < whole → k + d < whole

in_row : (axis : ℕ) (shape : List ℕ) (k d : ℕ) → axis < length shape → elements_of (drop (suc axis) shape) ≡ 1 → 0 < elements_of shape → k % get_or shape axis 0 + d < get_or shape axis 0
    → IsInRow (elements_of shape) (get_or shape axis 0) k d
in_row axis shape k d lt one some row =
    let m : ℕ = get_or shape axis 0 in let e : ℕ = elements_of shape in
    let rows = row_count axis shape lt one in let i : ℕ = k / e in let r : ℕ = k % e in
    let parts : i * e + r ≡ k = div-add-mod' k e in
    let below : r < e = mod-lt k some in
    let by_rows : k ≡ (i * rows.0) * m + r = sym parts ∙ ap (λ x. i * x + r) rows.1 ∙ omega arith in
    let same : k % m ≡ r % m = ap (λ x. x % m) by_rows ∙ mul-add-mod_self_right (i * rows.0) m r in
    let some_row : 0 < m = omega (arith, row) in
    let in_order : r / m < rows.0 = (div-lt_iff_lt-mul some_row).1 (omega (arith, below, rows.1)) in
    let end : (r / m + 1) * m ≤ rows.0 * m = mul-le-mul_right m (omega (arith, in_order)) in
    let split : r / m * m + r % m ≡ r = div-add-mod' r m in
    let inside : r + d < e = omega (arith, split, same, row, end, rows.1) in
    let there : k + d ≡ i * e + (r + d) = omega (arith, parts) in
    record {
      index = ap (λ x. x / e) there ∙ div-mul-add i e (r + d) inside;
      rest = ap (λ x. x % e) there ∙ mod-mul-add i e (r + d) inside;
      still = omega (arith, same, row);
      below = λ few. let first : i ≡ 0 = alone i e r (omega (arith, parts, few)) in let none : i * e ≡ 0 = ap (λ x. x * e) first ∙ omega arith in omega (arith, none, there, inside);
    }
  where
    alone : (i e r : ℕ) → i * e + r < e → i ≡ 0
    alone zero e r lt = refl
    alone (suc i) e r lt = absurd (omega arith)

-- ---- the way to an element

-- `lacking` axes in front are no axes of the view
abbrev way : (lacking : ℕ) → (own shape : List ℕ) → (strides : List ℤ) → (k : ℕ) → ℤ
way lacking own shape strides k = way_to (narrowed_axes own (drop lacking (tuple_of shape k))) strides

spread_out : (k d : ℕ) (s w : ℤ) → (pos (k + d) *ℤ s) +ℤ w ≡ ((pos k *ℤ s) +ℤ w) +ℤ (pos d *ℤ s)
spread_out k d (pos m) w = omega (arith, ints)
spread_out k d (negsuc m) w = omega (arith, ints)

-- along an axis of the view
along : (axis : ℕ) (own shape : List ℕ) (strides : List ℤ) (k d : ℕ) → length own ≡ length shape → length strides ≡ length own → axis < length shape
    → elements_of (drop (suc axis) shape) ≡ 1 → 0 < elements_of shape → k % get_or shape axis 0 + d < get_or shape axis 0
    → way 0 own shape strides (k + d) ≡ way 0 own shape strides k +ℤ (pos d *ℤ (if get_or own axis 0 == 1 then pos 0 else get_or strides axis (pos 0)))
along axis own [] strides k d same long lt one some row = absurd (omega arith)
along axis [] (m ∷ shape) strides k d same long lt one some row = absurd (omega arith)
along axis (n ∷ own) (m ∷ shape) [] k d same long lt one some row = absurd (omega arith)
along zero (n ∷ own) (m ∷ shape) (s ∷ strides) k d same long lt one some row =
    let there : (k + d) / elements_of shape ≡ k + d = ap (λ e. (k + d) / e) one ∙ div-one (k + d) in
    let here : k / elements_of shape ≡ k = ap (λ e. k / e) one ∙ div-one k in
    let rest : (k + d) % elements_of shape ≡ k % elements_of shape = ap (λ e. (k + d) % e) one ∙ mod-one (k + d) ∙ sym (ap (λ e. k % e) one ∙ mod-one k) in
    let w : ℕ → ℤ = λ j. way_to (narrowed_axes own (tuple_of shape j)) strides in
    (λ i. (pos (if n == 1 then 0 else there i) *ℤ s) +ℤ w (rest i))
    ∙ step n s (w (k % elements_of shape))
    ∙ (λ i. ((pos (if n == 1 then 0 else sym here i) *ℤ s) +ℤ w (k % elements_of shape)) +ℤ (pos d *ℤ (if n == 1 then pos 0 else s)))
  where
    step : (n : ℕ) (s w : ℤ) → (pos (if n == 1 then 0 else k + d) *ℤ s) +ℤ w ≡ ((pos (if n == 1 then 0 else k) *ℤ s) +ℤ w) +ℤ (pos d *ℤ (if n == 1 then pos 0 else s))
    step n s w = elim (n == 1) as (λ b. (pos (if b then 0 else k + d) *ℤ s) +ℤ w ≡ ((pos (if b then 0 else k) *ℤ s) +ℤ w) +ℤ (pos d *ℤ (if b then pos 0 else s))) [
      | true ↦ omega (arith, ints)
      | false ↦ spread_out k d s w
    ]
along (suc axis) (n ∷ own) (m ∷ shape) (s ∷ strides) k d same long lt one some row =
    let many = rest_some m (elements_of shape) some in
    let on = in_row axis shape k d (omega arith) one many row in
    let first : ℤ = pos (if n == 1 then 0 else k / elements_of shape) *ℤ s in
    (λ i. (pos (if n == 1 then 0 else on.index i) *ℤ s) +ℤ way 0 own shape strides (on.rest i))
    ∙ ap (λ z. first +ℤ z) (along axis own shape strides (k % elements_of shape) d (omega arith) (omega arith) (omega arith) one many on.still)
    ∙ omega (arith, ints)

present : (lacking axis at : ℕ) (own shape : List ℕ) (strides : List ℤ) (k d : ℕ) → at ≡ lacking + axis → lacking + length own ≡ length shape → length strides ≡ length own → at < length shape
    → elements_of (drop (suc at) shape) ≡ 1 → 0 < elements_of shape → k % get_or shape at 0 + d < get_or shape at 0
    → way lacking own shape strides (k + d) ≡ way lacking own shape strides k +ℤ (pos d *ℤ (if get_or own axis 0 == 1 then pos 0 else get_or strides axis (pos 0)))
present zero axis at own shape strides k d is same long lt one some row =
    let here : at ≡ axis = omega (arith, is) in
    along at own shape strides k d (omega (arith, same)) long lt one some row
    ∙ ap (λ a. way 0 own shape strides k +ℤ (pos d *ℤ (if get_or own a 0 == 1 then pos 0 else get_or strides a (pos 0)))) here
present (suc lacking) axis zero own shape strides k d is same long lt one some row = absurd (omega (arith, is))
present (suc lacking) axis (suc at) own [] strides k d is same long lt one some row = absurd (omega arith)
present (suc lacking) axis (suc at) own (m ∷ shape) strides k d is same long lt one some row =
    let many = rest_some m (elements_of shape) some in
    let on = in_row at shape k d (omega arith) one many row in
    ap (way lacking own shape strides) on.rest ∙ present lacking axis at own shape strides (k % elements_of shape) d (omega (arith, is)) (omega arith) long (omega arith) one many on.still

-- along an axis that the view lacks
absent : (lacking axis : ℕ) (own shape : List ℕ) (strides : List ℤ) (k d : ℕ) → axis < lacking → axis < length shape
    → elements_of (drop (suc axis) shape) ≡ 1 → 0 < elements_of shape → k % get_or shape axis 0 + d < get_or shape axis 0
    → way lacking own shape strides (k + d) ≡ way lacking own shape strides k
absent zero axis own shape strides k d gone lt one some row = absurd (omega arith)
absent (suc lacking) axis own [] strides k d gone lt one some row = absurd (omega arith)
absent (suc lacking) zero own (m ∷ shape) strides k d gone lt one some row =
    ap (way lacking own shape strides) (ap (λ e. (k + d) % e) one ∙ mod-one (k + d) ∙ sym (ap (λ e. k % e) one ∙ mod-one k))
absent (suc lacking) (suc axis) own (m ∷ shape) strides k d gone lt one some row =
    let many = rest_some m (elements_of shape) some in
    let on = in_row axis shape k d (omega arith) one many row in
    ap (way lacking own shape strides) on.rest ∙ absent lacking axis own shape strides (k % elements_of shape) d (omega arith) (omega arith) one many on.still

beside : (lacking axis : ℕ) (own shape : List ℕ) (strides : List ℤ) (k d : ℕ) → lacking + length own ≡ length shape → length strides ≡ length own → axis < length shape
    → elements_of (drop (suc axis) shape) ≡ 1 → 0 < elements_of shape → k % get_or shape axis 0 + d < get_or shape axis 0
    → way lacking own shape strides (k + d) ≡ way lacking own shape strides k +ℤ (pos d *ℤ broadcast_stride own strides lacking axis)
beside lacking axis own shape strides k d same long lt one some row = elim (cases_lt axis lacking) [
  | inl gone ↦
      let test : nat_lt axis lacking ≡ true = grind (arith, nat_tests) in
      rw test (absent lacking axis own shape strides k d gone lt one some row ∙ omega (arith, ints))
  | inr there ↦
      let test : nat_lt axis lacking ≡ false = grind (arith, nat_tests) in
      rw test (present lacking (axis - lacking) axis own shape strides k d (omega (arith, there)) same long lt one some row)
]

-- ---- byte offsets

module _ (g : Geo) (shape : List ℕ) (strides : List ℤ) (fits : broadcasts_to g.shape shape ≡ true) (held : parts_fault (item_size g.element) g.shape strides (get_or g.places 0 0) (2 ^ 64) ≡ None) (by : g.places ≡ places_by (get_or g.places 0 0) strides g.shape) (size : 0 < item_size g.element) where
  abbrev places : List ℕ
  places = (broadcast_view g shape).places

  abbrev lacking : ℕ
  lacking = length shape - length g.shape

  abbrev first : ℕ
  first = get_or g.places 0 0

  place_is : (k : ℕ) → k < elements_of shape → (pos (get_or places k 0) ≡ pos first +ℤ way lacking g.shape shape strides k) × (get_or places k 0 < 2 ^ 64)
  place_is k lt =
      let t : List ℕ = tuple_of shape k in let is = tuple_is shape k lt in
      let u : List ℕ = own_tuple g.shape t in let own : IsIndex g.shape u = stretches.own_index g.shape shape t fits is.0 in
      let in_block = bounds (item_size g.element) (2 ^ 64) (begins_at first strides u)
      (of_all (is_held (item_size g.element) (2 ^ 64)) (begins_at first strides) g.shape u (facts (item_size g.element) g.shape strides first (2 ^ 64) held).2 own) in
      let here : get_or places k 0 ≡ place_at first strides u
      = ap (λ n. get_or places n 0) (sym is.1)
      ∙ at_index (λ v. get_or g.places (number g.shape (own_tuple g.shape v)) 0) shape t 0 is.0
      ∙ ap (λ ps. get_or ps (number g.shape u) 0) by
      ∙ at_tuple first strides g.shape u own in
      let same : length t - length g.shape ≡ lacking = ap (λ n. n - length g.shape) (length-tuple shape t (tuple_of_index shape t is.0)) in
      (ap pos here ∙ sym (of_low (begins_at first strides u) in_block.0) ∙ ap (λ n. pos first +ℤ way_to (narrowed_axes g.shape (drop n t)) strides) same, omega (arith, here, in_block.1, size))

  -- along an axis behind which there is one element
  pub rows_are : (axis : ℕ) → axis < length shape → elements_of (drop (suc axis) shape) ≡ 1 → AreRows places (get_or shape axis 0) (broadcast_stride g.shape strides lacking axis)
  rows_are axis lt one k d inside row =
      let below : k < elements_of shape = omega (arith, inside, length-spread g shape) in
      let few = (aligned g.shape shape fits).axes in
      let some : 0 < elements_of shape = omega (arith, below) in
      let on = in_row axis shape k d lt one some row in
      let here = place_is k below in let there = place_is (k + d) (on.below below) in
      let by_stride = beside lacking axis g.shape shape strides k d (omega (arith, few)) (axes (item_size g.element) g.shape strides first (2 ^ 64) held) lt one some row in
      (omega (arith, ints, here.0, there.0, by_stride), there.1)

  -- where no axis is longer than 1 there is one element
  pub row_alone : AreRows places 1 (pos 0)
  row_alone k d inside row =
      let none : d ≡ 0 = omega (arith, row) in let same : k + d ≡ k = omega (arith, none) in
      let here = place_is k (omega (arith, inside, length-spread g shape)) in
      rw (same, none) (omega (arith, ints), here.1)

-- ---- a walk along a row

pub begun : (ps : List ℕ) (row at place : ℕ) (stride : ℤ) → AreRows ps row stride → at < length ps → place ≡ get_or ps at 0 → AreBehind ps (at + 1) (row - at % row - 1) place stride
begun ps row at place stride rows lt is k left =
    let there : at + 1 + k ≡ at + (k + 1) = omega arith in
    rw (there, is) (rows at (k + 1) lt (omega (arith, left)))

pub stepped : (ps : List ℕ) (at left place next : ℕ) (stride : ℤ) → AreBehind ps at left place stride → 0 < left → pos next ≡ pos place +ℤ stride
    → (next ≡ get_or ps at 0) × AreBehind ps (at + 1) (left - 1) next stride
stepped ps at left place next stride behind some is =
    let here : at + 0 ≡ at = omega arith in
    let once : pos place +ℤ stride ≡ pos place +ℤ (pos 1 *ℤ stride) = omega (arith, ints) in
    let same : pos next ≡ pos (get_or ps at 0) = is ∙ once ∙ (behind 0 some).0 ∙ ap (λ n. pos (get_or ps n 0)) here in (
      ap unsigned_abs same,
      λ k lt.
          let there : at + 1 + k ≡ at + (k + 1) = omega arith in let later = behind (k + 1) (omega (arith, lt)) in
          rw there (ap (λ z. z +ℤ (pos (k + 1) *ℤ stride)) is ∙ again k stride ∙ later.0, later.1),
    )
  where
    again : (k : ℕ) (s : ℤ) → (pos place +ℤ s) +ℤ (pos (k + 1) *ℤ s) ≡ pos place +ℤ (pos (k + 1 + 1) *ℤ s)
    again k (pos m) = omega (arith, ints)
    again k (negsuc m) = omega (arith, ints)

-- the next byte offset is at least 0 and below 2^64
pub spot : (ps : List ℕ) (at left place : ℕ) (stride : ℤ) → AreBehind ps at left place stride → 0 < left → (pos place +ℤ stride ≡ pos (get_or ps at 0)) × (get_or ps at 0 < 2 ^ 64)
spot ps at left place stride behind some =
    let here : at + 0 ≡ at = omega arith in
    let once : pos place +ℤ stride ≡ pos place +ℤ (pos 1 *ℤ stride) = omega (arith, ints) in
    let first = behind 0 some in
    (once ∙ first.0 ∙ ap (λ n. pos (get_or ps n 0)) here, omega (arith, first.1, ap (λ n. get_or ps n 0) here))
