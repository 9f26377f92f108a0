-- Views of the same bytes as other numbers, by their strides.
use Rattle.std.proofs.Common.{◌≡◌, ℕ, suc, ◌+◌, ◌-◌, ◌*◌, ◌/◌, ◌%◌, ◌<◌, ◌≤◌, ◌^◌, Bool, true, not, ◌&&◌, List, [], ◌∷◌, ◌++◌, map, length, get_or, take, replicate, refl, sym, ap, subst, ◌∙◌, arith, eqb-true}
use Rattle.std.specs.Prelude.{ℤ, pos, ◌+ℤ◌, ◌*ℤ◌, ◌≤ℤ◌, None, unsigned_abs, ◌==◌}
use Rattle.std.specs.List.{All, list_all}
use Rattle.std.proofs.lemmas.Bool.Decides.{nat_tests}
use Rattle.std.proofs.lemmas.Int.{ints}
use Rattle.nd_model.specs.Arrays.Element.{Element, size_of}
use Rattle.nd_model.specs.Arrays.Strides.{way_to, begins_at, place_at, places_by, is_held, are_held, IsInLimits, parts_fault}
use Rattle.nd_model.specs.Arrays.Tuple.{elements_of, indices, number}
use Rattle.nd_model.specs.Arrays.View.{One, Geo, item_size, place_of}
use Rattle.nd_model.specs.Indexing.Recasting.{last_of, with_last, row_start, has_whole_rows, row_bytes, can_recast, recast_shape, recast_view}
use Rattle.nd_model.specs.Cells.Sound.{LiesIn}
use Rattle.nd_model.proofs.Parts.{parts_are_held}
use Rattle.nd_model.proofs.Recast.{at_each, last_with, last_tuple, last_below, length-with_last, row_some, element_inside, some_axes}
use Rattle.nd_model.proofs.Transposed.{both}
use Rattle.nd_model.proofs.Tuples.{IsTuple}
use Rattle.nd_view.specs.Indexes.{IsIndex}
use Rattle.nd_view.proofs.Extents.{bounds, held_by}
use Rattle.nd_view.proofs.Indexed.{all_indexes, of_all, same_indexes}
use Rattle.nd_view.proofs.Made.{facts, axes, no_fault}
use Rattle.nd_view.proofs.Numbered.{at_tuple, length-places_by}
use Rattle.nd_view.proofs.Steps.{zeros}
use Rattle.nd_view.proofs.Tuples.{no_tuples}
use Rattle.nd_shape.specs.Recasts.{last_step, with_last_step}
use Rattle.nd_shape.proofs.Ordered.{length_index}
use Rattle.nd_shape.proofs.Rearranged.{HasStrides, tuple_of_index, index_of_tuple}

-- ---- the last of a list

pub last_at : (ns : List ℕ) → last_of ns ≡ get_or ns (length ns - 1) 0
last_at [] = refl
last_at (n ∷ []) = refl
last_at (n ∷ m ∷ ns) = let less : suc (suc (length ns)) - 1 ≡ suc (suc (length ns) - 1) = omega arith in last_at (m ∷ ns) ∙ (λ i. get_or (n ∷ m ∷ ns) (sym less i) 0)

pub last_step_at : (ss : List ℤ) → last_step ss ≡ get_or ss (length ss - 1) (pos 0)
last_step_at [] = refl
last_step_at (s ∷ []) = refl
last_step_at (s ∷ z ∷ ss) = let less : suc (suc (length ss)) - 1 ≡ suc (suc (length ss) - 1) = omega arith in last_step_at (z ∷ ss) ∙ (λ i. get_or (s ∷ z ∷ ss) (sym less i) (pos 0))

pub with_last_is : (ns : List ℕ) (k : ℕ) → 0 < length ns → with_last ns k ≡ take (length ns - 1) ns ++ k ∷ []
with_last_is [] k some = absurd (omega arith)
with_last_is (n ∷ []) k some = refl
with_last_is (n ∷ m ∷ ns) k some = let less : suc (suc (length ns)) - 1 ≡ suc (suc (length ns) - 1) = omega arith in ap (λ l. n ∷ l) (with_last_is (m ∷ ns) k (omega arith)) ∙ (λ i. take (sym less i) (n ∷ m ∷ ns) ++ k ∷ [])

pub with_last_step_is : (ss : List ℤ) (z : ℤ) → 0 < length ss → with_last_step ss z ≡ take (length ss - 1) ss ++ z ∷ []
with_last_step_is [] z some = absurd (omega arith)
with_last_step_is (s ∷ []) z some = refl
with_last_step_is (s ∷ y ∷ ss) z some = let less : suc (suc (length ss)) - 1 ≡ suc (suc (length ss) - 1) = omega arith in ap (λ l. s ∷ l) (with_last_step_is (y ∷ ss) z (omega arith)) ∙ (λ i. take (sym less i) (s ∷ y ∷ ss) ++ z ∷ [])

length-last_step : (ss : List ℤ) (z : ℤ) → length (with_last_step ss z) ≡ length ss
length-last_step [] z = refl
length-last_step (s ∷ []) z = refl
length-last_step (s ∷ y ∷ ss) z = ap suc (length-last_step (y ∷ ss) z)

own_last : (t : List ℕ) → with_last t (last_of t) ≡ t
own_last [] = refl
own_last (i ∷ []) = refl
own_last (i ∷ j ∷ t) = ap (λ u. i ∷ u) (own_last (j ∷ t))

-- ---- the way to an element by that to the start of its row

pub row_way : (t : List ℕ) (ss : List ℤ) (z : ℤ) → length t ≡ length ss → 0 < length t → way_to t (with_last_step ss z) ≡ way_to (with_last t 0) ss +ℤ (pos (last_of t) *ℤ z)
row_way [] ss z same some = absurd (omega arith)
row_way (i ∷ t) [] z same some = absurd (omega arith)
row_way (i ∷ []) (s ∷ []) z same some = alone i s z
  where
    alone : (i : ℕ) (s z : ℤ) → (pos i *ℤ z) +ℤ pos 0 ≡ ((pos 0 *ℤ s) +ℤ pos 0) +ℤ (pos i *ℤ z)
    alone i s z = omega (arith, ints)
row_way (i ∷ []) (s ∷ y ∷ ss) z same some = absurd (omega arith)
row_way (i ∷ j ∷ t) (s ∷ []) z same some = absurd (omega arith)
row_way (i ∷ j ∷ t) (s ∷ y ∷ ss) z same some =
    ap (λ x. (pos i *ℤ s) +ℤ x) (row_way (j ∷ t) (y ∷ ss) z (omega arith) (omega arith)) ∙ regroup (pos i *ℤ s) (way_to (with_last (j ∷ t) 0) (y ∷ ss)) (pos (last_of (j ∷ t)) *ℤ z)
  where
    regroup : (a b c : ℤ) → a +ℤ (b +ℤ c) ≡ (a +ℤ b) +ℤ c
    regroup a b c = omega (arith, ints)

own_step : (ss : List ℤ) → with_last_step ss (last_step ss) ≡ ss
own_step [] = refl
own_step (s ∷ []) = refl
own_step (s ∷ y ∷ ss) = ap (λ l. s ∷ l) (own_step (y ∷ ss))

pub own_row_way : (t : List ℕ) (ss : List ℤ) → length t ≡ length ss → 0 < length t → way_to t ss ≡ way_to (with_last t 0) ss +ℤ (pos (last_of t) *ℤ last_step ss)
own_row_way t ss same some = ap (way_to t) (sym (own_step ss)) ∙ row_way t ss (last_step ss) same some

-- ---- a view

at_low : (z : ℤ) (p : ℕ) → pos 0 ≤ℤ z → p ≡ unsigned_abs z → pos p ≡ z
at_low z p low e = omega (arith, ints, low, e)

module _ (g : Geo) (strides : List ℤ) (has : HasStrides g strides) where
  all : are_held (item_size g.element) (2 ^ 64) (get_or g.places 0 0) strides g.shape ≡ true
  all = (facts (item_size g.element) g.shape strides (get_or g.places 0 0) (2 ^ 64) has.held).2

  same : length strides ≡ length g.shape
  same = axes (item_size g.element) g.shape strides (get_or g.places 0 0) (2 ^ 64) has.held

  pub count_is : length g.places ≡ elements_of g.shape
  count_is = ap length has.by ∙ length-places_by (get_or g.places 0 0) strides g.shape

  pub lies_all : LiesIn (2 ^ 64) g
  lies_all =
      let fault : parts_fault (item_size g.element) g.shape strides (get_or g.places 0 0) (2 ^ 64) ≡ None = has.held in
      let inside : All (λ p. p + item_size g.element ≤ 2 ^ 64) (places_by (get_or g.places 0 0) strides g.shape)
      = parts_are_held g.element g.shape strides (get_or g.places 0 0) (2 ^ 64) (record { element = g.element; shape = g.shape; writable = true; places = places_by (get_or g.places 0 0) strides g.shape }) (rw fault refl) in
      record {
        count = count_is;
        limits = (facts (item_size g.element) g.shape strides (get_or g.places 0 0) (2 ^ 64) has.held).1;
        inside = subst (All (λ p. p + item_size g.element ≤ 2 ^ 64)) (sym has.by) inside;
      }

  -- a place as a number that may be negative
  pub place_is : (t : List ℕ) → IsIndex g.shape t → pos (place_of g t) ≡ begins_at (get_or g.places 0 0) strides t
  place_is t is =
      let b = bounds (item_size g.element) (2 ^ 64) (begins_at (get_or g.places 0 0) strides t) (of_all (is_held (item_size g.element) (2 ^ 64)) (begins_at (get_or g.places 0 0) strides) g.shape t all is) in
      at_low (begins_at (get_or g.places 0 0) strides t) (place_of g t) b.0 (ap (λ ps. get_or ps (number g.shape t) 0) has.by ∙ at_tuple (get_or g.places 0 0) strides g.shape t is)

  -- ---- numbers of the same size

  module _ (e : Element) (shape : List ℕ) (at : ℕ) (size_is : item_size g.element ≡ size_of e.kind) (shape_is : shape ≡ g.shape) (at_is : at ≡ get_or g.places 0 0) where
    pub same_fault : parts_fault (size_of e.kind) shape strides at (2 ^ 64) ≡ None
    same_fault = (λ i. parts_fault (sym size_is i) (shape_is i) strides (at_is i) (2 ^ 64)) ∙ has.held

    pub same_view : (writable : Bool) → writable ≡ g.writable → ◌≡◌ {A = Geo} (record { element = One e; shape = shape; writable = writable; places = places_by at strides shape }) (record g { element = One e })
    same_view writable write =
        let places : places_by at strides shape ≡ g.places = (λ i. places_by (at_is i) strides (shape_is i)) ∙ sym has.by in
        λ i. record { element = One e; shape = shape_is i; writable = write i; places = places i }

  -- ---- whole rows

  abbrev tested : List ℕ → Bool
  tested t = place_of g t == row_start g t + last_of t * item_size g.element

  tested_by : ((t : List ℕ) → IsIndex g.shape t → place_of g t ≡ row_start g t + last_of t * item_size g.element) → has_whole_rows g ≡ true
  tested_by even = sym (all_plain tested (indices g.shape)) ∙ all_indexes (λ b. b) tested g.shape (λ t is. same_true (place_of g t) (row_start g t + last_of t * item_size g.element) (even t is))
    where
      all_plain : (p : List ℕ → Bool) (ts : List (List ℕ)) → list_all (λ b. b) (map p ts) ≡ list_all p ts
      all_plain p [] = refl
      all_plain p (t ∷ ts) = ap (λ b. p t && b) (all_plain p ts)

      same_true : (a b : ℕ) → a ≡ b → (a == b) ≡ true
      same_true a b e = grind (arith, nat_tests)

  pub short_rows : last_of g.shape ≤ 1 → 0 < length g.shape → has_whole_rows g ≡ true
  short_rows short some = tested_by (λ t is.
      let low = last_below g.shape t (tuple_of_index g.shape t is) some in
      let first : last_of t ≡ 0 = omega (arith, low.0) in
      let none : last_of t * item_size g.element ≡ 0 = ap (λ k. k * item_size g.element) first ∙ omega arith in
      let here : with_last t 0 ≡ t = ap (with_last t) (sym first) ∙ own_last t in
      let start : row_start g t ≡ place_of g t = ap (place_of g) here in omega (arith, none, start))

  pub no_rows : elements_of g.shape ≡ 0 → has_whole_rows g ≡ true
  no_rows none = rw (no_tuples g.shape none) refl

  row_index : (t : List ℕ) → IsIndex g.shape t → 0 < length g.shape → (k : ℕ) → k < last_of g.shape → IsIndex g.shape (with_last t k)
  row_index t is some k lt = index_of_tuple g.shape (with_last t k) (last_tuple g.shape t (last_of g.shape) k (subst (λ s. IsTuple s t) (sym (own_last g.shape)) (tuple_of_index g.shape t is)) lt)

  pub even_rows : last_step strides ≡ pos (item_size g.element) → 0 < length g.shape → has_whole_rows g ≡ true
  even_rows step some = tested_by (λ t is.
      let low = last_below g.shape t (tuple_of_index g.shape t is) some in
      let start = place_is (with_last t 0) (row_index t is some 0 (omega (arith, low.0))) in
      let here = place_is t is ∙ ap (λ z. pos (get_or g.places 0 0) +ℤ z) (own_row_way t strides (length_index g.shape t is ∙ sym same) low.1) in
      sums (place_of g t) (row_start g t) (last_of t) (item_size g.element) (get_or g.places 0 0) (way_to (with_last t 0) strides) (last_step strides) step start here)
    where
      sums : (p r k s f : ℕ) (w z : ℤ) → z ≡ pos s → pos r ≡ pos f +ℤ w → pos p ≡ pos f +ℤ (w +ℤ (pos k *ℤ z)) → p ≡ r + k * s
      sums p r k s f w z e a b = let product : pos k *ℤ pos s ≡ pos (k * s) = omega (arith, ints) in let b' : pos p ≡ pos f +ℤ (w +ℤ (pos k *ℤ pos s)) = rw e at b in omega (arith, ints, product, a, b')

  pub rows_even : has_whole_rows g ≡ true → 0 < length g.shape → 1 < last_of g.shape → 0 < elements_of g.shape → last_step strides ≡ pos (item_size g.element)
  rows_even whole axes_some long some =
      let z = zeros g.shape some in
      let t : List ℕ = with_last (replicate (length g.shape) 0) 1 in
      let is : IsIndex g.shape t = row_index (replicate (length g.shape) 0) z.0 axes_some 1 long in
      let low = last_below g.shape t (tuple_of_index g.shape t is) axes_some in
      let start = place_is (with_last t 0) (row_index t is axes_some 0 (omega arith)) in
      let here = place_is t is ∙ ap (λ z. pos (get_or g.places 0 0) +ℤ z) (own_row_way t strides (length_index g.shape t is ∙ sym same) low.1) in
      let one : last_of t ≡ 1 = last_with (replicate (length g.shape) 0) 1 (omega (arith, axes_some, length_index g.shape (replicate (length g.shape) 0) z.0)) in
      let even : place_of g t ≡ row_start g t + last_of t * item_size g.element = eqb-true _ _ (at_each tested g.shape t whole (tuple_of_index g.shape t is)) in
      sums (place_of g t) (row_start g t) (last_of t) (item_size g.element) (get_or g.places 0 0) (way_to (with_last t 0) strides) (last_step strides) one start here even
    where
      sums : (p r k s f : ℕ) (w z : ℤ) → k ≡ 1 → pos r ≡ pos f +ℤ w → pos p ≡ pos f +ℤ (w +ℤ (pos k *ℤ z)) → p ≡ r + k * s → z ≡ pos s
      sums p r k s f w z e a b c =
          let b' : pos p ≡ pos f +ℤ (w +ℤ (pos 1 *ℤ z)) = rw e at b in let c' : p ≡ r + 1 * s = rw e at c in
          let one : 1 * s ≡ s = omega arith in omega (arith, ints, a, b', c', one)

  -- ---- the view of other numbers

  module _ (e : Element) (can : can_recast e g ≡ true) where
    axes_some : 0 < length g.shape
    axes_some = some_axes (length g.shape) (both (not (length g.shape == 0)) (has_whole_rows g && (row_bytes g % size_of e.kind == 0)) can).0

    abbrev shape : List ℕ
    shape = recast_shape e g

    abbrev steps : List ℤ
    steps = with_last_step strides (pos (size_of e.kind))

    some_row : (t : List ℕ) → IsIndex shape t → 0 < last_of g.shape
    some_row t is = row_some e g (2 ^ 64) lies_all can t (tuple_of_index shape t is)

    long : length steps ≡ length shape
    long = length-last_step strides (pos (size_of e.kind)) ∙ same ∙ sym (length-with_last g.shape (row_bytes g / size_of e.kind))

    begins : (t : List ℕ) → IsIndex shape t → begins_at (get_or g.places 0 0) steps t ≡ pos (row_start g t + last_of t * size_of e.kind)
    begins t is =
        let tuple = tuple_of_index shape t is in
        let low = last_below shape t tuple (omega (arith, axes_some, length-with_last g.shape (last_of shape), long, same, length-last_step strides (pos (size_of e.kind)))) in
        let start = place_is (with_last t 0) (index_of_tuple g.shape (with_last t 0) (last_tuple g.shape t (row_bytes g / size_of e.kind) 0 tuple (some_row t is))) in
        let way = row_way t strides (pos (size_of e.kind)) (length_index shape t is ∙ sym long ∙ length-last_step strides (pos (size_of e.kind))) low.1 in
        ap (λ z. pos (get_or g.places 0 0) +ℤ z) way ∙ sums (get_or g.places 0 0) (way_to (with_last t 0) strides) (last_of t) (size_of e.kind) (row_start g t) start
      where
        sums : (f : ℕ) (w : ℤ) (k s r : ℕ) → pos r ≡ pos f +ℤ w → pos f +ℤ (w +ℤ (pos k *ℤ pos s)) ≡ pos (r + k * s)
        sums f w k s r a = let product : pos k *ℤ pos s ≡ pos (k * s) = omega (arith, ints) in omega (arith, ints, product, a)

    recast_held : are_held (size_of e.kind) (2 ^ 64) (get_or g.places 0 0) steps shape ≡ true
    recast_held = all_indexes (is_held (size_of e.kind) (2 ^ 64)) (begins_at (get_or g.places 0 0) steps) shape
        (λ t is. rw (begins t is) (held_by (size_of e.kind) (2 ^ 64) (pos (row_start g t + last_of t * size_of e.kind)) (omega (arith, ints)) (element_inside e g (2 ^ 64) lies_all can t (tuple_of_index shape t is))))

    -- by what the code has of it
    module _ (lengths : List ℕ) (ss : List ℤ) (at : ℕ) (lengths_are : lengths ≡ shape) (strides_are : ss ≡ steps) (at_is : at ≡ get_or g.places 0 0) where
      pub recast_fault : IsInLimits (size_of e.kind) shape → parts_fault (size_of e.kind) lengths ss at (2 ^ 64) ≡ None
      recast_fault limits = (λ i. parts_fault (size_of e.kind) (lengths_are i) (strides_are i) (at_is i) (2 ^ 64)) ∙ no_fault (size_of e.kind) (2 ^ 64) (get_or g.places 0 0) shape steps limits long recast_held

      pub recast_is : (writable : Bool) → writable ≡ g.writable
          → ◌≡◌ {A = Geo} (record { element = One e; shape = lengths; writable = writable; places = places_by at ss lengths }) (recast_view e g)
      recast_is writable write =
          let places : places_by at ss lengths ≡ map (λ t. row_start g t + last_of t * size_of e.kind) (indices shape)
          = (λ i. places_by (at_is i) (strides_are i) (lengths_are i)) ∙ same_indexes (place_at (get_or g.places 0 0) steps) (λ t. row_start g t + last_of t * size_of e.kind) shape (λ t is. ap unsigned_abs (begins t is)) in
          λ i. record { element = One e; shape = lengths_are i; writable = write i; places = places i }
