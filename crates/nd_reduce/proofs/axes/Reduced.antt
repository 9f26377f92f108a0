-- The lanes of an array are those of the definition.
use Rattle.std.proofs.Common.{◌≡◌, ℕ, zero, suc, ◌+◌, ◌*◌, ◌/◌, ◌<◌, ◌≤◌, ℤ, pos, Bool, true, false, List, [], ◌∷◌, ◌++◌, map, length, take, drop, get_or, Option, Some, None, refl, sym, ap, ◌∙◌, subst, arith, append-nil}
use Rattle.std.specs.List.{All, flat_map}
use Rattle.std.proofs.Math.Seq.{drop-cons}
use Rattle.std.proofs.lemmas.Nat.{div-mul-add}
use Rattle.std.proofs.lemmas.List.{drop-drop, get_or-drop, get_or-map, length-map, length-take-le, take_all, take_at, take-append-drop}
use Rattle.std.proofs.lemmas.List.Folds.{flat_map-map}
use Rattle.nd_model.specs.Grammar.Calls.{Reduction}
use Rattle.nd_model.specs.Arrays.Content.{Num, number_at, number_in, content_at, content_or, array_bytes}
use Rattle.nd_model.specs.Arrays.Element.{Element, Kind, bytes_of, wrap}
use Rattle.nd_model.specs.Making.Elementwise.{little}
use Rattle.nd_model.specs.Making.Operand as operand
use Rattle.nd_model.specs.Making.Operand.{content_of}
use Rattle.nd_model.specs.Making.Reductions.{folded, lane, lane_tuple, numbers_of, prefix_folds, reduced_shape}
use Rattle.nd_model.specs.Cells.Sound.{LiesIn}
use Rattle.nd_model.specs.Arrays.Tuple.{count_up, elements_of, indices, number}
use Rattle.nd_model.specs.Arrays.View.{One, Geo, item_size, place_of}
use Rattle.nd_model.proofs.Contents.{numbers_bytes}
use Rattle.nd_model.proofs.Transposed.{by_place}
use Rattle.nd_model.proofs.Tuples.{length-indices, number_below}
use Rattle.nd_model.proofs.Uses.{used_numbers}
use Rattle.nd_element.specs.Elements.{AreHeld, numbers_at}
use Rattle.nd_view.specs.Indexes.{IsIndex}
use Rattle.nd_view.proofs.Indexed.{same_indexes}
use Rattle.nd_view.proofs.Tuples.{map-map, length-count_up, numbers}
use Rattle.nd_shape.proofs.Ordered.{length_index}
use Rattle.nd_model.proofs.Taking.{taking_within}
use Rattle.nd_shape.proofs.Rearranged.{index_of_tuple, tuple_of_index}
use Rattle.nd_ufunc.proofs.loops.SideBySide.{same_counted}
use Rattle.nd_reduce.specs.Axes.Axes.{HasAxis, IsRowWidth, lane_length}
use Rattle.nd_reduce.specs.Folds.Lanes.{fold_bytes, lanes_in}
use Rattle.nd_reduce.specs.Axes.LastAxis.{from_end, lanes_of, to_end}
use Rattle.nd_reduce.specs.Axes.Tables.{table_columns}
use Rattle.nd_reduce.specs.Axes.Made.{array_operand, contents_over, new_array}
use Rattle.nd_reduce.proofs.axes.Across.{across, columns_across, prefixes_across}
use Rattle.nd_reduce.proofs.folds.Sliced.{lanes_are}
use Rattle.nd_reduce.proofs.axes.Moved.{to_end_is, row_moved, inside_moved, inside_put, inside_at, elements-append}
use Rattle.nd_reduce.proofs.axes.Rows.{rows, kept_axis}

-- ---- shapes and tuples

ones : (shape : List ℕ) → elements_of (map (λ n. 1) shape) ≡ 1
ones [] = refl
ones (n ∷ shape) = omega (arith, ones shape)

one_tuple : {X : Type 0} (z : X) (shape : List ℕ) → map (λ t. z) (indices (map (λ n. 1) shape)) ≡ z ∷ []
one_tuple z [] = refl
one_tuple z (n ∷ shape) = map_only z (indices (map (λ m. 1) shape)) (one_tuple z shape)
  where
    map_only : {X : Type 0} (z : X) (ts : List (List ℕ)) → map (λ t. z) ts ≡ z ∷ [] → map (λ t. z) (map (λ t. 0 ∷ t) ts ++ []) ≡ z ∷ []
    map_only z ts e = ap (map (λ t. z)) (append-nil (map (λ t. 0 ∷ t) ts)) ∙ map-map (λ t. z) (λ t. 0 ∷ t) ts ∙ e

-- the shape of all folded has one tuple
pub single_tuple : {X : Type 0} (z : X) (keep : Bool) (shape : List ℕ) → map (λ t. z) (indices (reduced_shape None keep shape)) ≡ z ∷ []
single_tuple z true shape = one_tuple z shape
single_tuple z false shape = refl

pub single_element : (keep : Bool) (shape : List ℕ) → elements_of (reduced_shape None keep shape) ≡ 1
single_element true shape = ones shape
single_element false shape = refl

-- what is left of a tuple where an index was put in
front_put : (a : ℕ) (t : List ℕ) (j : ℕ) → a ≤ length t → take a (take a t ++ j ∷ drop a t) ≡ take a t
front_put a t j le = take_at (take a t) (j ∷ drop a t) a (length-take-le a t le)

behind_put : (a : ℕ) (t : List ℕ) (j : ℕ) → a ≤ length t → drop (a + 1) (take a t ++ j ∷ drop a t) ≡ drop a t
behind_put zero t j le = refl
behind_put (suc a) [] j le = absurd (omega arith)
behind_put (suc a) (i ∷ t) j le = let e : suc a + 1 ≡ suc (a + 1) = omega arith in rw e (behind_put a t j (omega arith))

pub kept_elements : (a : ℕ) (keep : Bool) (shape : List ℕ) → elements_of (reduced_shape (Some a) keep shape) ≡ elements_of (reduced_shape (Some a) false shape)
kept_elements a false shape = refl
kept_elements a true shape =
    elements-append (take a shape) (1 ∷ drop (a + 1) shape) ∙ one_less (elements_of (take a shape)) (elements_of (drop (a + 1) shape)) ∙ sym (elements-append (take a shape) (drop (a + 1) shape))
  where
    one_less : (x y : ℕ) → x * (1 * y) ≡ x * y
    one_less x y = omega arith

-- the lengths before an axis, its own, and those behind it
split_shape : (a : ℕ) (shape : List ℕ) → a < length shape → shape ≡ take a shape ++ get_or shape a 0 ∷ drop (a + 1) shape
split_shape a shape lt =
    let next : suc a ≡ a + 1 = omega arith in
    sym (take-append-drop a shape) ∙ ap (λ l. take a shape ++ l) (drop-cons shape a 0 lt ∙ ap (λ m. get_or shape a 0 ∷ drop m shape) next)

-- the elements of a shape, by the lanes
pub elements_by_lanes : (axis : Option ℕ) (shape : List ℕ) → HasAxis axis (length shape) → elements_of shape ≡ elements_of (reduced_shape axis false shape) * lane_length axis shape
elements_by_lanes None shape has = omega arith
elements_by_lanes (Some a) shape has =
    ap elements_of (split_shape a shape has) ∙ elements-append (take a shape) (get_or shape a 0 ∷ drop (a + 1) shape)
    ∙ turned (elements_of (take a shape)) (get_or shape a 0) (elements_of (drop (a + 1) shape))
    ∙ ap (λ m. m * get_or shape a 0) (sym (elements-append (take a shape) (drop (a + 1) shape)))
  where
    turned : (x y z : ℕ) → x * (y * z) ≡ x * z * y
    turned x y z = omega arith

-- how many tables of rows there are
pub table_count : (axis : Option ℕ) (shape : List ℕ) (w : ℕ) → IsRowWidth axis shape w → (m : ℕ) × (elements_of (reduced_shape axis false shape) ≡ m * w)
table_count None shape w is = absurd is
table_count (Some a) shape w is = (elements_of (take a shape), elements-append (take a shape) (drop (a + 1) shape) ∙ ap (λ n. elements_of (take a shape) * n) (sym is))

same_factor : (x y w : ℕ) → 0 < w → x * w ≡ y * w → x ≡ y
same_factor x y w some same =
    let more : x * w + 0 ≡ y * w + 0 = omega (arith, same) in sym (div-mul-add x w 0 some) ∙ ap (λ m. m / w) more ∙ div-mul-add y w 0 some

some_each : (all parts each : ℕ) → 0 < all → all ≡ parts * each → 0 < each
some_each all parts zero some is = absurd (omega arith)
some_each all parts (suc each) some is = omega arith

-- how many lanes there are
pub lanes_number : (axis : Option ℕ) (shape : List ℕ) (all lanes each : ℕ) → HasAxis axis (length shape) → 0 < all → all ≡ elements_of shape → each ≡ lane_length axis shape
    → all ≡ lanes * each → lanes ≡ elements_of (reduced_shape axis false shape)
lanes_number axis shape all lanes each has some whole long split =
    let own : all ≡ elements_of (reduced_shape axis false shape) * each
    = whole ∙ elements_by_lanes axis shape has ∙ ap (λ n. elements_of (reduced_shape axis false shape) * n) (sym long) in
    same_factor lanes (elements_of (reduced_shape axis false shape)) each (some_each all lanes each some split) (sym split ∙ own)

-- a part of some numbers has no more
pub some_parts : (all parts each : ℕ) → 0 < all → all ≡ parts * each → (0 < parts) × (0 < each)
some_parts all parts each some is = let turned : all ≡ each * parts = omega (arith, is) in (some_each all each parts some turned, some_each all parts each some is)

pub part_fits : (all parts each : ℕ) → 0 < all → all ≡ parts * each → each ≤ all
part_fits all zero each some is = absurd (omega arith)
part_fits all (suc parts) each some is = let more : suc parts * each ≡ parts * each + each = omega arith in omega arith

module _ (g : Geo) (e : Element) (bytes : List ℕ) (one : g.element ≡ One e) (lies : LiesIn (length bytes) g) where
  abbrev o : operand.Operand
  o = array_operand g bytes

  held : AreHeld e bytes g.places
  held = subst (λ t. All (λ p. p + item_size t ≤ length bytes) g.places) one lies.inside

  contents_are : contents_over g bytes ≡ map (content_at (One e) bytes) g.places
  contents_are = rw one (used_numbers e bytes g.places held)

  pub all_numbers : numbers_of o ≡ numbers_at e bytes g.places
  all_numbers = ap (map number_in) contents_are ∙ map-map number_in (content_at (One e) bytes) g.places

  at_content : (u : List ℕ) → IsIndex g.shape u → number_at e bytes (place_of g u) ≡ number_in (content_of o u)
  at_content u is =
      let lt : number g.shape u < length g.places = let below = number_below g.shape u (tuple_of_index g.shape u is) in omega (arith, below, lies.count) in
      sym (ap (λ cs. number_in (content_or cs (number g.shape u))) contents_are ∙ ap number_in (get_or-map (content_at (One e) bytes) g.places (number g.shape u) 0 (Num (pos 0)) lt))

  -- ---- along an axis

  module _ (a : ℕ) (lt : a < length g.shape) where
    abbrev left : List ℕ
    left = take a g.shape ++ drop (a + 1) g.shape

    abbrev n : ℕ
    n = get_or g.shape a 0

    abbrev row : List ℕ → List ℤ
    row t = map (λ j. number_at e bytes (place_of g (from_end a (t ++ j ∷ [])))) (count_up 0 n)

    moved_numbers : numbers_at e bytes (lanes_of g (Some a)).places ≡ flat_map row (indices left)
    moved_numbers =
        map-map (number_at e bytes) (λ t. place_of g (from_end a t)) (indices (to_end a g.shape))
        ∙ ap (λ s. map (λ t. number_at e bytes (place_of g (from_end a t))) (indices s)) (to_end_is a g.shape 0 lt)
        ∙ rows (λ t. number_at e bytes (place_of g (from_end a t))) left n

    long : (t : List ℕ) → IsIndex left t → a ≤ length t
    long t is = omega (arith, length_index left t is, length-left)
      where
        length-left : a ≤ length left
        length-left = front_fits a (take a g.shape) (drop (a + 1) g.shape) (length-take-le a g.shape (omega arith))
          where
            front_fits : (a : ℕ) (p q : List ℕ) → length p ≡ a → a ≤ length (p ++ q)
            front_fits a [] q same = omega arith
            front_fits zero (x ∷ p) q same = omega arith
            front_fits (suc a) (x ∷ p) q same = let rest = front_fits a p q (omega arith) in omega arith

    row_is : (t : List ℕ) → IsIndex left t → row t ≡ lane o (Some a) false t
    row_is t is = same_counted (λ j. number_at e bytes (place_of g (from_end a (t ++ j ∷ [])))) (λ j. number_in (content_of o (lane_tuple a false t j))) 0 n
        (λ j le below. ap (λ u. number_at e bytes (place_of g u)) (row_moved a t j (long t is))
        ∙ at_content (take a t ++ j ∷ drop a t) (inside_put a g.shape t j lt is (omega arith)))

    rows_left : lanes_in n (elements_of left) (numbers_at e bytes (lanes_of g (Some a)).places) ≡ map row (indices left)
    rows_left =
        (λ i. lanes_in n (sym (length-indices left) i) (moved_numbers i))
        ∙ lanes_are n row (λ t. length-map (count_up 0 n) (λ j. number_at e bytes (place_of g (from_end a (t ++ j ∷ [])))) ∙ length-count_up 0 n) (indices left)

    pub lanes_left : lanes_in n (elements_of left) (numbers_at e bytes (lanes_of g (Some a)).places) ≡ map (lane o (Some a) false) (indices left)
    lanes_left = rows_left ∙ same_indexes row (lane o (Some a) false) left row_is

    -- the columns of the rows, in the order of the view
    abbrev at_tuple : List ℕ → ℤ
    at_tuple u = number_at e bytes (place_of g u)

    own_numbers : numbers_at e bytes g.places ≡ map at_tuple (indices (take a g.shape ++ n ∷ drop (a + 1) g.shape))
    own_numbers =
        let at : ℕ → ℕ = λ k. get_or g.places k 0 in
        let places : map (place_of g) (indices g.shape) ≡ g.places
        = sym (map-map at (number g.shape) (indices g.shape)) ∙ ap (map at) (numbers g.shape ∙ ap (count_up 0) (sym lies.count))
        ∙ by_place 0 g.places at 0 (λ k below. let same : 0 + k ≡ k = omega arith in ap at same) in
        ap (map (number_at e bytes)) (sym places) ∙ map-map (number_at e bytes) (place_of g) (indices g.shape) ∙ ap (λ s. map at_tuple (indices s)) (split_shape a g.shape lt)

    across_is : (t : List ℕ) → IsIndex left t → row t ≡ across at_tuple (take a g.shape) (drop (a + 1) g.shape) n (take a t) (drop a t)
    across_is t is = same_counted (λ j. at_tuple (from_end a (t ++ j ∷ []))) (λ j. at_tuple (take a t ++ j ∷ drop a t)) 0 n (λ j le below. ap at_tuple (row_moved a t j (long t is)))

    length-front : length (take a g.shape) ≡ a
    length-front = length-take-le a g.shape (omega arith)

    columns_left : table_columns false (elements_of (drop (a + 1) g.shape)) n (elements_of (take a g.shape)) (numbers_at e bytes g.places)
        ≡ lanes_in n (elements_of left) (numbers_at e bytes (lanes_of g (Some a)).places)
    columns_left =
        let p : List ℕ = take a g.shape in let q : List ℕ = drop (a + 1) g.shape in
        ap (table_columns false (elements_of q) n (elements_of p)) own_numbers ∙ columns_across at_tuple p q n
        ∙ ap (λ m. map (λ t. across at_tuple p q n (take m t) (drop m t)) (indices left)) length-front
        ∙ sym (same_indexes row (λ t. across at_tuple p q n (take a t) (drop a t)) left across_is)
        ∙ sym rows_left

    -- what they are under each row
    prefix_is : (t : List ℕ) → IsIndex g.shape t → take (suc (get_or (drop a t) 0 0)) (across at_tuple (take a g.shape) (drop (a + 1) g.shape) n (take a t) (drop 1 (drop a t)))
        ≡ take (suc (get_or t a 0)) (lane o (Some a) true t)
    prefix_is t is =
        let at : get_or (drop a t) 0 0 ≡ get_or t a 0 = get_or-drop a t 0 0 ∙ ap (λ m. get_or t m 0) (let e : a + 0 ≡ a = omega arith in e) in
        let rest : drop 1 (drop a t) ≡ drop (a + 1) t = drop-drop 1 a t in
        let lane_is : map (λ j. at_tuple (take a t ++ j ∷ drop (a + 1) t)) (count_up 0 n) ≡ lane o (Some a) true t
        = same_counted (λ j. at_tuple (take a t ++ j ∷ drop (a + 1) t)) (λ j. number_in (content_of o (lane_tuple a true t j))) 0 n
        (λ j le below. at_content (take a t ++ j ∷ drop (a + 1) t) (inside_at a g.shape t j is (omega arith))) in
        (λ i. take (suc (at i)) (map (λ j. at_tuple (take a t ++ j ∷ rest i)) (count_up 0 n))) ∙ ap (take (suc (get_or t a 0))) lane_is

    pub prefixes_left : (r : Reduction) (k : Kind) → fold_bytes r k (table_columns true (elements_of (drop (a + 1) g.shape)) n (elements_of (take a g.shape)) (numbers_at e bytes g.places))
        ≡ array_bytes (One (little k)) g.shape (λ t. Num (wrap k (folded r (take (suc (get_or t a 0)) (lane o (Some a) true t)))))
    prefixes_left r k =
        let p : List ℕ = take a g.shape in let q : List ℕ = drop (a + 1) g.shape in
        let prefix : List ℕ → List ℤ = λ t. take (suc (get_or t a 0)) (lane o (Some a) true t) in
        let columns : table_columns true (elements_of q) n (elements_of p) (numbers_at e bytes g.places) ≡ map prefix (indices g.shape)
        = ap (table_columns true (elements_of q) n (elements_of p)) own_numbers ∙ prefixes_across at_tuple p q n
        ∙ (λ i. map (λ t. take (suc (get_or (drop (length-front i) t) 0 0)) (across at_tuple p q n (take (length-front i) t) (drop 1 (drop (length-front i) t)))) (indices (sym (split_shape a g.shape lt) i)))
        ∙ same_indexes (λ t. take (suc (get_or (drop a t) 0 0)) (across at_tuple p q n (take a t) (drop 1 (drop a t)))) prefix g.shape prefix_is in
        ap (fold_bytes r k) columns ∙ flat_map-map (λ zs. bytes_of (little k) (wrap k (folded r zs))) prefix (indices g.shape)
        ∙ sym (numbers_bytes (little k) g.shape (λ t. wrap k (folded r (prefix t))))

    -- an axis that is kept
    kept_lane : (t : List ℕ) → IsIndex left t → lane o (Some a) false t ≡ lane o (Some a) true (take a t ++ 0 ∷ drop a t)
    kept_lane t is = same_counted (λ j. number_in (content_of o (lane_tuple a false t j))) (λ j. number_in (content_of o (lane_tuple a true (take a t ++ 0 ∷ drop a t) j))) 0 n
        (λ j le below. ap (λ u. number_in (content_of o u)) (λ i. sym (front_put a t 0 (long t is)) i ++ j ∷ sym (behind_put a t 0 (long t is)) i))

    kept_lanes : map (lane o (Some a) false) (indices left) ≡ map (lane o (Some a) true) (indices (reduced_shape (Some a) true g.shape))
    kept_lanes =
        let front : length (take a g.shape) ≡ a = length-take-le a g.shape (omega arith) in
        same_indexes (lane o (Some a) false) (λ t. lane o (Some a) true (take a t ++ 0 ∷ drop a t)) left kept_lane
        ∙ ap (λ k. map (λ t. lane o (Some a) true (take k t ++ 0 ∷ drop k t)) (indices left)) (sym front)
        ∙ sym (kept_axis (lane o (Some a) true) (take a g.shape) (drop (a + 1) g.shape))

    pub axis_lanes : (keep : Bool) → lanes_in n (elements_of (reduced_shape (Some a) keep g.shape)) (numbers_at e bytes (lanes_of g (Some a)).places) ≡ map (lane o (Some a) keep) (indices (reduced_shape (Some a) keep g.shape))
    axis_lanes false = lanes_left
    axis_lanes true = ap (λ m. lanes_in n m (numbers_at e bytes (lanes_of g (Some a)).places)) (kept_elements a true g.shape) ∙ lanes_left ∙ kept_lanes

  -- ---- all numbers

  all_lane : (keep : Bool) → lanes_in (elements_of g.shape) (elements_of (reduced_shape None keep g.shape)) (numbers_at e bytes g.places) ≡ map (lane o None keep) (indices (reduced_shape None keep g.shape))
  all_lane keep =
      let zs : List ℤ = numbers_at e bytes g.places in
      let whole : take (elements_of g.shape) zs ≡ zs = take_all (elements_of g.shape) zs (omega (arith, length-map g.places (number_at e bytes), lies.count)) in
      ap (λ m. lanes_in (elements_of g.shape) m zs) (single_element keep g.shape)
      ∙ (λ i. (whole ∙ sym all_numbers) i ∷ [])
      ∙ sym (single_tuple (numbers_of o) keep g.shape)

  -- THE LANES, along an axis or of all
  pub lanes_same : (axis : Option ℕ) (keep : Bool) → HasAxis axis (length g.shape)
      → lanes_in (lane_length axis g.shape) (elements_of (reduced_shape axis keep g.shape)) (numbers_at e bytes (lanes_of g axis).places) ≡ map (lane o axis keep) (indices (reduced_shape axis keep g.shape))
  lanes_same None keep has = all_lane keep
  lanes_same (Some a) keep has = axis_lanes a has keep

  -- THE COLUMNS OF ROWS are the lanes across them
  pub columns_same : (axis : Option ℕ) → HasAxis axis (length g.shape) → (w m tables lanes : ℕ) → IsRowWidth axis g.shape w → 0 < w
      → m ≡ lane_length axis g.shape → lanes ≡ elements_of (reduced_shape axis false g.shape) → lanes ≡ tables * w
      → table_columns false w m tables (numbers_at e bytes g.places) ≡ lanes_in m lanes (numbers_at e bytes (lanes_of g axis).places)
  unfolding table_count
  columns_same None has w m tables lanes is some count all split = absurd is
  columns_same (Some a) has w m tables lanes is some count all split =
      let count_is : tables ≡ elements_of (take a g.shape)
      = same_factor tables (elements_of (take a g.shape)) w some (sym split ∙ all ∙ (table_count (Some a) g.shape w is).1) in
      (λ i. table_columns false (is i) (count i) (count_is i) (numbers_at e bytes g.places)) ∙ columns_left a has
      ∙ (λ i. lanes_in (sym count i) (sym all i) (numbers_at e bytes (lanes_of g (Some a)).places))

  -- what they are under each row, as the bytes of an array
  pub prefixes_same : (axis : Option ℕ) → HasAxis axis (length g.shape) → (r : Reduction) (k : Kind) (w m tables : ℕ) → IsRowWidth axis g.shape w → 0 < w
      → m ≡ lane_length axis g.shape → elements_of (reduced_shape axis false g.shape) ≡ tables * w
      → fold_bytes r k (table_columns true w m tables (numbers_at e bytes g.places)) ≡ (new_array (prefix_folds r k axis o)).1
  unfolding table_count
  prefixes_same None has r k w m tables is some count split = absurd is
  prefixes_same (Some a) has r k w m tables is some count split =
      let count_is : tables ≡ elements_of (take a g.shape)
      = same_factor tables (elements_of (take a g.shape)) w some (sym split ∙ (table_count (Some a) g.shape w is).1) in
      (λ i. fold_bytes r k (table_columns true (is i) (count i) (count_is i) (numbers_at e bytes g.places))) ∙ prefixes_left a has r k

  -- their folds as the bytes of an array
  pub folds_are : (r : Reduction) (k : Kind) (axis : Option ℕ) (keep : Bool) → HasAxis axis (length g.shape)
      → fold_bytes r k (lanes_in (lane_length axis g.shape) (elements_of (reduced_shape axis keep g.shape)) (numbers_at e bytes (lanes_of g axis).places))
      ≡ array_bytes (One (little k)) (reduced_shape axis keep g.shape) (λ t. Num (wrap k (folded r (lane o axis keep t))))
  folds_are r k axis keep has =
      let shape : List ℕ = reduced_shape axis keep g.shape in
      ap (fold_bytes r k) (lanes_same axis keep has) ∙ flat_map-map (λ zs. bytes_of (little k) (wrap k (folded r zs))) (lane o axis keep) (indices shape)
      ∙ sym (numbers_bytes (little k) shape (λ t. wrap k (folded r (lane o axis keep t))))

  -- ---- what is walked

  pub lanes_held : (axis : Option ℕ) → HasAxis axis (length g.shape) → AreHeld e bytes (lanes_of g axis).places
  lanes_held None has = held
  lanes_held (Some a) has =
      subst (λ t. All (λ p. p + item_size t ≤ length bytes) (lanes_of g (Some a)).places) one
      (taking_within (length bytes) g (to_end a g.shape) (from_end a) lies (λ t tuple. tuple_of_index g.shape (from_end a t) (inside_moved a g.shape t has (index_of_tuple (to_end a g.shape) t tuple)))).1

  pub lanes_count : (axis : Option ℕ) (keep : Bool) → HasAxis axis (length g.shape) → length (lanes_of g axis).places ≡ elements_of (reduced_shape axis keep g.shape) * lane_length axis g.shape
  lanes_count None keep has = lies.count ∙ sym (ap (λ n. n * elements_of g.shape) (single_element keep g.shape) ∙ omega arith)
  lanes_count (Some a) keep has =
      length-map (indices (to_end a g.shape)) (λ t. place_of g (from_end a t)) ∙ length-indices (to_end a g.shape)
      ∙ ap elements_of (to_end_is a g.shape 0 has) ∙ elements-append (take a g.shape ++ drop (a + 1) g.shape) (get_or g.shape a 0 ∷ [])
      ∙ by_one (elements_of (take a g.shape ++ drop (a + 1) g.shape)) (get_or g.shape a 0)
      ∙ ap (λ n. n * get_or g.shape a 0) (sym (kept_elements a keep g.shape))
    where
      by_one : (x y : ℕ) → x * (y * 1) ≡ x * y
      by_one x y = omega arith

pub results_alike : (axis : Option ℕ) (keep : Bool) (shape : List ℕ) → elements_of (reduced_shape axis keep shape) ≡ elements_of (reduced_shape axis false shape)
results_alike None keep shape = single_element keep shape
results_alike (Some a) keep shape = kept_elements a keep shape
