-- The folds of the first numbers of each lane are those of the definition.
use Rattle.std.proofs.Common.{◌≡◌, ℕ, zero, suc, ◌+◌, ◌*◌, ◌/◌, ◌<◌, ℤ, pos, true, false, List, [], ◌∷◌, ◌++◌, map, length, take, drop, get_or, Option, Some, Ok, refl, sym, ap, ◌∙◌, arith, append-nil, append_assoc}
use Rattle.std.specs.List.{flat_map}
use Rattle.std.proofs.Math.Seq.{take-append_seam}
use Rattle.std.proofs.lemmas.List.{drop_at, get_or-map, length-map, length-take-le, length_push, take_all, take_at}
use Rattle.std.proofs.lemmas.List.Folds.{flat_map-map}
use Rattle.std.proofs.lemmas.Nat.{div-mul-add}
use Rattle.nd_model.specs.Grammar.Calls.{Reduction}
use Rattle.nd_model.specs.Arrays.Content.{Num, number_at, number_in, array_bytes}
use Rattle.nd_model.specs.Arrays.Element.{Element, Kind, bytes_of, size_of, wrap}
use Rattle.nd_model.specs.Making.Elementwise.{little, operand_sort}
use Rattle.nd_model.specs.Making.Operand as operand
use Rattle.nd_model.specs.Making.Operand.{content_of, shape_of}
use Rattle.nd_model.specs.Making.Reductions as reductions
use Rattle.nd_model.specs.Making.Reductions.{accumulated_numbers, axis_in, fold_kind, folded, kind_of_sort, lane, lane_tuple, numbers_of, reduced_shape}
use Rattle.nd_model.specs.Cells.Sound.{LiesIn}
use Rattle.nd_model.specs.Arrays.Tuple.{count_up, elements_of, first_index, indices, number}
use Rattle.nd_model.specs.Arrays.View.{One, Geo, contiguous, place_of, rearranged_view}
use Rattle.nd_model.proofs.Contents.{axis_bytes, numbers_bytes}
use Rattle.nd_model.proofs.Values.{wrap_in_range, wrap_value}
use Rattle.nd_convert.specs.Conversion.Converted.{converted_bytes}
use Rattle.nd_element.specs.Elements.{numbers_at}
use Rattle.nd_view.specs.Indexes.{IsIndex}
use Rattle.nd_view.proofs.Indexed.{at_index, length-indices, same_indexes}
use Rattle.nd_view.proofs.Steps.{number-below}
use Rattle.nd_view.proofs.Tuples.{flat_map_same, get_or-count_up, length-count_up, map-map}
use Rattle.nd_shape.proofs.Ordered.{length_index}
use Rattle.nd_ufunc.proofs.loops.SideBySide.{behind}
use Rattle.nd_reduce.specs.Folds.Lanes.{lanes_in, number_bytes, prefix_bytes, prefix_folds}
use Rattle.nd_reduce.specs.Axes.LastAxis.{front_indexes, lanes_of, last_index, to_end}
use Rattle.nd_reduce.specs.Axes.Made.{array_of, array_operand}
use Rattle.nd_reduce.proofs.axes.Moved.{front_of_row, last_of_row, to_end_is}
use Rattle.nd_reduce.proofs.axes.Reduced.{all_numbers, lanes_left}
use Rattle.nd_reduce.proofs.axes.Rows.{flat_map-flat_map, rows}
use Rattle.nd_reduce.proofs.axes.Unmoved.{inside_to_end}

-- ---- lists

prefixes_by : (r : Reduction) (taken zs : List ℤ) → prefix_folds r taken zs ≡ map (λ i. folded r (take (suc i) (taken ++ zs))) (count_up (length taken) (length zs))
prefixes_by r taken [] = refl
prefixes_by r taken (z ∷ zs) =
    let more : length (taken ++ z ∷ []) ≡ suc (length taken) = omega (arith, length_push taken z) in
    let next : length (taken ++ z ∷ []) ≡ length taken + 1 = omega (arith, length_push taken z) in
    let same : (taken ++ z ∷ []) ++ zs ≡ taken ++ z ∷ zs = append_assoc taken (z ∷ []) zs in
    let here : taken ++ z ∷ [] ≡ take (suc (length taken)) (taken ++ z ∷ zs) = sym (take-append_seam (taken ++ z ∷ []) zs) ∙ (λ i. take (more i) (same i)) in
    (λ i. folded r (here i) ∷ prefix_folds r (taken ++ z ∷ []) zs)
    ∙ ap (λ l. folded r (take (suc (length taken)) (taken ++ z ∷ zs)) ∷ l) (prefixes_by r (taken ++ z ∷ []) zs
    ∙ (λ i. map (λ j. folded r (take (suc j) (same i))) (count_up (next i) (length zs))))

-- the folds of the first numbers of a lane, by how many
pub by_place : (r : Reduction) (n : ℕ) (zs : List ℤ) → length zs ≡ n → prefix_folds r [] zs ≡ map (λ i. folded r (take (suc i) zs)) (count_up 0 n)
by_place r n zs long = prefixes_by r [] zs ∙ ap (λ m. map (λ i. folded r (take (suc i) zs)) (count_up 0 m)) long

same_factor : (n m l : ℕ) → 0 < n → m * n ≡ l * n → m ≡ l
same_factor n m l some e =
    sym (div-mul-add m n 0 some) ∙ ap (λ x. x / n) (let f : m * n + 0 ≡ l * n + 0 = omega (arith, e) in f) ∙ div-mul-add l n 0 some

take_none : (n : ℕ) → take n [] ≡ let xs : List ℤ = [] in xs
take_none zero = refl
take_none (suc n) = refl

drop_none : (n : ℕ) → drop n [] ≡ let xs : List ℤ = [] in xs
drop_none zero = refl
drop_none (suc n) = refl

module _ (r : Reduction) (k : Kind) where
  no_prefixes : (n m : ℕ) → flat_map (prefix_bytes r k) (lanes_in n m []) ≡ []
  no_prefixes n zero = refl
  no_prefixes n (suc m) = (λ i. prefix_bytes r k (take_none n i) ++ flat_map (prefix_bytes r k) (lanes_in n m (drop_none n i))) ∙ no_prefixes n m

  -- where lanes have no numbers, it is the same how many there are
  pub same_prefixes : (n m l : ℕ) (zs : List ℤ) → length zs ≡ m * n → m * n ≡ l * n → flat_map (prefix_bytes r k) (lanes_in n m zs) ≡ flat_map (prefix_bytes r k) (lanes_in n l zs)
  same_prefixes n m l [] long e = no_prefixes n m ∙ sym (no_prefixes n l)
  same_prefixes zero m l (z ∷ zs) long e = absurd (omega arith)
  same_prefixes (suc n) m l (z ∷ zs) long e = ap (λ x. flat_map (prefix_bytes r k) (lanes_in (suc n) x (z ∷ zs))) (same_factor (suc n) m l (omega arith) e)

  -- the bytes of the folds of all lanes
  all_bytes : (lanes : List (List ℤ)) → flat_map (prefix_bytes r k) lanes ≡ number_bytes k (flat_map (prefix_folds r []) lanes)
  all_bytes lanes = sym (flat_map-flat_map (λ z. bytes_of (little k) (wrap k z)) (prefix_folds r []) lanes)

module _ (g : Geo) (e : Element) (bytes : List ℕ) (one : g.element ≡ One e) (lies : LiesIn (length bytes) g) (r : Reduction) (k : Kind) where
  abbrev o : operand.Operand
  o = array_operand g bytes

  -- ---- of all numbers

  pub all_prefixes : (m : ℕ) → length (numbers_at e bytes g.places) ≡ m * elements_of g.shape
      → flat_map (prefix_bytes r k) (lanes_in (elements_of g.shape) m (numbers_at e bytes g.places))
      ≡ array_bytes (One (little k)) (elements_of g.shape ∷ []) (λ t. Num (wrap k (folded r (take (suc (first_index t)) (numbers_of o)))))
  all_prefixes m many =
      let n = elements_of g.shape in let zs : List ℤ = numbers_at e bytes g.places in
      let long : length zs ≡ n = length-map g.places (number_at e bytes) ∙ lies.count in
      let single : m * n ≡ 1 * n = sym many ∙ long ∙ omega arith in
      let whole : take n zs ≡ zs = take_all n zs (omega (arith, long)) in
      same_prefixes r k n m 1 zs many single ∙ append-nil (prefix_bytes r k (take n zs)) ∙ ap (prefix_bytes r k) whole
      ∙ ap (number_bytes k) (by_place r n zs long) ∙ flat_map-map (λ z. bytes_of (little k) (wrap k z)) (λ i. folded r (take (suc i) zs)) (count_up 0 n)
      ∙ sym (axis_bytes (little k) n (λ i. wrap k (folded r (take (suc i) zs))) (λ t. wrap k (folded r (take (suc (first_index t)) zs))) (λ i. refl))
      ∙ ap (λ l. array_bytes (One (little k)) (n ∷ []) (λ t. Num (wrap k (folded r (take (suc (first_index t)) l))))) (sym (all_numbers g e bytes one lies))

  -- ---- along an axis

  module _ (a : ℕ) (lt : a < length g.shape) where
    abbrev left : List ℕ
    left = take a g.shape ++ drop (a + 1) g.shape

    abbrev n : ℕ
    n = get_or g.shape a 0

    abbrev lane_at : List ℕ → List ℤ
    lane_at t = lane o (Some a) false t

    -- the fold at an index tuple with that of the axis last
    abbrev fold_at : List ℕ → ℤ
    fold_at u = folded r (take (suc (last_index u)) (lane_at (front_indexes u)))

    long_lane : (t : List ℕ) → length (lane_at t) ≡ n
    long_lane t = length-map (count_up 0 n) (λ j. number_in (content_of o (lane_tuple a false t j))) ∙ length-count_up 0 n

    row_folds : (t : List ℕ) → prefix_folds r [] (lane_at t) ≡ map (λ j. fold_at (t ++ j ∷ [])) (count_up 0 n)
    row_folds t = by_place r n (lane_at t) (long_lane t) ∙ (λ i. map (λ j. folded r (take (suc (sym (last_of_row t j) i)) (lane_at (sym (front_of_row t j) i)))) (count_up 0 n))

    by_lanes : flat_map (prefix_folds r []) (map lane_at (indices left)) ≡ map fold_at (indices (to_end a g.shape))
    by_lanes =
        flat_map-map (prefix_folds r []) lane_at (indices left)
        ∙ flat_map_same (λ t. prefix_folds r [] (lane_at t)) (λ t. map (λ j. fold_at (t ++ j ∷ [])) (count_up 0 n)) row_folds (indices left)
        ∙ sym (rows fold_at left n) ∙ ap (λ s. map fold_at (indices s)) (sym (to_end_is a g.shape 0 lt))

    pub lane_bytes : (m : ℕ) → length (numbers_at e bytes (lanes_of g (Some a)).places) ≡ m * n → length (numbers_at e bytes (lanes_of g (Some a)).places) ≡ elements_of left * n
        → flat_map (prefix_bytes r k) (lanes_in n m (numbers_at e bytes (lanes_of g (Some a)).places)) ≡ number_bytes k (map fold_at (indices (to_end a g.shape)))
    lane_bytes m many all =
        same_prefixes r k n m (elements_of left) (numbers_at e bytes (lanes_of g (Some a)).places) many (sym many ∙ all)
        ∙ ap (flat_map (prefix_bytes r k)) (lanes_left g e bytes one lies a lt)
        ∙ all_bytes r k (map lane_at (indices left)) ∙ ap (number_bytes k) by_lanes

    -- ---- in C order

    abbrev lasts : Geo
    lasts = contiguous (One (little k)) (to_end a g.shape)

    same_tuple : (t : List ℕ) (j : ℕ) → IsIndex g.shape t → lane_tuple a false (take a t ++ drop (a + 1) t) j ≡ lane_tuple a true t j
    same_tuple t j is =
        let front : length (take a t) ≡ a = length-take-le a t (omega (arith, length_index g.shape t is)) in
        λ i. take_at (take a t) (drop (a + 1) t) a front i ++ j ∷ drop_at (take a t) (drop (a + 1) t) a front i

    fold_is : (t : List ℕ) → IsIndex g.shape t → fold_at (to_end a t) ≡ folded r (take (suc (get_or t a 0)) (lane o (Some a) true t))
    fold_is t is =
        let inside : a < length t = omega (arith, length_index g.shape t is) in let rest : List ℕ = take a t ++ drop (a + 1) t in
        ap fold_at (to_end_is a t 0 inside)
        ∙ (λ i. folded r (take (suc (last_of_row rest (get_or t a 0) i)) (lane_at (front_of_row rest (get_or t a 0) i))))
        ∙ ap (λ l. folded r (take (suc (get_or t a 0)) l)) (λ i. map (λ j. number_in (content_of o (same_tuple t j is i))) (count_up 0 n))

    read_back : (t : List ℕ) → IsIndex g.shape t → number_at (little k) (number_bytes k (map fold_at (indices (to_end a g.shape)))) (place_of lasts (to_end a t)) ≡ wrap k (fold_at (to_end a t))
    read_back t is =
        let s : List ℕ = to_end a g.shape in let size = size_of k in let B : List ℕ = number_bytes k (map fold_at (indices s)) in let j = number s (to_end a t) in
        let inside : IsIndex s (to_end a t) = inside_to_end a g.shape t is in
        let below : j < elements_of s = number-below s (to_end a t) inside in
        let counted : length (map fold_at (indices s)) ≡ elements_of s = length-map (indices s) fold_at ∙ length-indices s in
        let at : get_or (count_up 0 (elements_of s)) j 0 ≡ j = get_or-count_up 0 (elements_of s) j 0 below ∙ omega arith in
        let place : place_of lasts (to_end a t) ≡ j * size
        = get_or-map (λ i. i * size) (count_up 0 (elements_of s)) j 0 0 (omega (arith, below, length-count_up 0 (elements_of s))) ∙ ap (λ i. i * size) at in
        let read : map (λ i. number_at (little k) B (i * size)) (count_up 0 (elements_of s)) ≡ map (λ u. wrap k (fold_at u)) (indices s)
        = ap (λ m. map (λ i. number_at (little k) B (i * size)) (count_up 0 m)) (sym counted) ∙ behind (little k) (wrap k) (wrap_in_range k) [] (map fold_at (indices s)) 0 (omega arith) ∙ map-map (wrap k) fold_at (indices s) in
        ap (number_at (little k) B) (place ∙ ap (λ i. i * size) (sym at))
        ∙ sym (get_or-map (λ i. number_at (little k) B (i * size)) (count_up 0 (elements_of s)) j 0 (pos 0) (omega (arith, below, length-count_up 0 (elements_of s))))
        ∙ ap (λ l. get_or l j (pos 0)) read ∙ at_index (λ u. wrap k (fold_at u)) s (to_end a t) (pos 0) inside

    pub in_c_order : converted_bytes (little k) (little k) (number_bytes k (map fold_at (indices (to_end a g.shape)))) (rearranged_view lasts g.shape (to_end a)).places
        ≡ array_bytes (One (little k)) g.shape (λ t. Num (wrap k (folded r (take (suc (get_or t a 0)) (lane o (Some a) true t)))))
    in_c_order =
        let B : List ℕ = number_bytes k (map fold_at (indices (to_end a g.shape))) in
        flat_map-map (λ p. bytes_of (little k) (wrap k (number_at (little k) B p))) (λ t. place_of lasts (to_end a t)) (indices g.shape)
        ∙ sym (flat_map-map (bytes_of (little k)) (λ t. wrap k (number_at (little k) B (place_of lasts (to_end a t)))) (indices g.shape))
        ∙ ap (flat_map (bytes_of (little k))) (same_indexes (λ t. wrap k (number_at (little k) B (place_of lasts (to_end a t)))) (λ t. wrap k (folded r (take (suc (get_or t a 0)) (lane o (Some a) true t)))) g.shape
        (λ t is. ap (wrap k) (read_back t is) ∙ wrap_value k (wrap k (fold_at (to_end a t))) (wrap_in_range k (fold_at (to_end a t))) ∙ ap (wrap k) (fold_is t is)))
        ∙ flat_map-map (bytes_of (little k)) (λ t. wrap k (folded r (take (suc (get_or t a 0)) (lane o (Some a) true t)))) (indices g.shape)
        ∙ sym (numbers_bytes (little k) g.shape (λ t. wrap k (folded r (take (suc (get_or t a 0)) (lane o (Some a) true t)))))

-- ---- what an accumulation comes to

pub is_accumulated : (r : Reduction) (axis : Option ℤ) (o : operand.Operand) (k : Kind) (a : Option ℕ) → kind_of_sort (operand_sort o) ≡ Ok k → axis_in (length (shape_of o)) axis ≡ Ok a
    → (view : Geo) (block : List ℕ) → view ≡ contiguous (One (little (reductions.prefix_folds r (fold_kind r k) a o).kind)) (reductions.prefix_folds r (fold_kind r k) a o).shape
    → block ≡ array_bytes (One (little (reductions.prefix_folds r (fold_kind r k) a o).kind)) (reductions.prefix_folds r (fold_kind r k) a o).shape (λ t. Num ((reductions.prefix_folds r (fold_kind r k) a o).number t))
    → array_of (accumulated_numbers r axis o) ≡ Ok (view, block)
is_accumulated r axis o k a kind_is axis_is view block view_is bytes = rw (kind_is, axis_is) (λ i. Ok (sym view_is i, sym bytes i))
