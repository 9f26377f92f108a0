-- The elements of two axes, row by row: what is so of all of them is so of each, and the views that they are.
use Rattle.std.proofs.Common.{◌≡◌, ℕ, ℤ, pos, negsuc, ◌+ℤ◌, ◌*ℤ◌, zero, suc, false, append-nil, ◌+◌, ◌*◌, ◌<◌, ◌≤◌, ◌≤ℤ◌, List, [], ◌∷◌, ◌++◌, map, length, get_or, refl, sym, ap, ◌∙◌, subst, inl, inr, arith}
use Rattle.std.specs.List.{All, flat_map}
use Rattle.std.specs.Prelude.{int_lt, unsigned_abs}
use Rattle.std.proofs.lemmas.Bool.{cases_lt}
use Rattle.std.proofs.lemmas.Int.{ints}
use Rattle.std.proofs.lemmas.List.{length-map, get_or-map, map-append}
use Rattle.std.proofs.lemmas.List.Concat.{flat_map_single}
use Rattle.std.proofs.lemmas.List.Elements.{All-nil, All-append, All-map}
use Rattle.nd_model.specs.Arrays.Runs.{spot_at, run_places, AreWithin}
use Rattle.nd_model.specs.Arrays.Strides.{way_to, place_at, places_by}
use Rattle.nd_model.specs.Arrays.Tuple.{count_up, indices}
use Rattle.nd_view.proofs.ByRuns.{in_run, behind_run}
use Rattle.nd_view.proofs.Tuples.{map-map, map-flat_map, map_same, flat_map_same, length-count_up, count_up_more, get_or-count_up, shifted as count_shifted}
use Rattle.nd_view.proofs.InOrder.{flat_map-map}
use Rattle.nd_assign.specs.Grids.{grid_place}

-- ---- the first n columns of some rows, where P is the place in each row and column

abbrev pub first_columns : (P : ℕ → ℕ → ℕ) (n : ℕ) (rows : List ℕ) → List ℕ
first_columns P n rows = flat_map (λ i. map (P i) (count_up 0 n)) rows

pub no_columns : (P : ℕ → ℕ → ℕ) (rows : List ℕ) → first_columns P 0 rows ≡ []
no_columns P [] = refl
no_columns P (i ∷ rows) = no_columns P rows

pub one_longer : (f : ℕ → ℕ) (n : ℕ) → map f (count_up 0 (n + 1)) ≡ map f (count_up 0 n) ++ f n ∷ []
one_longer f n =
    let none : 0 + n ≡ n = omega arith in
    ap (map f) (count_up_more 0 n) ∙ map-append f (count_up 0 n) ((0 + n) ∷ []) ∙ ap (λ k. map f (count_up 0 n) ++ f k ∷ []) none

module _ (R : ℕ → Type 0) (P : ℕ → ℕ → ℕ) (n : ℕ) where
  pub all_of_rows : (from r : ℕ) → ((i j : ℕ) → from ≤ i → i < from + r → j < n → R (P i j)) → All R (first_columns P n (count_up from r))
  all_of_rows from zero each = All-nil R
  all_of_rows from (suc r) each =
      All-append R (map (P from) (count_up 0 n)) (first_columns P n (count_up (from + 1) r))
      (All-map R (P from) (count_up 0 n) (λ k d lt.
      let few : k < n = omega (arith, lt, length-count_up 0 n) in
      let at : get_or (count_up 0 n) k d ≡ k = get_or-count_up 0 n k d few ∙ omega arith in
      subst (λ j. R (P from j)) (sym at) (each from k (omega arith) (omega arith) few)))
      (all_of_rows (from + 1) r (λ i j low high lt. each i j (omega arith) (omega arith) lt))

  pub of_rows : (from r : ℕ) → All R (first_columns P n (count_up from r)) → (i j : ℕ) → from ≤ i → i < from + r → j < n → R (P i j)
  of_rows from zero all i j low high lt = absurd (omega arith)
  of_rows from (suc r) all i j low high lt =
      let row : List ℕ = map (P from) (count_up 0 n) in let rest : List ℕ = first_columns P n (count_up (from + 1) r) in
      elim (cases_lt from i) [
        | inl further ↦ of_rows (from + 1) r (behind_run R row rest (row ++ rest) refl all) i j (omega arith) (omega arith) lt
        | inr here ↦
            let same : from ≡ i = omega arith in
            let inside : j < length (count_up 0 n) = omega (arith, length-count_up 0 n, lt) in
            let at : get_or row j 0 ≡ P from j = get_or-map (P from) (count_up 0 n) j 0 0 inside ∙ ap (P from) (get_or-count_up 0 n j 0 lt ∙ omega arith) in
            let long : j < length row = omega (arith, length-map (count_up 0 n) (P from), inside) in
            subst (λ k. R (P k j)) same (subst R at (in_run R row rest (row ++ rest) refl all j 0 long))
      ]

-- ---- grids

spot_is : (start step i : ℕ) → spot_at start (pos step) i ≡ start + i * step
spot_is start step i = omega (arith, ints)

low : (n : ℕ) → pos 0 ≤ℤ pos n
low n = omega (arith, ints)

module _ (start across along : ℕ) where
  -- a column is a run
  pub column_is : (rows n : ℕ) → run_places (start + n * along) (pos across) rows ≡ map (λ i. grid_place start across along i n) (count_up 0 rows)
  column_is rows n = map_same (spot_at (start + n * along) (pos across)) (λ i. grid_place start across along i n) (λ i. spot_is (start + n * along) across i ∙ omega arith) (count_up 0 rows)

  -- the elements of a column lie within len bytes where those of the grid do
  pub column_within : (rows columns n size len : ℕ) → All (λ p. p + size ≤ len) (first_columns (grid_place start across along) columns (count_up 0 rows)) → n < columns
      → AreWithin (start + n * along) (pos across) size rows len
  column_within rows columns n size len all lt k few =
      let here : grid_place start across along k n + size ≤ len = of_rows (λ p. p + size ≤ len) (grid_place start across along) columns 0 rows all k n (omega arith) (omega arith) lt in
      (low ((start + n * along) + k * across), omega (arith, here, spot_is (start + n * along) across k))

  shifted : (first row column : ℕ) → grid_place (start + first * across) across along row column ≡ grid_place start across along (first + row) column
  shifted first row column = let e : (first + row) * across ≡ first * across + row * across = omega arith in omega (arith, e)

  -- rows of a grid are a grid
  pub part_is : (columns first count : ℕ) → first_columns (grid_place (start + first * across) across along) columns (count_up 0 count) ≡ first_columns (grid_place start across along) columns (count_up first count)
  part_is columns first count =
      flat_map_same (λ i. map (grid_place (start + first * across) across along i) (count_up 0 columns)) (λ i. map (grid_place start across along (first + i)) (count_up 0 columns))
      (λ i. map_same (grid_place (start + first * across) across along i) (grid_place start across along (first + i)) (shifted first i) (count_up 0 columns)) (count_up 0 count)
      ∙ sym (flat_map-map (λ i. map (grid_place start across along i) (count_up 0 columns)) (λ i. first + i) (count_up 0 count))
      ∙ ap (first_columns (grid_place start across along) columns) (counted first count)
    where
      counted : (first count : ℕ) → map (λ i. first + i) (count_up 0 count) ≡ count_up first count
      counted first count = let e : first + 0 ≡ first = omega arith in count_shifted first 0 count ∙ ap (λ k. count_up k count) e

  -- what is so of the elements of a grid is so of those of some rows
  pub all_of_part : (R : ℕ → Type 0) (rows columns first count : ℕ) → first + count ≤ rows → All R (first_columns (grid_place start across along) columns (count_up 0 rows))
      → All R (first_columns (grid_place (start + first * across) across along) columns (count_up 0 count))
  all_of_part R rows columns first count inside all =
      all_of_rows R (grid_place (start + first * across) across along) columns 0 count (λ i j low high lt.
      subst R (sym (shifted first i j)) (of_rows R (grid_place start across along) columns 0 rows all (first + i) j (omega arith) (omega arith) lt))

  -- a view of two axes
  pub two_axes : (rows columns : ℕ) → places_by start (pos across ∷ pos along ∷ []) (rows ∷ columns ∷ []) ≡ first_columns (grid_place start across along) columns (count_up 0 rows)
  two_axes rows columns =
      let f : List ℕ → ℕ = place_at start (pos across ∷ pos along ∷ []) in
      map-flat_map f (λ i. map (λ t. i ∷ t) (indices (columns ∷ []))) (count_up 0 rows)
      ∙ flat_map_same (λ i. map f (map (λ t. i ∷ t) (indices (columns ∷ [])))) (λ i. map (grid_place start across along i) (count_up 0 columns)) (λ i.
      ap (λ ts. map f (map (λ t. i ∷ t) ts)) (flat_map_single (λ j. j ∷ []) (count_up 0 columns))
      ∙ ap (map f) (map-map (λ t. i ∷ t) (λ j. j ∷ []) (count_up 0 columns))
      ∙ map-map f (λ j. i ∷ j ∷ []) (count_up 0 columns)
      ∙ map_same (λ j. f (i ∷ j ∷ [])) (grid_place start across along i) (λ j. omega (arith, ints)) (count_up 0 columns)) (count_up 0 rows)

-- ---- stacks

one_of : (F : ℕ → List ℕ) → flat_map F (count_up 0 1) ≡ F 0
one_of F = append-nil (F 0)

-- a view of three axes
pub three_axes : (start jump across along count rows columns : ℕ) → places_by start (pos jump ∷ pos across ∷ pos along ∷ []) (count ∷ rows ∷ columns ∷ [])
    ≡ flat_map (λ k. first_columns (grid_place (start + k * jump) across along) columns (count_up 0 rows)) (count_up 0 count)
three_axes start jump across along count rows columns =
    let f : List ℕ → ℕ = place_at start (pos jump ∷ pos across ∷ pos along ∷ []) in let shape : List ℕ = rows ∷ columns ∷ [] in
    map-flat_map f (λ k. map (λ t. k ∷ t) (indices shape)) (count_up 0 count)
    ∙ flat_map_same (λ k. map f (map (λ t. k ∷ t) (indices shape))) (λ k. first_columns (grid_place (start + k * jump) across along) columns (count_up 0 rows)) (λ k.
    map-map f (λ t. k ∷ t) (indices shape)
    ∙ map_same (λ t. f (k ∷ t)) (place_at (start + k * jump) (pos across ∷ pos along ∷ [])) (λ t. ap unsigned_abs (further k (way_to t (pos across ∷ pos along ∷ [])))) (indices shape)
    ∙ two_axes (start + k * jump) across along rows columns) (count_up 0 count)
  where
    further : (k : ℕ) (w : ℤ) → pos start +ℤ ((pos k *ℤ pos jump) +ℤ w) ≡ pos (start + k * jump) +ℤ w
    further k w = omega (arith, ints)

two : {A : Type 0} (d : A) (xs : List A) → length xs ≡ 2 → xs ≡ get_or xs 0 d ∷ get_or xs 1 d ∷ []
two d [] e = absurd (omega (arith, e))
two d (x ∷ []) e = absurd (omega (arith, e))
two d (x ∷ y ∷ []) e = refl
two d (x ∷ y ∷ z ∷ xs) e = absurd (omega (arith, e))

three : {A : Type 0} (d : A) (xs : List A) → length xs ≡ 3 → xs ≡ get_or xs 0 d ∷ get_or xs 1 d ∷ get_or xs 2 d ∷ []
three d [] e = absurd (omega (arith, e))
three d (x ∷ []) e = absurd (omega (arith, e))
three d (x ∷ y ∷ []) e = absurd (omega (arith, e))
three d (x ∷ y ∷ z ∷ []) e = refl
three d (x ∷ y ∷ z ∷ w ∷ xs) e = absurd (omega (arith, e))

-- views whose strides are not negative, by shape and strides
module _ (places shape : List ℕ) (strides : List ℤ) (start : ℕ) (are : places ≡ places_by start strides shape) where
  pub grid_is : (across along : ℕ) → length shape ≡ 2 → length strides ≡ 2 → get_or strides 0 (pos 0) ≡ pos across → get_or strides 1 (pos 0) ≡ pos along
      → places ≡ flat_map (λ k. first_columns (grid_place (start + k * 0) across along) (get_or shape 1 0) (count_up 0 (get_or shape 0 0))) (count_up 0 1)
  grid_is across along axes steps a b =
      let none : start ≡ start + 0 * 0 = omega arith in
      are
      ∙ (λ i. places_by start (two (pos 0) strides steps i) (two 0 shape axes i))
      ∙ (λ i. places_by (none i) (a i ∷ b i ∷ []) (get_or shape 0 0 ∷ get_or shape 1 0 ∷ []))
      ∙ two_axes (start + 0 * 0) across along (get_or shape 0 0) (get_or shape 1 0)
      ∙ sym (one_of (λ k. first_columns (grid_place (start + k * 0) across along) (get_or shape 1 0) (count_up 0 (get_or shape 0 0))))

  pub grids_are : (jump across along : ℕ) → length shape ≡ 3 → length strides ≡ 3
      → get_or strides 0 (pos 0) ≡ pos jump → get_or strides 1 (pos 0) ≡ pos across → get_or strides 2 (pos 0) ≡ pos along
      → places ≡ flat_map (λ k. first_columns (grid_place (start + k * jump) across along) (get_or shape 2 0) (count_up 0 (get_or shape 1 0))) (count_up 0 (get_or shape 0 0))
  grids_are jump across along axes steps a b d =
      are
      ∙ (λ i. places_by start (three (pos 0) strides steps i) (three 0 shape axes i))
      ∙ (λ i. places_by start (a i ∷ b i ∷ d i ∷ []) (get_or shape 0 0 ∷ get_or shape 1 0 ∷ get_or shape 2 0 ∷ []))
      ∙ three_axes start jump across along (get_or shape 0 0) (get_or shape 1 0) (get_or shape 2 0)

-- a stride that is not negative, as the code reads it
not_negative : (z : ℤ) → int_lt z (pos 0) ≡ false → pos (unsigned_abs z) ≡ z
not_negative (pos n) e = refl
not_negative (negsuc n) e = cc

pub stride_is : (z held : ℤ) → held ≡ z → int_lt held (pos 0) ≡ false → z ≡ pos (unsigned_abs held)
stride_is z held same e = sym same ∙ sym (not_negative held e)

-- what is so of all lists together is so of each
pub in_each : (R : ℕ → Type 0) (F : ℕ → List ℕ) (from r : ℕ) → All R (flat_map F (count_up from r)) → (k : ℕ) → from ≤ k → k < from + r → All R (F k)
in_each R F from zero all k low high = absurd (omega arith)
in_each R F from (suc r) all k low high =
    let rest : List ℕ = flat_map F (count_up (from + 1) r) in
    elim (cases_lt from k) [
      | inl further ↦ in_each R F (from + 1) r (behind_run R (F from) rest (F from ++ rest) refl all) k (omega arith) (omega arith)
      | inr here ↦ let same : from ≡ k = omega arith in subst (λ n. All R (F n)) same (in_run R (F from) rest (F from ++ rest) refl all)
    ]
