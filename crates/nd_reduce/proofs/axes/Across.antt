-- The columns of rows that stand one under another are the lanes across them.
use Rattle.std.proofs.Common.{◌≡◌, ℕ, zero, suc, ◌+◌, ◌*◌, ◌<◌, ◌≤◌, ℤ, pos, Bool, true, false, List, [], ◌∷◌, ◌++◌, map, length, get_or, take, drop, replicate, refl, sym, ap, ◌∙◌, arith, append_assoc, append-nil, length-append}
use Rattle.std.specs.Prelude.{if◌then◌else◌}
use Rattle.std.specs.List.{flat_map}
use Rattle.std.proofs.Math.Seq.{take-suc}
use Rattle.std.proofs.lemmas.List.{get_or-map, length-map, take_all, take_at, drop_at, take-append-drop}
use Rattle.std.proofs.lemmas.List.Folds.{flat_map-map}
use Rattle.nd_model.specs.Arrays.Tuple.{count_up, elements_of, indices}
use Rattle.nd_model.proofs.Tuples.{length-indices}
use Rattle.nd_view.proofs.Tuples.{get_or-count_up, length-count_up, map-map, map-flat_map, map_same, flat_map_same}
use Rattle.nd_reduce.specs.Axes.Tables.{more_columns, row_columns, table_columns}
use Rattle.nd_reduce.proofs.axes.Rows.{flat_map-flat_map}

columns_of_maps : {A : Type 0} (f : A → List ℤ) (g : A → ℤ) (xs : List A) → more_columns (map f xs) (map g xs) ≡ map (λ x. f x ++ g x ∷ []) xs
columns_of_maps f g [] = refl
columns_of_maps f g (x ∷ xs) = ap (λ l. (f x ++ g x ∷ []) ∷ l) (columns_of_maps f g xs)

empties : {A : Type 0} (xs : List A) → replicate (length xs) (let none : List ℤ = [] in none) ≡ map (λ x. []) xs
empties [] = refl
empties (x ∷ xs) = ap (λ l. [] ∷ l) (empties xs)

-- rows of what functions give for the same items
module _ {A : Type 0} (ts : List A) (n : ℕ) (long : length ts ≡ n) (all : ℕ) (each : Bool) where
  abbrev table : (ℕ → A → ℤ) → ℕ → ℕ → List ℤ
  table f from rows = flat_map (λ j. map (f j) ts) (count_up from rows)

  -- the whole column of an item
  abbrev column : (ℕ → A → ℤ) → A → List ℤ
  column f t = map (λ j. f j t) (count_up 0 all)

  -- the columns under each row from one on, or under the last one alone
  abbrev under : (ℕ → A → ℤ) → ℕ → ℕ → List (List ℤ)
  under f from rows = if each then flat_map (λ i. map (λ t. take (suc i) (column f t)) ts) (count_up from rows) else map (λ t. take (from + rows) (column f t)) ts

  length-table : (f : ℕ → A → ℤ) (from rows : ℕ) → length (table f from rows) ≡ rows * n
  length-table f from zero = omega arith
  length-table f from (suc rows) = omega (arith, length-append (map (f from) ts) (table f (from + 1) rows), length-map ts (f from), long, length-table f (from + 1) rows)

  one_more : (f : ℕ → A → ℤ) (k : ℕ) → k < all → (t : A) → take k (column f t) ++ f k t ∷ [] ≡ take (suc k) (column f t)
  one_more f k lt t =
      let counted : length (count_up 0 all) ≡ all = length-count_up 0 all in
      let whole : length (column f t) ≡ all = length-map (count_up 0 all) (λ j. f j t) ∙ counted in
      let at : get_or (count_up 0 all) k 0 ≡ k = get_or-count_up 0 all k 0 lt ∙ omega arith in
      let here : get_or (column f t) k (pos 0) ≡ f k t = get_or-map (λ j. f j t) (count_up 0 all) k 0 (pos 0) (omega (arith, lt, counted)) ∙ ap (λ j. f j t) at in
      ap (λ z. take k (column f t) ++ z ∷ []) (sym here) ∙ sym (take-suc (column f t) k (pos 0) (omega (arith, lt, whole)))

  next_under : (f : ℕ → A → ℤ) (from rows : ℕ) → (if each then map (λ t. take (suc from) (column f t)) ts else []) ++ under f (from + 1) rows ≡ under f from (suc rows)
  next_under f from rows = by_case each
    where
      by_case : (b : Bool) → (if b then map (λ t. take (suc from) (column f t)) ts else [])
          ++ (if b then flat_map (λ i. map (λ t. take (suc i) (column f t)) ts) (count_up (from + 1) rows) else map (λ t. take (from + 1 + rows) (column f t)) ts)
          ≡ (if b then flat_map (λ i. map (λ t. take (suc i) (column f t)) ts) (count_up from (suc rows)) else map (λ t. take (from + suc rows) (column f t)) ts)
      by_case true = refl
      by_case false = let e : from + 1 + rows ≡ from + suc rows = omega arith in ap (λ m. map (λ t. take m (column f t)) ts) e

  none_under : (f : ℕ → A → ℤ) (from : ℕ) → (if each then [] else map (λ t. take from (column f t)) ts) ≡ under f from zero
  none_under f from = by_case each
    where
      by_case : (b : Bool) → (if b then [] else map (λ t. take from (column f t)) ts) ≡ (if b then [] else map (λ t. take (from + 0) (column f t)) ts)
      by_case true = refl
      by_case false = let e : from ≡ from + 0 = omega arith in ap (λ m. map (λ t. take m (column f t)) ts) e

  rows_are : (f : ℕ → A → ℤ) (from rows : ℕ) (rest : List ℤ) → from + rows ≤ all → row_columns each n rows (map (λ t. take from (column f t)) ts) (table f from rows ++ rest) ≡ under f from rows
  rows_are f from zero rest le = none_under f from
  rows_are f from (suc rows) rest le =
      let row : List ℤ = map (f from) ts in let more : List ℤ = table f (from + 1) rows ++ rest in let next : suc from ≡ from + 1 = omega arith in
      let before : List (List ℤ) = map (λ t. take from (column f t)) ts in let now : List (List ℤ) = map (λ t. take (suc from) (column f t)) ts in
      let size : length row ≡ n = length-map ts (f from) ∙ long in
      let split : (row ++ table f (from + 1) rows) ++ rest ≡ row ++ more = append_assoc row (table f (from + 1) rows) rest in
      let taken : more_columns before (take n (row ++ more)) ≡ now
      = ap (more_columns before) (take_at row more n size) ∙ columns_of_maps (λ t. take from (column f t)) (f from) ts
      ∙ map_same (λ t. take from (column f t) ++ f from t ∷ []) (λ t. take (suc from) (column f t)) (one_more f from (omega arith)) ts in
      (λ i. (if each then more_columns before (take n (split i)) else []) ++ row_columns each n rows (more_columns before (take n (split i))) (drop n (split i)))
      ∙ (λ i. (if each then taken i else []) ++ row_columns each n rows (taken i) (drop_at row more n size i))
      ∙ ap (λ m. (if each then now else []) ++ row_columns each n rows (map (λ t. take m (column f t)) ts) more) next
      ∙ ap (λ l. (if each then now else []) ++ l) (rows_are f (from + 1) rows rest (omega arith))
      ∙ next_under f from rows

  pub tables_are : {B : Type 0} (f : B → ℕ → A → ℤ) (bs : List B) → table_columns each n all (length bs) (flat_map (λ b. table (f b) 0 all) bs) ≡ flat_map (λ b. under (f b) 0 all) bs
  tables_are f [] = refl
  tables_are f (b ∷ bs) =
      let one : List ℤ = table (f b) 0 all in let rest : List ℤ = flat_map (λ c. table (f c) 0 all) bs in
      let none : replicate n [] ≡ map (λ t. take 0 (column (f b) t)) ts = ap (λ m. replicate m []) (sym long) ∙ empties ts in
      (λ i. row_columns each n all (none i) (one ++ rest) ++ table_columns each n all (length bs) (drop_at one rest (all * n) (length-table (f b) 0 all) i))
      ∙ (λ i. rows_are (f b) 0 all rest (omega arith) i ++ tables_are f bs i)

-- what is at the tuples of a shape, by their first indexes and those behind
parted : {X : Type 0} (h : List ℕ → List ℕ → X) (p q : List ℕ) → map (λ t. h (take (length p) t) (drop (length p) t)) (indices (p ++ q)) ≡ flat_map (λ b. map (h b) (indices q)) (indices p)
parted h [] q = sym (append-nil (map (h []) (indices q)))
parted h (m ∷ p) q =
    let k : ℕ = length p in
    map-flat_map (λ t. h (take (suc k) t) (drop (suc k) t)) (λ i. map (λ t. i ∷ t) (indices (p ++ q))) (count_up 0 m)
    ∙ flat_map_same (λ i. map (λ t. h (take (suc k) t) (drop (suc k) t)) (map (λ t. i ∷ t) (indices (p ++ q)))) (λ i. flat_map (λ b. map (h (i ∷ b)) (indices q)) (indices p))
    (λ i. map-map (λ t. h (take (suc k) t) (drop (suc k) t)) (λ t. i ∷ t) (indices (p ++ q)) ∙ parted (λ b. h (i ∷ b)) p q) (count_up 0 m)
    ∙ sym (flat_map-flat_map (λ b. map (h b) (indices q)) (λ i. map (λ b. i ∷ b) (indices p)) (count_up 0 m)
    ∙ flat_map_same (λ i. flat_map (λ b. map (h b) (indices q)) (map (λ b. i ∷ b) (indices p))) (λ i. flat_map (λ b. map (h (i ∷ b)) (indices q)) (indices p))
    (λ i. flat_map-map (λ b. map (h b) (indices q)) (λ b. i ∷ b) (indices p)) (count_up 0 m))

-- by the first of those behind, too
behind_first : {X : Type 0} (h : List ℕ → X) (n : ℕ) (q : List ℕ) → map h (indices (n ∷ q)) ≡ flat_map (λ j. map (λ u. h (j ∷ u)) (indices q)) (count_up 0 n)
behind_first h n q =
    map-flat_map h (λ j. map (λ u. j ∷ u) (indices q)) (count_up 0 n)
    ∙ flat_map_same (λ j. map h (map (λ u. j ∷ u) (indices q))) (λ j. map (λ u. h (j ∷ u)) (indices q)) (λ j. map-map h (λ u. j ∷ u) (indices q)) (count_up 0 n)

module _ (f : List ℕ → ℤ) (p q : List ℕ) (n : ℕ) where
  -- what is across at the indexes before an axis and those behind it
  abbrev pub across : List ℕ → List ℕ → List ℤ
  across b u = map (λ j. f (b ++ j ∷ u)) (count_up 0 n)

  by_tables : (each : Bool) → table_columns each (elements_of q) n (elements_of p) (map f (indices (p ++ n ∷ q)))
      ≡ flat_map (λ b. if each then flat_map (λ i. map (λ u. take (suc i) (across b u)) (indices q)) (count_up 0 n) else map (λ u. take n (across b u)) (indices q)) (indices p)
  by_tables each =
      let numbers : map f (indices (p ++ n ∷ q)) ≡ flat_map (λ b. flat_map (λ j. map (λ u. f (b ++ j ∷ u)) (indices q)) (count_up 0 n)) (indices p)
      = sym (map_same (λ t. f (take (length p) t ++ drop (length p) t)) f (λ t. ap f (take-append-drop (length p) t)) (indices (p ++ n ∷ q)))
      ∙ parted (λ b u. f (b ++ u)) p (n ∷ q)
      ∙ flat_map_same (λ b. map (λ u. f (b ++ u)) (indices (n ∷ q))) (λ b. flat_map (λ j. map (λ u. f (b ++ j ∷ u)) (indices q)) (count_up 0 n))
      (λ b. behind_first (λ u. f (b ++ u)) n q) (indices p) in
      let none : 0 + n ≡ n = omega arith in
      (λ i. table_columns each (elements_of q) n (sym (length-indices p) i) (numbers i))
      ∙ tables_are (indices q) (elements_of q) (length-indices q) n each (λ b j u. f (b ++ j ∷ u)) (indices p)
      ∙ ap (λ m. flat_map (λ b. if each then flat_map (λ i. map (λ u. take (suc i) (across b u)) (indices q)) (count_up 0 n) else map (λ u. take m (across b u)) (indices q)) (indices p)) none

  -- THE COLUMNS of what is at the tuples of a shape, along the axis behind the first ones
  pub columns_across : table_columns false (elements_of q) n (elements_of p) (map f (indices (p ++ n ∷ q))) ≡ map (λ t. across (take (length p) t) (drop (length p) t)) (indices (p ++ q))
  columns_across =
      let whole : (b u : List ℕ) → take n (across b u) ≡ across b u
      = λ b u. take_all n (across b u) (omega (arith, length-map (count_up 0 n) (λ j. f (b ++ j ∷ u)), length-count_up 0 n)) in
      by_tables false ∙ flat_map_same (λ b. map (λ u. take n (across b u)) (indices q)) (λ b. map (across b) (indices q)) (λ b. map_same (λ u. take n (across b u)) (across b) (whole b) (indices q)) (indices p)
      ∙ sym (parted across p q)

  -- and what they are under each row
  pub prefixes_across : table_columns true (elements_of q) n (elements_of p) (map f (indices (p ++ n ∷ q)))
      ≡ map (λ t. take (suc (get_or (drop (length p) t) 0 0)) (across (take (length p) t) (drop 1 (drop (length p) t)))) (indices (p ++ n ∷ q))
  prefixes_across =
      by_tables true
      ∙ sym (parted (λ b w. take (suc (get_or w 0 0)) (across b (drop 1 w))) p (n ∷ q)
      ∙ flat_map_same (λ b. map (λ w. take (suc (get_or w 0 0)) (across b (drop 1 w))) (indices (n ∷ q))) (λ b. flat_map (λ i. map (λ u. take (suc i) (across b u)) (indices q)) (count_up 0 n))
      (λ b. behind_first (λ w. take (suc (get_or w 0 0)) (across b (drop 1 w))) n q) (indices p))
