-- The bytes of the folds of columns, with a row more.
use Rattle.std.proofs.Common.{◌≡◌, ℕ, zero, suc, ◌+◌, ◌-◌, ◌*◌, ◌<◌, ◌≤◌, ℤ, pos, Bool, true, false, not, Option, Some, None, List, [], ◌∷◌, ◌++◌, map, length, get_or, take, drop, replicate, refl, sym, ap, ◌∙◌, arith, append-nil, length-append, length-drop}
use Rattle.std.specs.Prelude.{if◌then◌else◌}
use Rattle.std.specs.List.{All}
use Rattle.std.proofs.Math.Nat.{mul-le-mul_right}
use Rattle.std.proofs.lemmas.Grind.{flat_map-append}
use Rattle.std.proofs.lemmas.List.{drop_at, get_or-map, length-take-le, length_push, take_at, take_more, take-append-drop}
use Rattle.std.proofs.lemmas.List.Elements.{All-cons, All-drop, All-head, All-nil, All-push, All-replicate, All-tail, All-take}
use Rattle.nd_model.specs.Grammar.Calls.{Reduction}
use Rattle.nd_model.specs.Arrays.Content.{number_at}
use Rattle.nd_model.specs.Arrays.Element.{Kind, IsValue, bytes_of, size_of, wrap}
use Rattle.nd_model.specs.Making.Elementwise.{little}
use Rattle.nd_model.specs.Making.Reductions.{folded}
use Rattle.nd_model.specs.Arrays.Tuple.{count_up}
use Rattle.nd_model.proofs.Values.{length-bytes_of, wrap_in_range}
use Rattle.nd_view.proofs.Tuples.{get_or-count_up, length-count_up}
use Rattle.nd_ufunc.specs.Loops.Sides.{number_on, numbers_on}
use Rattle.nd_ufunc.specs.declared.loops.kernel.Side.{Side}
use Rattle.nd_ufunc.proofs.loops.SideBySide.{behind}
use Rattle.nd_reduce.specs.Folds.Lanes.{fold_bytes}
use Rattle.nd_reduce.specs.Axes.Tables.{AreFolds, HasBest, HasBests, more_columns, row_columns, table_columns}
use Rattle.nd_reduce.proofs.folds.Taken.{length-numbers, next_on}

-- ---- columns

pub columns-append : (cs ds : List (List ℤ)) (xs ys : List ℤ) → length cs ≡ length xs → more_columns (cs ++ ds) (xs ++ ys) ≡ more_columns cs xs ++ more_columns ds ys
columns-append [] ds [] ys same = refl
columns-append [] ds (x ∷ xs) ys same = absurd (omega arith)
columns-append (c ∷ cs) ds [] ys same = absurd (omega arith)
columns-append (c ∷ cs) ds (x ∷ xs) ys same = ap (λ l. (c ++ x ∷ []) ∷ l) (columns-append cs ds xs ys (omega arith))

pub length-columns : (cs : List (List ℤ)) (xs : List ℤ) → length cs ≡ length xs → length (more_columns cs xs) ≡ length cs
length-columns [] xs same = refl
length-columns (c ∷ cs) [] same = absurd (omega arith)
length-columns (c ∷ cs) (x ∷ xs) same = ap suc (length-columns cs xs (omega arith))

-- with one number more of a side
pub column_more : (columns : List (List ℤ)) (s : Side) (k : ℕ) → k < length columns
    → more_columns (take (k + 1) columns) (numbers_on s (k + 1)) ≡ more_columns (take k columns) (numbers_on s k) ++ (get_or columns k [] ++ number_on s k ∷ []) ∷ []
column_more columns s k lt =
    let same : length (take k columns) ≡ length (numbers_on s k) = length-take-le k columns (omega arith) ∙ sym (length-numbers s k) in
    (λ i. more_columns (take_more columns k [] lt i) (next_on s k [] i))
    ∙ columns-append (take k columns) (get_or columns k [] ∷ []) (numbers_on s k) (number_on s k ∷ []) same

all_long : (m : ℕ) (cs : List (List ℤ)) (row : List ℤ) → All (λ zs. length zs ≡ m) cs → All (λ zs. length zs ≡ m + 1) (more_columns cs row)
all_long m [] row are = All-nil (λ zs. length zs ≡ m + 1)
all_long m (c ∷ cs) [] are = All-nil (λ zs. length zs ≡ m + 1)
all_long m (c ∷ cs) (z ∷ row) are =
    let one : length (c ++ z ∷ []) ≡ m + 1 = omega (arith, length_push c z, All-head (λ zs. length zs ≡ m) c cs are) in
    All-cons (λ zs. length zs ≡ m + 1) (c ++ z ∷ []) (more_columns cs row) one (all_long m cs row (All-tail (λ zs. length zs ≡ m) c cs are))

module _ (k : Kind) where
  abbrev Valid : ℤ → Type 0
  Valid z = IsValue k z

  all_values : (cs : List (List ℤ)) (row : List ℤ) → All (λ zs. All Valid zs) cs → All Valid row → All (λ zs. All Valid zs) (more_columns cs row)
  all_values [] row are is = All-nil (λ zs. All Valid zs)
  all_values (c ∷ cs) [] are is = All-nil (λ zs. All Valid zs)
  all_values (c ∷ cs) (z ∷ row) are is =
      All-cons (λ zs. All Valid zs) (c ++ z ∷ []) (more_columns cs row) (All-push Valid c z (All-head (λ zs. All Valid zs) c cs are) (All-head Valid z row is))
      (all_values cs row (All-tail (λ zs. All Valid zs) c cs are) (All-tail Valid z row is))

-- ---- the bytes of their folds

module _ (r : Reduction) (k : Kind) where
  pub bytes-append : (xs ys : List (List ℤ)) → fold_bytes r k (xs ++ ys) ≡ fold_bytes r k xs ++ fold_bytes r k ys
  bytes-append xs ys = flat_map-append (λ zs. bytes_of (little k) (wrap k (folded r zs))) xs ys

  pub one_column : (xs : List (List ℤ)) (c : List ℤ) → fold_bytes r k xs ++ bytes_of (little k) (wrap k (folded r c)) ≡ fold_bytes r k (xs ++ c ∷ [])
  one_column xs c = ap (λ l. fold_bytes r k xs ++ l) (sym (append-nil (bytes_of (little k) (wrap k (folded r c))))) ∙ sym (bytes-append xs (c ∷ []))

  pub length-bytes : (xs : List (List ℤ)) → length (fold_bytes r k xs) ≡ length xs * size_of k
  length-bytes [] = omega arith
  length-bytes (x ∷ xs) =
      omega (arith, length-append (bytes_of (little k) (wrap k (folded r x))) (fold_bytes r k xs), length-bytes_of (little k) (wrap k (folded r x)), length-bytes xs)

  -- a fold is read back
  pub read_fold : (xs : List (List ℤ)) (i : ℕ) → i < length xs → number_at (little k) (fold_bytes r k xs) (i * size_of k) ≡ wrap k (folded r (get_or xs i []))
  read_fold xs i lt =
      let n = length xs in let read : ℕ → ℤ = λ j. number_at (little k) (fold_bytes r k xs) (j * size_of k) in let fold : List ℤ → ℤ = λ zs. wrap k (folded r zs) in
      let at : get_or (count_up 0 n) i 0 ≡ i = get_or-count_up 0 n i 0 lt ∙ omega arith in
      let all : map read (count_up 0 n) ≡ map fold xs = behind (little k) fold (λ zs. wrap_in_range k (folded r zs)) [] xs 0 (omega arith) in
      ap read (sym at) ∙ sym (get_or-map read (count_up 0 n) i 0 (pos 0) (omega (arith, lt, length-count_up 0 n)))
      ∙ ap (λ l. get_or l i (pos 0)) all ∙ get_or-map fold xs i [] (pos 0) lt

  -- the bytes of some of the folds
  pub part_bytes : (xs : List (List ℤ)) (d n : ℕ) → d + n ≤ length xs → take (n * size_of k) (drop (d * size_of k) (fold_bytes r k xs)) ≡ fold_bytes r k (take n (drop d xs))
  part_bytes xs d n le =
      let s = size_of k in let rest : List (List ℤ) = drop d xs in
      let long : length (fold_bytes r k (take d xs)) ≡ d * s = length-bytes (take d xs) ∙ ap (λ m. m * s) (length-take-le d xs (omega arith)) in
      let fits : n ≤ length rest = omega (arith, length-drop d xs, le) in
      let some : length (fold_bytes r k (take n rest)) ≡ n * s = length-bytes (take n rest) ∙ ap (λ m. m * s) (length-take-le n rest fits) in
      ap (λ l. take (n * s) (drop (d * s) (fold_bytes r k l))) (sym (take-append-drop d xs))
      ∙ ap (λ l. take (n * s) (drop (d * s) l)) (bytes-append (take d xs) rest)
      ∙ ap (take (n * s)) (drop_at (fold_bytes r k (take d xs)) (fold_bytes r k rest) (d * s) long)
      ∙ ap (λ l. take (n * s) (fold_bytes r k l)) (sym (take-append-drop n rest))
      ∙ ap (take (n * s)) (bytes-append (take n rest) (drop n rest))
      ∙ take_at (fold_bytes r k (take n rest)) (fold_bytes r k (drop n rest)) (n * s) some

-- what is kept beside a fold is read back
pub read_best : (b : Option Reduction) (kind : Kind) (bytes : List ℕ) (xs : List (List ℤ)) (i : ℕ) → i < length xs → HasBests b kind bytes xs → HasBest b kind bytes i (get_or xs i [])
read_best None kind bytes xs i lt is = tt
read_best (Some b) kind bytes xs i lt is = ap (λ l. number_at (little kind) l (i * size_of kind)) is ∙ read_fold b kind xs i lt

module _ (r : Reduction) (b : Option Reduction) (kind to : Kind) where
  -- of columns without numbers nothing is known
  pub no_folds : (n : ℕ) (bytes bests : List ℕ) → AreFolds r b kind to 0 bytes bests (replicate n [])
  no_folds n bytes bests = record {
    all = record {
      long = All-replicate (λ (zs : List ℤ). length zs ≡ 0) n [] refl;
      values = All-replicate (λ (zs : List ℤ). All (λ z. IsValue kind z) zs) n [] (All-nil (λ z. IsValue kind z));
    };
    written = λ some. absurd (omega arith);
    beside = λ some. absurd (omega arith);
  }

  -- a part of the columns
  pub part_folds : (taken : ℕ) (bytes bests part best_part : List ℕ) (columns : List (List ℤ)) (d n : ℕ) → d + n ≤ length columns → part ≡ take (n * size_of to) (drop (d * size_of to) bytes)
      → (0 < taken → HasBests b kind best_part (take n (drop d columns)))
      → AreFolds r b kind to taken bytes bests columns → AreFolds r b kind to taken part best_part (take n (drop d columns))
  part_folds taken bytes bests part best_part columns d n le is beside are = record {
    all = record {
      long = All-take (λ (zs : List ℤ). length zs ≡ taken) n (drop d columns) (All-drop (λ (zs : List ℤ). length zs ≡ taken) d columns are.all.long);
      values = All-take (λ (zs : List ℤ). All (λ z. IsValue kind z) zs) n (drop d columns) (All-drop (λ (zs : List ℤ). All (λ z. IsValue kind z) zs) d columns are.all.values);
    };
    written = λ some. is ∙ ap (λ l. take (n * size_of to) (drop (d * size_of to) l)) (are.written some) ∙ part_bytes r to columns d n le;
    beside = beside;
  }

  -- with a row more
  pub more_folds : (taken : ℕ) (before best_before bytes bests : List ℕ) (columns : List (List ℤ)) (row : List ℤ) → All (λ z. IsValue kind z) row
      → AreFolds r b kind to taken before best_before columns
      → bytes ≡ fold_bytes r to (more_columns columns row) → HasBests b kind bests (more_columns columns row)
      → AreFolds r b kind to (taken + 1) bytes bests (more_columns columns row)
  more_folds taken before best_before bytes bests columns row valid are is beside = record {
    all = record {
      long = all_long taken columns row are.all.long;
      values = all_values kind columns row are.all.values valid;
    };
    written = λ some. is;
    beside = λ some. beside;
  }

-- ---- row by row, and table by table

-- so many rows are taken, and with as many more as are left all is appended
pub record AreRows (r : Reduction) (b : Option Reduction) (kind to : Kind) (each : Bool) (n taken rest : ℕ) (out bytes bests : List ℕ) (zs : List ℤ) (all : List ℕ) (columns : List (List ℤ)) : Type 0 where
  pub many : length columns ≡ n
  pub are : AreFolds r b kind to taken bytes bests columns
  pub more : out ++ fold_bytes r to (row_columns each n rest columns zs) ≡ all

pub next_row : (each : Bool) (n rest : ℕ) (columns : List (List ℤ)) (zs : List ℤ) → 0 < rest → row_columns each n rest columns zs
    ≡ (if each then more_columns columns (take n zs) else []) ++ row_columns each n (rest - 1) (more_columns columns (take n zs)) (drop n zs)
next_row each n zero columns zs some = absurd (omega arith)
next_row each n (suc rest) columns zs some =
    let e : rest ≡ suc rest - 1 = omega arith in
    ap (λ m. (if each then more_columns columns (take n zs) else []) ++ row_columns each n m (more_columns columns (take n zs)) (drop n zs)) e

pub next_table : (each : Bool) (n rows rest : ℕ) (zs : List ℤ) → 0 < rest
    → table_columns each n rows rest zs ≡ row_columns each n rows (replicate n []) zs ++ table_columns each n rows (rest - 1) (drop (rows * n) zs)
next_table each n rows zero zs some = absurd (omega arith)
next_table each n rows (suc rest) zs some =
    let e : rest ≡ suc rest - 1 = omega arith in ap (λ m. row_columns each n rows (replicate n []) zs ++ table_columns each n rows m (drop (rows * n) zs)) e

-- the folds that are appended
pub appended : (each : Bool) (r : Reduction) (k : Kind) (bytes : List ℕ) (columns : List (List ℤ)) → bytes ≡ fold_bytes r k columns → (if each then bytes else []) ≡ fold_bytes r k (if each then columns else [])
appended true r k bytes columns is = is
appended false r k bytes columns is = refl

pub last_appended : (each : Bool) (r : Reduction) (k : Kind) (bytes : List ℕ) (columns : List (List ℤ)) → bytes ≡ fold_bytes r k columns
    → (if not each then bytes else []) ≡ fold_bytes r k (if each then [] else columns)
last_appended true r k bytes columns is = refl
last_appended false r k bytes columns is = is

-- ---- the room for them

pub no_room : (each : Bool) (size room : ℕ) → room + (if each then 0 else 0) * size ≡ room
no_room true size room = omega arith
no_room false size room = omega arith

pub room_for_row : (each : Bool) (taken rows size room all : ℕ) → taken < rows → room + (if each then taken else 0) * size ≡ all → (if each then rows else 1) * size ≤ all
    → (if each then size else 0) ≤ room
room_for_row true taken rows size room all lt is enough =
    let le : (taken + 1) * size ≤ rows * size = mul-le-mul_right size (omega arith) in let one : (taken + 1) * size ≡ taken * size + size = omega arith in omega arith
room_for_row false taken rows size room all lt is enough = omega arith

pub room_more : (each : Bool) (taken size left room all : ℕ) → left + (if each then size else 0) ≡ room → room + (if each then taken else 0) * size ≡ all
    → left + (if each then taken + 1 else 0) * size ≡ all
room_more true taken size left room all one is = let e : (taken + 1) * size ≡ taken * size + size = omega arith in omega arith
room_more false taken size left room all one is = omega arith

pub room_for_last : (each : Bool) (taken rows size room all : ℕ) → room + (if each then taken else 0) * size ≡ all → (if each then rows else 1) * size ≤ all → (if not each then size else 0) ≤ room
room_for_last true taken rows size room all is enough = omega arith
room_for_last false taken rows size room all is enough = omega arith

pub room_left : (each : Bool) (taken rows size left room all : ℕ) → taken ≡ rows → left + (if not each then size else 0) ≡ room → room + (if each then taken else 0) * size ≡ all
    → left + (if each then rows else 1) * size ≡ all
room_left true taken rows size left room all end one is = let e : taken * size ≡ rows * size = ap (λ m. m * size) end in omega arith
room_left false taken rows size left room all end one is = omega arith
