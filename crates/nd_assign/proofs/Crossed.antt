-- Copies column by column, to elements that lie apart, leave what copies in C order leave.
use Rattle.std.proofs.Common.{append-nil, ◌≡◌, ◌≢◌, ℕ, pos, zero, suc, ◌+◌, ◌-◌, ◌*◌, ◌<◌, ◌≤◌, List, [], ◌∷◌, ◌++◌, map, length, refl, sym, ap, ◌∙◌, inl, inr, arith, length-append}
use Rattle.std.specs.Prelude.{slice_set}
use Rattle.std.specs.List.{All, flat_map, zip}
use Rattle.std.proofs.Math.Nat.{mul-le-mul_right}
use Rattle.std.proofs.lemmas.Bool.{cases_lt}
use Rattle.std.proofs.lemmas.Grind.{flat_map-append}
use Rattle.std.proofs.lemmas.List.{length-map}
use Rattle.std.proofs.lemmas.List.Elements.{All-head, All-tail}
use Rattle.nd_model.specs.Arrays.Content.{Content, Num, Rec, all_writes, number_writes}
use Rattle.nd_model.specs.Arrays.Element.{Element, size_of, bytes_of}
use Rattle.nd_model.specs.Arrays.Runs.{run_places}
use Rattle.nd_model.specs.Arrays.Tuple.{count_up}
use Rattle.nd_model.specs.Arrays.View.{ElementType, One}
use Rattle.nd_model.specs.Cells.Session.{put}
use Rattle.nd_view.proofs.Tuples.{count_up-append, count_up_more}
use Rattle.nd_assign.specs.Copies.{copied_content, with_copies}
use Rattle.nd_assign.specs.Grids.{AreColumnsApart, grid_place, grid_places, moved_by}
use Rattle.nd_assign.specs.declared.grid.Grid.{Grid}
use Rattle.nd_assign.proofs.Copied.{copies-append}
use Rattle.nd_assign.proofs.Gridded.{first_columns, one_longer, all_of_rows, column_is, part_is}

-- ---- writes apart come in any order

-- nothing is written at place p
abbrev Clear : ℕ → List (ℕ × ℕ) → Type 0
Clear p [] = Unit {0}
Clear p (w ∷ ws) = (w.0 ≢ p) × Clear p ws

abbrev AreClear : (vs ws : List (ℕ × ℕ)) → Type 0
AreClear [] ws = Unit {0}
AreClear (v ∷ vs) ws = Clear v.0 ws × AreClear vs ws

set_apart : (xs : List ℕ) (p q y z : ℕ) → p ≢ q → slice_set (slice_set xs q z) p y ≡ slice_set (slice_set xs p y) q z
set_apart [] p q y z ne = refl
set_apart (x ∷ xs) zero zero y z ne = absurd (ne refl)
set_apart (x ∷ xs) zero (suc q) y z ne = refl
set_apart (x ∷ xs) (suc p) zero y z ne = refl
set_apart (x ∷ xs) (suc p) (suc q) y z ne = ap (λ l. x ∷ l) (set_apart xs p q y z (λ e. ne (ap suc e)))

one_apart : (ws : List (ℕ × ℕ)) (xs : List ℕ) (p y : ℕ) → Clear p ws → put ws (slice_set xs p y) ≡ slice_set (put ws xs) p y
one_apart [] xs p y clear = refl
one_apart (w ∷ ws) xs p y clear = ap (put ws) (set_apart xs w.0 p w.1 y clear.0) ∙ one_apart ws (slice_set xs w.0 w.1) p y clear.1

puts_apart : (vs ws : List (ℕ × ℕ)) (xs : List ℕ) → AreClear vs ws → put vs (put ws xs) ≡ put ws (put vs xs)
puts_apart [] ws xs clear = refl
puts_apart (v ∷ vs) ws xs clear = ap (put vs) (sym (one_apart ws xs v.0 v.1 clear.0)) ∙ puts_apart vs ws (slice_set xs v.0 v.1) clear.1

clear-append : (p : ℕ) (vs ws : List (ℕ × ℕ)) → Clear p vs → Clear p ws → Clear p (vs ++ ws)
clear-append p [] ws a b = b
clear-append p (v ∷ vs) ws a b = (a.0, clear-append p vs ws a.1 b)

-- the bytes of a number, which ends at or before place p if it begins there or before
clear_number : (p u n : ℕ) (ys : List ℕ) → (u ≤ p → u + n ≤ p) → Clear p (zip (count_up u n) ys)
clear_number p u zero ys off = tt
clear_number p u (suc n) [] off = tt
clear_number p u (suc n) (y ∷ ys) off = (
  (λ (e : u ≡ p). let o : u + suc n ≤ p = off (omega (arith, e)) in omega (arith, o, e)),
  clear_number p (u + 1) n ys (λ le. let o : u + suc n ≤ p = off (omega (arith, le)) in omega (arith, o)),
)

module _ (to : Element) where
  clear_numbers : (p : ℕ) (us : List ℕ) (cs : List Content) → All (λ u. u ≤ p → u + size_of to.kind ≤ p) us → Clear p (all_writes (One to) us cs)
  clear_numbers p [] cs off = tt
  clear_numbers p (u ∷ us) [] off = tt
  clear_numbers p (u ∷ us) (Num z ∷ cs) off =
      clear-append p (number_writes to u z) (all_writes (One to) us cs) (clear_number p u (size_of to.kind) (bytes_of to z) (All-head (λ u. u ≤ p → u + size_of to.kind ≤ p) u us off))
      (clear_numbers p us cs (All-tail (λ u. u ≤ p → u + size_of to.kind ≤ p) u us off))
  clear_numbers p (u ∷ us) (Rec zs ∷ cs) off = clear_numbers p us cs (All-tail (λ u. u ≤ p → u + size_of to.kind ≤ p) u us off)

  clear_from : (p n : ℕ) (ys us : List ℕ) (cs : List Content) → ((q : ℕ) → p ≤ q → q < p + n → All (λ u. u ≤ q → u + size_of to.kind ≤ q) us) → AreClear (zip (count_up p n) ys) (all_writes (One to) us cs)
  clear_from p zero ys us cs off = tt
  clear_from p (suc n) [] us cs off = tt
  clear_from p (suc n) (y ∷ ys) us cs off =
      (clear_numbers p us cs (off p (omega arith) (omega arith)), clear_from (p + 1) n ys us cs (λ q low high. off q (omega arith) (omega arith)))

are_clear-append : (us vs ws : List (ℕ × ℕ)) → AreClear us ws → AreClear vs ws → AreClear (us ++ vs) ws
are_clear-append [] vs ws a b = b
are_clear-append (u ∷ us) vs ws a b = (a.0, are_clear-append us vs ws a.1 b)

-- ---- one column more

-- no byte of the next column belongs to the first n ones
module _ (to from : Element) (bytes : List ℕ) (P Q : ℕ → ℕ → ℕ) (n : ℕ) where
  column_more : (first r : ℕ) (out : List ℕ)
      → ((i k j q : ℕ) → first ≤ i → i < first + r → first ≤ k → k < first + r → j < n → P k n ≤ q → q < P k n + size_of to.kind → P i j ≤ q → P i j + size_of to.kind ≤ q)
      → with_copies (One to) (One from) bytes (first_columns P (n + 1) (count_up first r)) (first_columns Q (n + 1) (count_up first r)) out
      ≡ with_copies (One to) (One from) bytes (map (λ i. P i n) (count_up first r)) (map (λ i. Q i n) (count_up first r))
      (with_copies (One to) (One from) bytes (first_columns P n (count_up first r)) (first_columns Q n (count_up first r)) out)
  column_more first zero out off = refl
  column_more first (suc r) out off =
      let t : ElementType = One to in let f : ElementType = One from in let rest : List ℕ = count_up (first + 1) r in
      let ps : List ℕ = map (P first) (count_up 0 n) in let qs : List ℕ = map (Q first) (count_up 0 n) in
      let p : ℕ = P first n in let q : ℕ = Q first n in
      let us : List ℕ = first_columns P n rest in let vs : List ℕ = first_columns Q n rest in
      let more_us : List ℕ = first_columns P (n + 1) rest in let more_vs : List ℕ = first_columns Q (n + 1) rest in
      let column : List ℕ = map (λ i. P i n) rest in let from_column : List ℕ = map (λ i. Q i n) rest in
      let row : List ℕ = with_copies t f bytes ps qs out in
      let same : length ps ≡ length qs = length-map (count_up 0 n) (P first) ∙ sym (length-map (count_up 0 n) (Q first)) in
      let longer : length (ps ++ p ∷ []) ≡ length (qs ++ q ∷ []) = omega (arith, length-append ps (p ∷ []), length-append qs (q ∷ []), same) in
      (λ i. with_copies t f bytes (one_longer (P first) n i ++ more_us) (one_longer (Q first) n i ++ more_vs) out)
      ∙ copies-append t f bytes (ps ++ p ∷ []) more_us (qs ++ q ∷ []) more_vs out longer
      ∙ ap (with_copies t f bytes more_us more_vs) (copies-append t f bytes ps (p ∷ []) qs (q ∷ []) out same)
      ∙ column_more (first + 1) r (with_copies t f bytes (p ∷ []) (q ∷ []) row)
      (λ i k j b low high least most lt begin end at. off i k j b (omega arith) (omega arith) (omega arith) (omega arith) lt begin end at)
      ∙ ap (with_copies t f bytes column from_column)
      (sym (puts_apart (all_writes t (p ∷ []) (map (copied_content t f bytes) (q ∷ []))) (all_writes t us (map (copied_content t f bytes) vs)) row
      (one_clear p us (copied_content t f bytes q) (map (copied_content t f bytes) vs)
      (λ b begin end. all_of_rows (λ u. u ≤ b → u + size_of to.kind ≤ b) P n (first + 1) r
      (λ i j low high lt at. off i first j b (omega arith) (omega arith) (omega arith) (omega arith) lt begin end at)))))
      ∙ sym (ap (λ l. with_copies t f bytes column from_column (with_copies t f bytes (p ∷ []) (q ∷ []) l)) (copies-append t f bytes ps us qs vs out same))
      ∙ sym (copies-append t f bytes (p ∷ []) column (q ∷ []) from_column (with_copies t f bytes (ps ++ us) (qs ++ vs) out) refl)
    where
      one_clear : (p : ℕ) (us : List ℕ) (c : Content) (cs : List Content) → ((b : ℕ) → p ≤ b → b < p + size_of to.kind → All (λ u. u ≤ b → u + size_of to.kind ≤ b) us)
          → AreClear (all_writes (One to) (p ∷ []) (c ∷ [])) (all_writes (One to) us cs)
      one_clear p us (Num z) cs all = are_clear-append (number_writes to p z) [] (all_writes (One to) us cs) (clear_from to p (size_of to.kind) (bytes_of to z) us cs all) tt
      one_clear p us (Rec zs) cs all = tt

module _ (to from : Element) (bytes : List ℕ) (g s : Grid) (apart : AreColumnsApart (size_of to.kind) g) where
  -- a column is copied behind the first n columns
  pub next_column : (n : ℕ) (old out new : List ℕ) → n < g.columns
      → new ≡ with_copies (One to) (One from) bytes (run_places (g.start + n * g.along) (pos g.across) g.rows) (run_places (s.start + n * s.along) (pos s.across) g.rows) out
      → out ≡ with_copies (One to) (One from) bytes (first_columns (grid_place g.start g.across g.along) n (count_up 0 g.rows)) (first_columns (grid_place s.start s.across s.along) n (count_up 0 g.rows)) old
      → new ≡ with_copies (One to) (One from) bytes (first_columns (grid_place g.start g.across g.along) (n + 1) (count_up 0 g.rows))
      (first_columns (grid_place s.start s.across s.along) (n + 1) (count_up 0 g.rows)) old
  next_column n old out new lt now done =
      now
      ∙ (λ i. with_copies (One to) (One from) bytes (column_is g.start g.across g.along g.rows n i) (column_is s.start s.across s.along g.rows n i) (done i))
      ∙ sym (column_more to from bytes (grid_place g.start g.across g.along) (grid_place s.start s.across s.along) n 0 g.rows old
      (λ i k j q low high least most few begin end at. apart i k j n q (omega arith) (omega arith) few lt begin end at))

-- ---- more rows

as_long : (g s : Grid) → s.columns ≡ g.columns → (F H : ℕ → ℕ → ℕ) (rows : List ℕ) → length (first_columns F g.columns rows) ≡ length (first_columns H s.columns rows)
as_long g s same F H [] = refl
as_long g s same F H (i ∷ rest) =
    let here : length (map (F i) (count_up 0 g.columns)) ≡ length (map (H i) (count_up 0 s.columns))
    = length-map (count_up 0 g.columns) (F i) ∙ ap (λ n. length (count_up 0 n)) (sym same) ∙ sym (length-map (count_up 0 s.columns) (H i)) in
    length-append (map (F i) (count_up 0 g.columns)) (first_columns F g.columns rest)
    ∙ (λ k. here k + as_long g s same F H rest k) ∙ sym (length-append (map (H i) (count_up 0 s.columns)) (first_columns H s.columns rest))

module _ (to from : Element) (bytes : List ℕ) (g s : Grid) (same : s.columns ≡ g.columns) where
  -- a band of rows is copied behind the first ones
  pub next_band : (row some : ℕ) (old out new : List ℕ)
      → new ≡ with_copies (One to) (One from) bytes (first_columns (grid_place (g.start + row * g.across) g.across g.along) g.columns (count_up 0 some))
      (first_columns (grid_place (s.start + row * s.across) s.across s.along) s.columns (count_up 0 some)) out
      → out ≡ with_copies (One to) (One from) bytes (first_columns (grid_place g.start g.across g.along) g.columns (count_up 0 row)) (first_columns (grid_place s.start s.across s.along) s.columns (count_up 0 row)) old
      → new ≡ with_copies (One to) (One from) bytes (first_columns (grid_place g.start g.across g.along) g.columns (count_up 0 (row + some)))
      (first_columns (grid_place s.start s.across s.along) s.columns (count_up 0 (row + some))) old
  next_band row some old out new now done =
      let t : ElementType = One to in let f : ElementType = One from in
      let P : ℕ → ℕ → ℕ = grid_place g.start g.across g.along in let Q : ℕ → ℕ → ℕ = grid_place s.start s.across s.along in
      let ps : List ℕ = first_columns P g.columns (count_up 0 row) in let qs : List ℕ = first_columns Q s.columns (count_up 0 row) in
      let us : List ℕ = first_columns P g.columns (count_up row some) in let vs : List ℕ = first_columns Q s.columns (count_up row some) in
      now
      ∙ (λ i. with_copies t f bytes (part_is g.start g.across g.along g.columns row some i) (part_is s.start s.across s.along s.columns row some i) (done i))
      ∙ sym (copies-append t f bytes ps us qs vs old (as_long g s same P Q (count_up 0 row)))
      ∙ sym (λ i. with_copies t f bytes (both P g.columns row some i) (both Q s.columns row some i) old)
    where
      both : (F : ℕ → ℕ → ℕ) (n row some : ℕ) → first_columns F n (count_up 0 (row + some)) ≡ first_columns F n (count_up 0 row) ++ first_columns F n (count_up row some)
      both F n row some =
          let none : 0 + row ≡ row = omega arith in
          ap (first_columns F n) (count_up-append 0 row some) ∙ ap (λ k. first_columns F n (count_up 0 row ++ count_up k some)) none
          ∙ flat_map-append (λ i. map (F i) (count_up 0 n)) (count_up 0 row) (count_up row some)

-- ---- grids whose columns lie apart

module _ (g : Grid) (size : ℕ) where
  -- each row ends before the next one begins
  pub by_rows : size ≤ g.along → (g.columns - 1) * g.along + size ≤ g.across → AreColumnsApart size g
  by_rows fits ends i k j n q low high before few begin end at =
      let column : suc j * g.along ≤ n * g.along = mul-le-mul_right g.along before in
      let last : n * g.along ≤ (g.columns - 1) * g.along = mul-le-mul_right g.along (omega arith) in
      elim (cases_lt i k) [
        | inl lt ↦ let row : suc i * g.across ≤ k * g.across = mul-le-mul_right g.across lt in omega (arith, row, column, last, ends)
        | inr le ↦ elim (cases_lt k i) [
          | inl lt ↦ let row : suc k * g.across ≤ i * g.across = mul-le-mul_right g.across lt in absurd (omega (arith, row, last, ends, at, end))
          | inr ge ↦ let row : i * g.across ≡ k * g.across = ap (λ r. r * g.across) (omega arith) in omega (arith, row, column, fits, begin)
        ]
      ]

  -- a grid further on
  pub moved_apart : (by : ℕ) → AreColumnsApart size g → AreColumnsApart size (moved_by g by)
  moved_apart by apart i k j n q low high before few begin end at =
      let P : ℕ → ℕ → ℕ = grid_place g.start g.across g.along in
      let here : grid_place (g.start + by) g.across g.along i j ≡ P i j + by = omega arith in
      let there : grid_place (g.start + by) g.across g.along k n ≡ P k n + by = omega arith in
      let off : P i j + size ≤ q - by = apart i k j n (q - by) low high before few (omega (arith, there, begin)) (omega (arith, there, begin, end)) (omega (arith, here, at)) in
      omega (arith, here, off, at)

  -- rows of a grid
  pub part_apart : (first count : ℕ) → first + count ≤ g.rows → AreColumnsApart size g
      → AreColumnsApart size (record { start = g.start + first * g.across; rows = count; across = g.across; columns = g.columns; along = g.along })
  part_apart first count inside apart i k j n q low high before few begin end at =
      let here : grid_place g.start g.across g.along (first + i) j ≡ grid_place (g.start + first * g.across) g.across g.along i j = shifted i j in
      let there : grid_place g.start g.across g.along (first + k) n ≡ grid_place (g.start + first * g.across) g.across g.along k n = shifted k n in
      let off : grid_place g.start g.across g.along (first + i) j + size ≤ q
      = apart (first + i) (first + k) j n q (omega arith) (omega arith) before few (omega (arith, there, begin)) (omega (arith, there, end)) (omega (arith, here, at)) in
      omega (arith, off, here)
    where
      shifted : (r c : ℕ) → grid_place g.start g.across g.along (first + r) c ≡ grid_place (g.start + first * g.across) g.across g.along r c
      shifted r c = let e : (first + r) * g.across ≡ first * g.across + r * g.across = omega arith in omega (arith, e)

-- ---- one grid more

-- a list of places more is copied behind the first n ones
pub next_list : (to from : Element) (bytes : List ℕ) (F H : ℕ → List ℕ) → ((k : ℕ) → length (F k) ≡ length (H k)) → (n : ℕ) (old out new : List ℕ)
    → new ≡ with_copies (One to) (One from) bytes (F n) (H n) out → out ≡ with_copies (One to) (One from) bytes (flat_map F (count_up 0 n)) (flat_map H (count_up 0 n)) old
    → new ≡ with_copies (One to) (One from) bytes (flat_map F (count_up 0 (n + 1))) (flat_map H (count_up 0 (n + 1))) old
next_list to from bytes F H long n old out new now done =
    now ∙ ap (with_copies (One to) (One from) bytes (F n) (H n)) done
    ∙ sym (copies-append (One to) (One from) bytes (flat_map F (count_up 0 n)) (F n) (flat_map H (count_up 0 n)) (H n) old (all_long (count_up 0 n)))
    ∙ sym (λ i. with_copies (One to) (One from) bytes (more F i) (more H i) old)
  where
    more : (G : ℕ → List ℕ) → flat_map G (count_up 0 (n + 1)) ≡ flat_map G (count_up 0 n) ++ G n
    more G =
        let none : 0 + n ≡ n = omega arith in
        ap (flat_map G) (count_up_more 0 n) ∙ flat_map-append G (count_up 0 n) ((0 + n) ∷ []) ∙ ap (λ k. flat_map G (count_up 0 n) ++ (G k ++ [])) none
        ∙ ap (λ l. flat_map G (count_up 0 n) ++ l) (append-nil (G n))

    all_long : (ks : List ℕ) → length (flat_map F ks) ≡ length (flat_map H ks)
    all_long [] = refl
    all_long (k ∷ ks) = length-append (F k) (flat_map F ks) ∙ (λ i. long k i + all_long ks i) ∙ sym (length-append (H k) (flat_map H ks))

-- grids of one shape have as many elements
pub as_many : (g s : Grid) → s.rows ≡ g.rows → s.columns ≡ g.columns → length (grid_places g) ≡ length (grid_places s)
as_many g s rows columns =
    as_long g s columns (grid_place g.start g.across g.along) (grid_place s.start s.across s.along) (count_up 0 g.rows)
    ∙ ap (λ r. length (first_columns (grid_place s.start s.across s.along) s.columns (count_up 0 r))) (sym rows)
