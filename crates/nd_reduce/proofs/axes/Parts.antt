-- A row of folds, of which a part more is taken.
use Rattle.std.proofs.Common.{◌≡◌, ℕ, ◌+◌, ◌-◌, ◌*◌, ◌≤◌, ℤ, Option, Some, None, List, [], ◌++◌, length, take, drop, take_all, sym, ap, ◌∙◌, arith, append_assoc, append-nil, drop_of_length-le}
use Rattle.std.proofs.Math.Seq.{take-add}
use Rattle.std.proofs.lemmas.List.{drop-drop, drop_at, length-take-le, take_at}
use Rattle.nd_model.specs.Grammar.Calls.{Reduction}
use Rattle.nd_model.specs.Arrays.Element.{Kind, size_of}
use Rattle.nd_reduce.specs.Folds.Lanes.{fold_bytes}
use Rattle.nd_reduce.specs.Axes.Tables.{HasBests, best_size, more_columns}
use Rattle.nd_reduce.proofs.axes.Tabled.{bytes-append, columns-append, length-bytes, length-columns, part_bytes}

module _ (r : Reduction) (k : Kind) (columns : List (List ℤ)) (zs : List ℤ) (first : List ℕ) where
  -- the row where so many columns have a number more
  abbrev pub part_row : ℕ → List ℕ
  part_row d = fold_bytes r k (more_columns (take d columns) (take d zs)) ++ drop (d * size_of k) first

  module _ (d n size : ℕ) (out : List ℕ) (bytes : size ≡ size_of k) (inside : d + n ≤ length columns) (enough : length columns ≤ length zs) (state : out ≡ part_row d) where
    abbrev s : ℕ
    s = size_of k

    abbrev span : ℕ
    span = (d + n) * size - d * size

    abbrev done : List (List ℤ)
    done = more_columns (take d columns) (take d zs)

    at : d * size ≡ d * s
    at = ap (λ m. d * m) bytes

    both : (d + n) * s ≡ d * s + n * s
    both = omega arith

    spans : span ≡ n * s
    spans = let end : (d + n) * size ≡ (d + n) * s = ap (λ m. (d + n) * m) bytes in omega (arith, at, end, both)

    long_before : length (take d columns) ≡ d
    long_before = length-take-le d columns (omega (arith, inside))

    long_same : length (take d columns) ≡ length (take d zs)
    long_same = long_before ∙ sym (length-take-le d zs (omega (arith, inside, enough)))

    long_done : length (fold_bytes r k done) ≡ d * size
    long_done = length-bytes r k done ∙ ap (λ m. m * s) (length-columns (take d columns) (take d zs) long_same ∙ long_before) ∙ sym at

    from : drop (d * size) out ≡ drop (d * s) first
    from = ap (drop (d * size)) state ∙ drop_at (fold_bytes r k done) (drop (d * s) first) (d * size) long_done

    pub part_before : take span (drop (d * size) out) ≡ take (n * s) (drop (d * s) first)
    part_before = λ i. take (spans i) (from i)

    pub part_after : (part : List ℕ) (front : List ℤ) → take d zs ++ front ≡ take (d + n) zs → part ≡ fold_bytes r k (more_columns (take n (drop d columns)) front)
        → take (d * size) out ++ (part ++ drop span (drop (d * size) out)) ≡ part_row (d + n)
    part_after part front joined written =
        let next : List (List ℤ) = take n (drop d columns) in let more : List (List ℤ) = more_columns next front in
        let front_bytes : take (d * size) out ≡ fold_bytes r k done = ap (take (d * size)) state ∙ take_at (fold_bytes r k done) (drop (d * s) first) (d * size) long_done in
        let last : drop span (drop (d * size) out) ≡ drop ((d + n) * s) first
        = (λ i. drop (spans i) (from i)) ∙ drop-drop (n * s) (d * s) first ∙ ap (λ m. drop m first) (sym both) in
        let all : done ++ more ≡ more_columns (take (d + n) columns) (take (d + n) zs)
        = sym (columns-append (take d columns) next (take d zs) front long_same) ∙ (λ i. more_columns (sym (take-add d n columns) i) (joined i)) in
        (λ i. front_bytes i ++ (written i ++ last i))
        ∙ sym (append_assoc (fold_bytes r k done) (fold_bytes r k more) (drop ((d + n) * s) first))
        ∙ ap (λ l. l ++ drop ((d + n) * s) first) (sym (bytes-append r k done more) ∙ ap (fold_bytes r k) all)

  pub whole_row : (w d : ℕ) → d ≡ w → length columns ≡ w → length first ≡ w * size_of k → part_row d ≡ fold_bytes r k (more_columns columns (take w zs))
  whole_row w d all long room =
      let none : drop (w * size_of k) first ≡ [] = drop_of_length-le first {i = w * size_of k} (omega (arith, room)) in
      let whole : take w columns ≡ columns = take_all w columns (omega (arith, long)) in
      ap (λ m. part_row m) all ∙ (λ i. fold_bytes r k (more_columns (whole i) (take w zs)) ++ none i) ∙ append-nil (fold_bytes r k (more_columns columns (take w zs)))

  pub start_row : first ≡ part_row 0
  start_row = let nothing : 0 * size_of k ≡ 0 = omega arith in sym (ap (λ m. drop m first) nothing)

-- ---- what is kept beside the folds

module _ (kind : Kind) (columns : List (List ℤ)) (zs : List ℤ) (first : List ℕ) where
  -- where so many columns have a number more
  abbrev pub PartBests : Option Reduction → ℕ → List ℕ → Type 0
  PartBests None d out = Unit {0}
  PartBests (Some b) d out = out ≡ part_row b kind columns zs first d

  pub start_bests : (b : Option Reduction) → PartBests b 0 first
  start_bests None = tt
  start_bests (Some b) = start_row b kind columns zs first

  pub whole_bests : (b : Option Reduction) (w d : ℕ) (out : List ℕ) → d ≡ w → length columns ≡ w → length first ≡ w * best_size b kind → PartBests b d out
      → HasBests b kind out (more_columns columns (take w zs))
  whole_bests None w d out all long room state = tt
  whole_bests (Some b) w d out all long room state = state ∙ whole_row b kind columns zs first w d all long room

  module _ (d n size : ℕ) (out : List ℕ) (inside : d + n ≤ length columns) (enough : length columns ≤ length zs) where
    pub bests_before : (b : Option Reduction) → size ≡ best_size b kind → PartBests b d out → HasBests b kind first columns
        → HasBests b kind (take ((d + n) * size - d * size) (drop (d * size) out)) (take n (drop d columns))
    bests_before None bytes state is = tt
    bests_before (Some b) bytes state is =
        part_before b kind columns zs first d n size out bytes inside enough state ∙ ap (λ l. take (n * size_of kind) (drop (d * size_of kind) l)) is ∙ part_bytes b kind columns d n inside

    pub bests_after : (b : Option Reduction) → size ≡ best_size b kind → PartBests b d out → (part : List ℕ) (front : List ℤ) → take d zs ++ front ≡ take (d + n) zs
        → HasBests b kind part (more_columns (take n (drop d columns)) front)
        → PartBests b (d + n) (take (d * size) out ++ (part ++ drop ((d + n) * size - d * size) (drop (d * size) out)))
    bests_after None bytes state part front joined written = tt
    bests_after (Some b) bytes state part front joined written = part_after b kind columns zs first d n size out bytes inside enough state part front joined written
