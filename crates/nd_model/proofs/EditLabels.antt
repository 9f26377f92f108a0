-- Labels of cells: a fresh one is no label, they stay distinct, and they stay small.
use Rattle.std.proofs.Common.{◌≡◌, ℕ, zero, suc, ◌+◌, ◌-◌, ◌≤◌, ◌<◌, Bool, true, false, cond, ◌||◌, eqb, ltb, List, [], ◌∷◌, length, Option, Some, None, refl, sym, ap, ◌∙◌, subst, inl, inr, arith}
use Rattle.std.proofs.lemmas.Bool.{cases_Bool, cases_eq, or_parts, or_from, cases_lt}
use Rattle.std.proofs.lemmas.Bool.Decides.{nat_tests}
use Rattle.std.specs.Prelude.{insert, remove, slice_set, slice_index_or}
use Rattle.nd_model.specs.Cells.Session.{is_in}
use Rattle.nd_model.specs.Book.Renaming.{AreDistinct}
use Rattle.nd_model.specs.Book.Book.{Cell, Book, count_of, Insert, Change, Move, Remove, SetInput, DropInput, SetRule, refusal, edited_cells, edited, is_label, above_labels, first_free, fresh_label, no_cell, labels_of, LabelsStayDistinct, EditFault, unless_refused}

-- ---- lists of labels

pub is_label-labels : (n : ℕ) (cs : List Cell) → is_label n cs ≡ is_in n (labels_of cs)
is_label-labels n [] = refl
is_label-labels n (c ∷ cs) = ap (λ b. eqb n c.label || b) (is_label-labels n cs)

labels-insert : (cs : List Cell) (i : ℕ) (c : Cell) → labels_of (insert cs i c) ≡ insert (labels_of cs) i c.label
labels-insert [] zero c = refl
labels-insert [] (suc i) c = refl
labels-insert (d ∷ cs) zero c = refl
labels-insert (d ∷ cs) (suc i) c = ap (λ l. d.label ∷ l) (labels-insert cs i c)

labels-remove : (cs : List Cell) (i : ℕ) → labels_of (remove cs i) ≡ remove (labels_of cs) i
labels-remove [] zero = refl
labels-remove [] (suc i) = refl
labels-remove (d ∷ cs) zero = refl
labels-remove (d ∷ cs) (suc i) = ap (λ l. d.label ∷ l) (labels-remove cs i)

labels-set : (cs : List Cell) (i : ℕ) (source : List ℕ) → labels_of (slice_set cs i (record { label = (slice_index_or cs i no_cell).label; source = source })) ≡ labels_of cs
labels-set [] zero source = refl
labels-set [] (suc i) source = refl
labels-set (d ∷ cs) zero source = refl
labels-set (d ∷ cs) (suc i) source = ap (λ l. d.label ∷ l) (labels-set cs i source)

label-at : (cs : List Cell) (i : ℕ) → (slice_index_or cs i no_cell).label ≡ slice_index_or (labels_of cs) i 0
label-at [] i = refl
label-at (d ∷ cs) zero = refl
label-at (d ∷ cs) (suc i) = label-at cs i

length-labels : (cs : List Cell) → length (labels_of cs) ≡ length cs
length-labels [] = refl
length-labels (c ∷ cs) = ap suc (length-labels cs)

or-swap : (a b c : Bool) → (a || (b || c)) ≡ (b || (a || c))
or-swap true true c = refl
or-swap true false c = refl
or-swap false true c = refl
or-swap false false c = refl

is_in-insert : (m : ℕ) (xs : List ℕ) (i x : ℕ) → is_in m (insert xs i x) ≡ (eqb m x || is_in m xs)
is_in-insert m [] zero x = refl
is_in-insert m [] (suc i) x = refl
is_in-insert m (y ∷ ys) zero x = refl
is_in-insert m (y ∷ ys) (suc i) x = ap (λ b. eqb m y || b) (is_in-insert m ys i x) ∙ or-swap (eqb m y) (eqb m x) (is_in m ys)

eqb-swap : (a b : ℕ) → eqb a b ≡ eqb b a
eqb-swap a b = elim (cases_Bool (eqb a b)) [
  | inl h ↦ grind (arith, nat_tests)
  | inr h ↦ grind (arith, nat_tests)
]

distinct-insert : (xs : List ℕ) (i x : ℕ) → AreDistinct xs → is_in x xs ≡ false → AreDistinct (insert xs i x)
distinct-insert [] zero x d h = (refl, d)
distinct-insert [] (suc i) x d h = (refl, d)
distinct-insert (y ∷ ys) zero x d h = (h, d)
distinct-insert (y ∷ ys) (suc i) x d h =
    let parts : (eqb x y ≡ false) × (is_in x ys ≡ false) = or_parts _ _ h in
    (is_in-insert y ys i x ∙ or_from _ _ (eqb-swap y x ∙ parts.0) d.0, distinct-insert ys i x d.1 parts.1)

is_in-remove : (m : ℕ) (xs : List ℕ) (i : ℕ) → is_in m xs ≡ false → is_in m (remove xs i) ≡ false
is_in-remove m [] zero h = refl
is_in-remove m [] (suc i) h = refl
is_in-remove m (y ∷ ys) zero h = (or_parts (eqb m y) (is_in m ys) h).1
is_in-remove m (y ∷ ys) (suc i) h =
    let parts : (eqb m y ≡ false) × (is_in m ys ≡ false) = or_parts _ _ h in or_from _ _ parts.0 (is_in-remove m ys i parts.1)

distinct-remove : (xs : List ℕ) (i : ℕ) → AreDistinct xs → AreDistinct (remove xs i)
distinct-remove [] zero d = d
distinct-remove [] (suc i) d = d
distinct-remove (y ∷ ys) zero d = d.1
distinct-remove (y ∷ ys) (suc i) d = (is_in-remove y ys i d.0, distinct-remove ys i d.1)

is_in-at : (m : ℕ) (xs : List ℕ) (i : ℕ) → is_in m xs ≡ false → i < length xs → eqb m (slice_index_or xs i 0) ≡ false
is_in-at m [] i h lt = absurd (omega arith)
is_in-at m (y ∷ ys) zero h lt = (or_parts (eqb m y) (is_in m ys) h).0
is_in-at m (y ∷ ys) (suc i) h lt = is_in-at m ys i (or_parts (eqb m y) (is_in m ys) h).1 (omega arith)

-- what was taken out stands nowhere else
taken-out : (xs : List ℕ) (i : ℕ) → AreDistinct xs → i < length xs → is_in (slice_index_or xs i 0) (remove xs i) ≡ false
taken-out [] i d lt = absurd (omega arith)
taken-out (y ∷ ys) zero d lt = d.0
taken-out (y ∷ ys) (suc i) d lt = or_from _ _ (eqb-swap (slice_index_or ys i 0) y ∙ is_in-at y ys i d.0 (omega arith)) (taken-out ys i d.1 (omega arith))

-- ---- a fresh label

above : (n : ℕ) (cs : List Cell) → above_labels cs ≤ n → is_label n cs ≡ false
above n [] h = refl
above n (c ∷ cs) h =
    let here : c.label + 1 ≤ n = omega arith in
    let rest : above_labels cs ≤ n = omega arith in
    or_from _ _ (let ne : eqb n c.label ≡ false = grind (arith, nat_tests) in ne) (above n cs rest)

free-fresh : (many n : ℕ) (cs : List Cell) → above_labels cs ≤ n + many → is_label (first_free many n cs) cs ≡ false
free-fresh zero n cs h = above n cs (omega arith)
free-fresh (suc many) n cs h = elim (cases_Bool (is_label n cs)) [
  | inl is ↦ rw is (free-fresh many (n + 1) cs (omega arith))
  | inr not ↦ rw not not
]

pub fresh : (cs : List Cell) → is_label (fresh_label cs) cs ≡ false
fresh cs = free-fresh (above_labels cs) 0 cs (omega arith)

-- ---- edits

unless : (o : Option EditFault) (x y : Book) → AreDistinct (labels_of x.cells) → AreDistinct (labels_of y.cells) → AreDistinct (labels_of (unless_refused o x y).cells)
unless None x y dx dy = dx
unless (Some f) x y dx dy = dy

of_equal : (xs ys : List ℕ) → xs ≡ ys → AreDistinct ys → AreDistinct xs
of_equal xs ys e d = subst AreDistinct (sym e) d

inserted : (cs : List Cell) (i : ℕ) (c : Cell) → AreDistinct (labels_of cs) → is_in c.label (labels_of cs) ≡ false → AreDistinct (labels_of (insert cs i c))
inserted cs i c d h = of_equal _ _ (labels-insert cs i c) (distinct-insert (labels_of cs) i c.label d h)

removed : (cs : List Cell) (i : ℕ) → AreDistinct (labels_of cs) → AreDistinct (labels_of (remove cs i))
removed cs i d = of_equal _ _ (labels-remove cs i) (distinct-remove (labels_of cs) i d)

moved : (cs : List Cell) (from to : ℕ) → AreDistinct (labels_of cs) → from < length cs → AreDistinct (labels_of (edited_cells (Move from to) cs))
moved cs from to d lt =
    inserted (remove cs from) to (slice_index_or cs from no_cell) (removed cs from d)
    (rw (label-at cs from, labels-remove cs from) (taken-out (labels_of cs) from d (rw (length-labels cs) lt)))

pub insert_distinct : (cs : List Cell) (at : ℕ) (source : List ℕ) → AreDistinct (labels_of cs) → AreDistinct (labels_of (edited_cells (Insert at source) cs))
insert_distinct cs at source d = inserted cs at _ d (sym (is_label-labels (fresh_label cs) cs) ∙ fresh cs)

pub change_distinct : (cs : List Cell) (at : ℕ) (source : List ℕ) → AreDistinct (labels_of cs) → AreDistinct (labels_of (edited_cells (Change at source) cs))
change_distinct cs at source d = of_equal _ _ (labels-set cs at source) d

pub move_distinct : (cs : List Cell) (from to : ℕ) → AreDistinct (labels_of cs) → from < length cs → AreDistinct (labels_of (edited_cells (Move from to) cs))
move_distinct cs from to d lt = moved cs from to d lt

pub remove_distinct : (cs : List Cell) (at : ℕ) → AreDistinct (labels_of cs) → AreDistinct (labels_of (edited_cells (Remove at) cs))
remove_distinct cs at d = removed cs at d

pub labels_stay_distinct : LabelsStayDistinct
labels_stay_distinct (Insert at source) b d = unless (refusal (Insert at source) b) (edited (Insert at source) b) b (insert_distinct b.cells at source d) d
labels_stay_distinct (Change at source) b d = unless (refusal (Change at source) b) (edited (Change at source) b) b (change_distinct b.cells at source d) d
labels_stay_distinct (Remove at) b d = unless (refusal (Remove at) b) (edited (Remove at) b) b (remove_distinct b.cells at d) d
labels_stay_distinct (SetInput name input) b d =
    unless (refusal (SetInput name input) b) (edited (SetInput name input) b) b d d
labels_stay_distinct (DropInput name) b d = unless (refusal (DropInput name) b) (edited (DropInput name) b) b d d
labels_stay_distinct (SetRule rule) b d = d
labels_stay_distinct (Move from to) b d = elim (cases_Bool (ltb from (count_of b))) [
  | inl lt ↦ unless (refusal (Move from to) b) (edited (Move from to) b) b (move_distinct b.cells from to d (let below : from < length b.cells = grind (arith, nat_tests) in below)) d
  | inr past ↦ rw past d
]

-- ---- labels stay small

without : ℕ → List ℕ → List ℕ
without n [] = []
without n (m ∷ ms) = cond (eqb n m) (without n ms) (m ∷ without n ms)

length-without : (n : ℕ) (ms : List ℕ) → length (without n ms) ≤ length ms
unfolding without
length-without n [] = omega arith
length-without n (m ∷ ms) = elim (cases_Bool (eqb n m)) [
  | inl h ↦ rw h (omega (arith, length-without n ms))
  | inr h ↦ rw h (omega (arith, length-without n ms))
]

shorter-without : (n : ℕ) (ms : List ℕ) → is_in n ms ≡ true → length (without n ms) < length ms
unfolding without
shorter-without n [] h = absurd (let f : false ≡ true = h in cc)
shorter-without n (m ∷ ms) h = elim (cases_Bool (eqb n m)) [
  | inl e ↦ rw e (omega (arith, length-without n ms))
  | inr e ↦ let rest : is_in n ms ≡ true = rw e at h in rw e (omega (arith, shorter-without n ms rest))
]

is_in-without : (k n : ℕ) (ms : List ℕ) → eqb k n ≡ false → is_in k ms ≡ true → is_in k (without n ms) ≡ true
unfolding without
is_in-without k n [] ne h = h
is_in-without k n (m ∷ ms) ne h = elim (cases_Bool (eqb n m)) [
  | inl e ↦ let other : eqb k m ≡ false = grind (arith, nat_tests) in rw e (is_in-without k n ms ne (rw other at h))
  | inr e ↦ rw e (elim (cases_Bool (eqb k m)) [
    | inl is ↦ rw is refl
    | inr other ↦ rw other (is_in-without k n ms ne (rw other at h))
  ])
]

-- so many numbers, each in a list, need a list as long
pub filled : (r : ℕ) (ms : List ℕ) → ((k : ℕ) → k < r → is_in k ms ≡ true) → r ≤ length ms
filled zero ms h = omega arith
filled (suc r) ms h =
    let fewer : r ≤ length (without r ms) = filled r (without r ms) (λ k lt. is_in-without k r ms (let ne : eqb k r ≡ false = grind (arith, nat_tests) in ne) (h k (omega arith))) in
    omega (arith, shorter-without r ms (h r (omega arith)))

passed : (many n : ℕ) (cs : List Cell) → ((k : ℕ) → k < n → is_label k cs ≡ true) → (k : ℕ) → k < first_free many n cs → is_label k cs ≡ true
passed zero n cs h k lt = h k lt
passed (suc many) n cs h k lt = elim (cases_Bool (is_label n cs)) [
  | inl is ↦ passed many (n + 1) cs (λ j less. elim (cases_eq j n) [
    | inl e ↦ rw e is
    | inr ne ↦ h j (omega arith)
  ]) k (rw is at lt)
  | inr not ↦ h k (rw not at lt)
]

-- a fresh label is at most the number of cells
pub fresh_small : (cs : List Cell) → fresh_label cs ≤ length cs
fresh_small cs =
    let bound : fresh_label cs ≤ length (labels_of cs) = filled (fresh_label cs) (labels_of cs)
    (λ k lt. sym (is_label-labels k cs) ∙ passed (above_labels cs) 0 cs (λ j less. absurd (omega arith)) k lt) in
    rw (sym (length-labels cs)) bound

-- ---- looking for a fresh label

pub labelled : (n : ℕ) (cs : List Cell) → is_label n cs ≡ true → n < above_labels cs
labelled n cs h = elim (cases_lt n (above_labels cs)) [
  | inl lt ↦ lt
  | inr past ↦ absurd (let f : is_label n cs ≡ false = above n cs past in cc)
]

pub free_step : (many n : ℕ) (cs : List Cell) → n < many → is_label n cs ≡ true → first_free (many - n) n cs ≡ first_free (many - (n + 1)) (n + 1) cs
free_step many n cs lt h = rw (let e : many - n ≡ suc (many - (n + 1)) = omega arith in e, h) refl
