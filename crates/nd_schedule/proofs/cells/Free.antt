-- The least number that no cell has as its label.
use Rattle.std.proofs.Common.{◌≡◌, ℕ, zero, suc, ◌+◌, ◌-◌, ◌<◌, ◌≤◌, Bool, true, false, ◌||◌, eqb, eq-eqb, eqb-true, ne_eqb, List, [], ◌∷◌, length, take, get_or, set, refl, sym, ap, ◌∙◌, inl, inr, arith, add-one, Global}
use Rattle.std.proofs.lemmas.Grind.{get_or-set_at}
use Rattle.std.proofs.lemmas.List.{get_or-set_other}
use Rattle.std.proofs.lemmas.Bool.{cases_Bool}
use Rattle.std.specs.declared.rc.Rc.{Rc}
use Rattle.nd_model.specs.Book.Book.{Cell, is_label, above_labels, first_free, fresh_label}
use Rattle.nd_model.proofs.EditLabels.{fresh_small, labelled, free_step}
use Rattle.nd_schedule.specs.declared.cells.source.KeptCell.{KeptCell}
use Rattle.nd_schedule.specs.Cells.Source.{cells_of}

label_next : (n k : ℕ) (xs : List (Rc KeptCell Global)) (x : Rc KeptCell Global) → k < length xs → x ≡ get_or xs k x
    → is_label n (cells_of (take (suc k) xs)) ≡ (is_label n (cells_of (take k xs)) || eqb n x.value.label)
label_next n k [] x lt is = absurd (omega arith)
label_next n zero (y ∷ ys) x lt is = or_false (eqb n y.value.label) ∙ ap (λ (z : Rc KeptCell Global). eqb n z.value.label) (sym is)
  where
    or_false : (b : Bool) → (b || false) ≡ b
    or_false true = refl
    or_false false = refl
label_next n (suc k) (y ∷ ys) x lt is = ap (λ b. eqb n y.value.label || b) (label_next n k ys x (omega arith) is) ∙ assoc (eqb n y.value.label) _ _
  where
    assoc : (a b c : Bool) → (a || (b || c)) ≡ ((a || b) || c)
    assoc true b c = refl
    assoc false b c = refl

-- the labels of the first cells are marked, and now that of one more
pub marked_more : (n k : ℕ) (xs : List (Rc KeptCell Global)) (x : Rc KeptCell Global) (src : KeptCell) (old new : Bool) → k < length xs → x ≡ get_or xs k x → src ≡ x.value
    → new ≡ (old || eqb n src.label) → old ≡ is_label n (cells_of (take k xs)) → new ≡ is_label n (cells_of (take (k + 1) xs))
marked_more n k xs x src old new lt is value one before =
    one ∙ ap (λ b. b || eqb n src.label) before ∙ ap (λ (s : KeptCell). is_label n (cells_of (take k xs)) || eqb n s.label) value
    ∙ sym (label_next n k xs x lt is) ∙ ap (λ m. is_label n (cells_of (take m xs))) (sym (add-one k))

-- a mark is set
pub marked_here : (xs : List Bool) (i n : ℕ) → i < length xs → get_or (set xs i true) n false ≡ (get_or xs n false || eqb n i)
marked_here xs i n lt = elim (cases_Bool (eqb n i)) [
  | inl same ↦ rw same (get_or-set_at xs i n true false (eqb-true _ _ same) lt ∙ sym (or_true (get_or xs n false)))
  | inr other ↦ rw other (get_or-set_other xs i n true false (λ e. false_true (sym other ∙ eq-eqb _ _ e)) ∙ sym (or_false (get_or xs n false)))
]
  where
    or_true : (b : Bool) → (b || true) ≡ true
    or_true true = refl
    or_true false = refl

    or_false : (b : Bool) → (b || false) ≡ b
    or_false true = refl
    or_false false = refl

    false_true : {P : Type 0} → false ≡ true → P
    false_true e = cc

-- no mark is set past the last
pub unmarked : (xs : List Bool) (i n : ℕ) → length xs ≤ i → n < length xs → get_or xs n false ≡ (get_or xs n false || eqb n i)
unmarked xs i n past lt = let apart : eqb n i ≡ false = ne_eqb n i (λ e. absurd (omega arith)) in rw apart (sym (or_false (get_or xs n false)))
  where
    or_false : (b : Bool) → (b || false) ≡ b
    or_false true = refl
    or_false false = refl

-- each number in front of this one is a label
abbrev pub IsNext : (n : ℕ) → List Cell → Type 0
IsNext n cs = (fresh_label cs ≡ first_free (above_labels cs - n) n cs) × (n ≤ above_labels cs)

pub next_start : (cs : List Cell) → IsNext 0 cs
next_start cs = (let e : above_labels cs - 0 ≡ above_labels cs = omega arith in ap (λ m. first_free m 0 cs) (sym e), omega arith)

pub next_more : (n : ℕ) (cs : List Cell) → IsNext n cs → is_label n cs ≡ true → IsNext (n + 1) cs
next_more n cs h is =
    let below : n < above_labels cs = labelled n cs is in
    (h.0 ∙ free_step (above_labels cs) n cs below is, omega arith)

free_now : (many n : ℕ) (cs : List Cell) → is_label n cs ≡ false → first_free many n cs ≡ n
free_now zero n cs h = refl
free_now (suc many) n cs h = rw h refl

pub next_free : (n : ℕ) (cs : List Cell) → IsNext n cs → is_label n cs ≡ false → n ≡ fresh_label cs
next_free n cs h free = sym (h.0 ∙ free_now (above_labels cs - n) n cs free)

first_behind : (many n : ℕ) (cs : List Cell) → n ≤ first_free many n cs
first_behind zero n cs = omega arith
first_behind (suc many) n cs = elim (cases_Bool (is_label n cs)) [
  | inl is ↦ rw is (let more : n + 1 ≤ first_free many (n + 1) cs = first_behind many (n + 1) cs in omega arith)
  | inr free ↦ rw free (omega arith)
]

-- behind as many as there are cells there is none to try
pub next_last : (n : ℕ) (cs : List Cell) → IsNext n cs → length cs ≤ n → n ≡ fresh_label cs
next_last n cs h past =
    let few : fresh_label cs ≤ length cs = fresh_small cs in
    let behind : n ≤ first_free (above_labels cs - n) n cs = first_behind (above_labels cs - n) n cs in
    let is : fresh_label cs ≡ first_free (above_labels cs - n) n cs = h.0 in
    omega arith
