-- The labels that are in use, before and behind an edit.
use Rattle.std.proofs.Common.{◌≡◌, ℕ, zero, suc, ◌+◌, ◌<◌, ◌≤◌, Bool, true, false, ◌||◌, eqb, eq-eqb, ne_eqb, List, [], ◌∷◌, length, get_or, refl, sym, ap, subst, ◌∙◌, inl, inr, arith}
use Rattle.std.specs.Prelude.{◌⊎◌, IsTrue, insert, remove, slice_set, slice_index_or}
use Rattle.std.proofs.lemmas.Bool.{cases_Bool, cases_eq}
use Rattle.nd_model.specs.Book.Book.{Cell, fresh_label, is_label, no_cell}
use Rattle.nd_schedule.specs.Cells.Labels.{AreUsed}
use Rattle.nd_schedule.proofs.cells.Free.{IsNext, next_start, next_more, next_free, next_last}

-- all below a number are labels
pub next_at : (least : ℕ) (cs : List Cell) → AreUsed least cs → IsNext least cs
next_at zero cs h = next_start cs
next_at (suc k) cs h = let e : k + 1 ≡ suc k = omega arith in
    subst (λ n. IsNext n cs) e (next_more k cs (next_at k cs (λ n lt. h n (omega arith))) (h k (omega arith)))

past_end : (xs : List Bool) (n : ℕ) → length xs ≤ n → get_or xs n false ≡ false
past_end [] n le = refl
past_end (x ∷ xs) zero le = absurd (omega arith)
past_end (x ∷ xs) (suc n) le = past_end xs n (omega arith)

-- a mark is not past the end
pub marked_inside : (xs : List Bool) (n : ℕ) → get_or xs n false ≡ true → n < length xs
marked_inside [] n h = absurd (cc)
marked_inside (x ∷ xs) zero h = omega arith
marked_inside (x ∷ xs) (suc n) h = let rest = marked_inside xs n h in omega (arith, rest)

module _ (used : List Bool) (cs : List Cell) (least label : ℕ) (all : AreUsed least cs) (count : length used ≡ length cs) (marks : (n : ℕ) → n < length cs → get_or used n false ≡ is_label n cs)
    (behind : least ≤ label) (marked : (n : ℕ) → least ≤ n → n < label → get_or used n false ≡ true) (unmarked : get_or used label false ≡ false) where
  is_used : (n : ℕ) → get_or used n false ≡ true → is_label n cs ≡ true
  is_used n h = let inside : n < length used = marked_inside used n h in sym (marks n (omega (arith, inside, count))) ∙ h

  below : AreUsed label cs
  below n lt = elim (cases_less n least) [ inl less ↦ all n less | inr more ↦ is_used n (marked n more lt) ]
    where
      cases_less : (m n : ℕ) → (m < n) ⊎ (n ≤ m)
      cases_less m n = grind arith

  pub fresh_is : label ≡ fresh_label cs
  fresh_is = elim (cases_past label (length cs)) [
    | inl inside ↦ next_free label cs (next_at label cs below) (sym (marks label inside) ∙ unmarked)
    | inr past ↦ next_last label cs (next_at label cs below) past
  ]
    where
      cases_past : (m n : ℕ) → (m < n) ⊎ (n ≤ m)
      cases_past m n = grind arith

  or_true : (b : Bool) → (b || true) ≡ true
  or_true true = refl
  or_true false = refl

  pub next_is : (next : ℕ) → ((n : ℕ) → label + 1 ≤ n → n < next → get_or used n false ≡ true) → (n : ℕ) → n < next → IsTrue (is_label n cs || eqb n label)
  next_is next more n lt = elim (cases_less n label) [
    | inl less ↦ ap (λ b. b || eqb n label) (below n less)
    | inr past ↦ elim (cases_eq n label) [
      | inl same ↦ ap (λ b. is_label n cs || b) (eq-eqb n label same) ∙ or_true (is_label n cs)
      | inr other ↦ ap (λ b. b || eqb n label) (is_used n (more n (omega (arith, past, other)) lt))
    ]
  ]
    where
      cases_less : (m n : ℕ) → (m < n) ⊎ (n ≤ m)
      cases_less m n = grind arith

-- ---- behind an edit

swap : (a b c : Bool) → (a || (b || c)) ≡ ((a || b) || c)
swap true b c = refl
swap false b c = refl

or_false : (b : Bool) → (b || false) ≡ b
or_false true = refl
or_false false = refl

turned : (a b : Bool) → (a || b) ≡ (b || a)
turned true true = refl
turned true false = refl
turned false true = refl
turned false false = refl

label_insert : (n : ℕ) (cs : List Cell) (i : ℕ) (c : Cell) → is_label n (insert cs i c) ≡ (is_label n cs || eqb n c.label)
label_insert n [] zero c = or_false (eqb n c.label)
label_insert n [] (suc i) c = or_false (eqb n c.label)
label_insert n (d ∷ cs) zero c = turned (eqb n c.label) (eqb n d.label || is_label n cs)
label_insert n (d ∷ cs) (suc i) c = ap (λ b. eqb n d.label || b) (label_insert n cs i c) ∙ swap (eqb n d.label) (is_label n cs) (eqb n c.label)

label_set : (n : ℕ) (cs : List Cell) (i : ℕ) (c : Cell) → c.label ≡ (slice_index_or cs i no_cell).label → is_label n (slice_set cs i c) ≡ is_label n cs
label_set n [] zero c same = refl
label_set n [] (suc i) c same = refl
label_set n (d ∷ cs) zero c same = ap (λ l. eqb n l || is_label n cs) same
label_set n (d ∷ cs) (suc i) c same = ap (λ b. eqb n d.label || b) (label_set n cs i c same)

label_stays : (n : ℕ) (cs : List Cell) (i : ℕ) → is_label n cs ≡ true → ¬ (n ≡ (slice_index_or cs i no_cell).label) → is_label n (remove cs i) ≡ true
label_stays n [] i h other = absurd (cc)
label_stays n (d ∷ cs) zero h other = sym (ap (λ t. t || is_label n cs) (ne_eqb n d.label other)) ∙ h
label_stays n (d ∷ cs) (suc i) h other = elim (cases_Bool (eqb n d.label)) [
  | inl same ↦ ap (λ t. t || is_label n (remove cs i)) same
  | inr apart ↦ ap (λ t. t || is_label n (remove cs i)) apart ∙ label_stays n cs i (sym (ap (λ t. t || is_label n cs) apart) ∙ h) other
]

pub used_set : (least : ℕ) (cs : List Cell) (i : ℕ) (c : Cell) → c.label ≡ (slice_index_or cs i no_cell).label → AreUsed least cs → AreUsed least (slice_set cs i c)
used_set least cs i c same all n lt = label_set n cs i c same ∙ all n lt

pub used_insert : (next : ℕ) (cs : List Cell) (i : ℕ) (c : Cell) → ((n : ℕ) → n < next → IsTrue (is_label n cs || eqb n c.label)) → AreUsed next (insert cs i c)
used_insert next cs i c all n lt = label_insert n cs i c ∙ all n lt

pub used_remove : (least now : ℕ) (cs : List Cell) (i : ℕ) → now ≤ least → now ≤ (slice_index_or cs i no_cell).label → AreUsed least cs → AreUsed now (remove cs i)
used_remove least now cs i low below all n lt = label_stays n cs i (all n (omega (arith, low, lt))) (λ e. absurd (omega (arith, below, lt, e)))

pub used_moved : (least : ℕ) (cs : List Cell) (i to : ℕ) → AreUsed least cs → AreUsed least (insert (remove cs i) to (get_or cs i no_cell))
used_moved least cs i to all n lt = label_insert n (remove cs i) to (get_or cs i no_cell) ∙ elim (cases_eq n (get_or cs i no_cell).label) [
  | inl same ↦ ap (λ b. is_label n (remove cs i) || b) (eq-eqb n (get_or cs i no_cell).label same) ∙ or_true (is_label n (remove cs i))
  | inr other ↦ ap (λ b. b || eqb n (get_or cs i no_cell).label) (label_stays n cs i (all n lt) other)
]
  where
    or_true : (b : Bool) → (b || true) ≡ true
    or_true true = refl
    or_true false = refl
