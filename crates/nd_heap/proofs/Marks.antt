-- Marks beside old names: which of them lie in no base of a mark.
use Rattle.std.proofs.Common.{◌≡◌, ◌%◌, ◌+◌, ◌<◌, ◌≤◌, ℕ, zero, suc, true, false, not, nat_eq, nat_lt, List, [], ◌∷◌, ◌++◌, length, slice_get, slice_index_or, Some, refl, sym, ap, subst, ◌∙◌, inl, inr, arith}
use Rattle.std.specs.List.{AllZip}
use Rattle.std.proofs.lemmas.Bool.{cases_Bool}
use Rattle.std.proofs.lemmas.Bool.Decides.{nat_tests}
use Rattle.nd_model.specs.Arrays.Value as model
use Rattle.nd_model.specs.Cells.Session.{Names}
use Rattle.nd_heap.specs.Layers.{AreMarked, LieElsewhere}
use Rattle.nd_heap.proofs.Plain.{none_some, some_same, false_true}

abbrev Entry : Type 0
Entry = List ℕ × model.Value

-- a value beside which another mark stands
pub apart_there : (es : Names) (ms : List ℕ) (i : ℕ) (e : Entry) (m k : ℕ) (b : model.Base) → AreMarked es ms → slice_get es i ≡ Some e → Some m ≡ slice_get ms i
    → not (nat_eq m k) ≡ true → b.label % 4294967296 ≡ k → model.lies_in b e.1 ≡ false
apart_there [] ms i e m k b h at mark other own = none_some e at
apart_there (d ∷ es) [] i e m k b h at mark other own = none_some m (sym mark)
apart_there (d ∷ es) (l ∷ ms) zero e m k b h at mark other own = elim (cases_Bool (model.lies_in b e.1)) [
  | inl lies ↦
      let same : m ≡ k = some_same m l mark ∙ sym (h.0 b (ap (λ (d : Entry). model.lies_in b d.1) (some_same d e at) ∙ lies)) ∙ own in
      false_true (grind (arith, nat_tests))
  | inr free ↦ free
]
apart_there (d ∷ es) (l ∷ ms) (suc i) e m k b h at mark other own = apart_there es ms i e m k b h.1 at mark other own

pub none_marked : (es : Names) → AreMarked es []
none_marked [] = tt
none_marked (e ∷ es) = tt

-- the mark of the next value goes behind the others
pub more : (es : Names) (ms : List ℕ) (i : ℕ) (e : Entry) (m : ℕ) → length ms ≡ i → slice_get es i ≡ Some e → ((b : model.Base) → model.lies_in b e.1 ≡ true → b.label % 4294967296 ≡ m)
    → AreMarked es ms → AreMarked es (ms ++ m ∷ [])
more [] ms i e m long at mark h = none_some e at
more (d ∷ es) [] zero e m long at mark h = (λ b lies. mark b (ap (λ (d : Entry). model.lies_in b d.1) (sym (some_same d e at)) ∙ lies), none_marked es)
more (d ∷ es) [] (suc i) e m long at mark h = absurd (omega (arith, long))
more (d ∷ es) (k ∷ ms) zero e m long at mark h = absurd (omega (arith, long))
more (d ∷ es) (k ∷ ms) (suc i) e m long at mark h = (h.0, more es ms i e m (omega (arith, long)) at mark h.1)

-- a clone of the marks
pub same_items : (xs ys : List ℕ) → AllZip (λ x y. y ≡ x) xs ys → ys ≡ xs
same_items [] [] h = refl
same_items [] (y ∷ ys) h = absurd h
same_items (x ∷ xs) [] h = absurd h
same_items (x ∷ xs) (y ∷ ys) h = λ i. h.0 i ∷ same_items xs ys h.1 i

-- ---- stretches of marks without one

pub nowhere : (ms : List ℕ) (m i : ℕ) → LieElsewhere ms m i i
nowhere ms m i = λ es marked k low high e at b own. absurd (omega (arith, low, high))

pub one_elsewhere : (ms : List ℕ) (m i l : ℕ) → Some l ≡ slice_get ms i → not (nat_eq l m) ≡ true → LieElsewhere ms m i (i + 1)
one_elsewhere ms m i l mark other = λ es marked k low high e at b own.
    let here : k ≡ i = omega (arith, low, high) in
    apart_there es ms i e l m b marked (subst (λ j. slice_get es j ≡ Some e) here at) mark other own

pub both_elsewhere : (ms : List ℕ) (m i j n : ℕ) → LieElsewhere ms m i j → LieElsewhere ms m j n → LieElsewhere ms m i n
both_elsewhere ms m i j n first next = λ es marked k low high e at b own. elim (cases_Bool (nat_lt k j)) [
  | inl front ↦ first es marked k low (grind (arith, nat_tests, front)) e at b own
  | inr back ↦ next es marked k (grind (arith, nat_tests, back)) high e at b own
]

pub fewer_elsewhere : (ms : List ℕ) (m i j n : ℕ) → n ≤ j → LieElsewhere ms m i j → LieElsewhere ms m i n
fewer_elsewhere ms m i j n within all = λ es marked k low high. all es marked k low (omega (arith, high, within))

-- a mark that is read
pub mark_read : (ms : List ℕ) (i : ℕ) → i < length ms → Some (slice_index_or ms i 0) ≡ slice_get ms i
mark_read [] i inside = absurd (omega (arith, inside))
mark_read (l ∷ ms) zero inside = refl
mark_read (l ∷ ms) (suc i) inside = mark_read ms i (omega (arith, inside))
