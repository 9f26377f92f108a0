-- Places places of several bases.
use Rattle.std.proofs.Common.{◌≡◌, ℕ, Bool, true, false, cond, ◌&&◌, ◌||◌, List, [], ◌∷◌, Some, None, Option, refl, sym, ap, ◌∙◌, inl, inr, arith}
use Rattle.std.specs.Map.{lookup as find}
use Rattle.indexmap.specs.IndexMap.{insert_entry}
use Rattle.std.specs.Map.{set_value}
use Rattle.std.proofs.lemmas.Bool.{cases_Bool, and_parts}
use Rattle.std.proofs.lemmas.Bool.Decides.{nat_tests}
use Rattle.nd_marks.specs.Marks.{Places, holds}
use Rattle.nd_model.specs.Arrays.Value as model
use Rattle.nd_heap.specs.declared.value.Base.{Base}
use Rattle.nd_heap.specs.Values.{base_of}
use Rattle.nd_trace.specs.Contents.{marks_of}
use Rattle.nd_trace.specs.Marked.{is_marked}
use Rattle.nd_heap.proofs.Same.{same_bases}
use Rattle.nd_heap.proofs.Bases.{base_eq, base_eq_sym}

is_marked-insert : (b : Base) (m : Places) (es : List (Base × Places)) (c : model.Base) (p : ℕ)
    → is_marked (marks_of (insert_entry base_eq es b m)) c p ≡ cond (model.same_base (base_of b) c) (holds m p) (is_marked (marks_of es) c p)
is_marked-insert b m [] c p = refl
is_marked-insert b m (e ∷ es) c p = elim (cases_Bool (base_eq b e.0)) [
  | inl is ↦ rw is (grind (arith, nat_tests, and_parts))
  | inr other ↦ rw other (grind (arith, nat_tests, is_marked-insert b m es c p))
]

-- the marks that are found
abbrev pub found_marks : Option Places → ℕ → Bool
found_marks None p = false
found_marks (Some m) p = holds m p

pub found_marked : (b : Base) (es : List (Base × Places)) (p : ℕ) → is_marked (marks_of es) (base_of b) p ≡ found_marks (find (base_eq b) es) p
found_marked b [] p = refl
found_marked b (e ∷ es) p = rw (base_eq_sym e.0 b) (elim (cases_Bool (base_eq b e.0)) [ inl is ↦ rw is refl | inr other ↦ rw other (found_marked b es p) ])

absorbs : (x y : Bool) → y ≡ false → x ≡ (x || y)
absorbs true y h = refl
absorbs false y h = sym h

-- a base that had no marks gets these
pub joined_new : (b : Base) (m : Places) (es fs : List (Base × Places)) → None ≡ find (base_eq b) es → fs ≡ insert_entry base_eq es b m
    → (c : model.Base) (p : ℕ) → is_marked (marks_of fs) c p ≡ (is_marked (marks_of es) c p || (model.same_base (base_of b) c && holds m p))
joined_new b m es fs none set c p =
    ap (λ fs. is_marked (marks_of fs) c p) set ∙ is_marked-insert b m es c p ∙ elim (cases_Bool (model.same_base (base_of b) c)) [
      | inl same ↦
          let was : is_marked (marks_of es) c p ≡ false = ap (λ c. is_marked (marks_of es) c p) (sym (same_bases (base_of b) c same)) ∙ found_marked b es p ∙ ap (λ o. found_marks o p) (sym none) in
          rw (same, was) refl
      | inr apart ↦ rw apart (absorbs (is_marked (marks_of es) c p) false refl)
    ]

is_marked-set : (b : Base) (v w : Places) (es : List (Base × Places)) → find (base_eq b) es ≡ Some v → (c : model.Base) (p : ℕ)
    → is_marked (marks_of (set_value (base_eq b) es w)) c p ≡ cond (model.same_base (base_of b) c) (holds w p) (is_marked (marks_of es) c p)
is_marked-set b v w [] there c p = cc
is_marked-set b v w (e ∷ es) there c p = elim (cases_Bool (base_eq b e.0)) [
  | inl is ↦ rw is (grind (arith, nat_tests, and_parts))
  | inr other ↦ rw other (grind (arith, nat_tests, is_marked-set b v w es (sym (ap (λ t. cond t (Some e.1) (find (base_eq b) es)) other) ∙ there) c p))
]

-- a base that had marks has others
pub set_there : (b : Base) (v w : Places) (es fs : List (Base × Places)) (m : ℕ → Bool) → fs ≡ set_value (base_eq b) es w → Some v ≡ find (base_eq b) es → ((p : ℕ) → holds w p ≡ (holds v p || m p))
    → (c : model.Base) (p : ℕ) → is_marked (marks_of fs) c p ≡ (is_marked (marks_of es) c p || (model.same_base (base_of b) c && m p))
set_there b v w es fs m set there joined c p =
    ap (λ fs. is_marked (marks_of fs) c p) set ∙ is_marked-set b v w es (sym there) c p ∙ elim (cases_Bool (model.same_base (base_of b) c)) [
      | inl same ↦
          let was : is_marked (marks_of es) c p ≡ holds v p = ap (λ c. is_marked (marks_of es) c p) (sym (same_bases (base_of b) c same)) ∙ found_marked b es p ∙ ap (λ o. found_marks o p) (sym there) in
          rw (same, was) (joined p)
      | inr apart ↦ rw apart (absorbs (is_marked (marks_of es) c p) false refl)
    ]

-- or the same ones
pub kept_there : (b : Base) (v w : Places) (es fs : List (Base × Places)) → fs ≡ set_value (base_eq b) es w → Some v ≡ find (base_eq b) es → ((p : ℕ) → holds w p ≡ holds v p)
    → (c : model.Base) (p : ℕ) → is_marked (marks_of fs) c p ≡ is_marked (marks_of es) c p
kept_there b v w es fs set there same c p =
    set_there b v w es fs (λ p. false) set there (λ p. same p ∙ absorbs (holds v p) false refl) c p
    ∙ sym (absorbs (is_marked (marks_of es) c p) (model.same_base (base_of b) c && false) (nothing (model.same_base (base_of b) c)))
  where
    nothing : (x : Bool) → (x && false) ≡ false
    nothing true = refl
    nothing false = refl
