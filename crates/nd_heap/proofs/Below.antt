-- Old names below newer ones: which of them hold a base.
use Rattle.std.proofs.Common.{◌≡◌, ◌<◌, ◌≤◌, ◌%◌, ℕ, zero, suc, ◌+◌, ◌-◌, Bool, true, false, not, ◌||◌, cond, bytes_eq, List, [], ◌∷◌, length, drop, slice_get, Option, Some, None, is_some, option_map, unwrap_or, Global, add-one, refl, sym, ap, subst, ◌∙◌, inl, inr, arith}
use Rattle.std.specs.Rc.{rc_str_bytes}
use Rattle.std.specs.declared.rc.RcStr.{RcStr}
use Rattle.std.proofs.lemmas.Bool.{cases_Bool, or_parts, or_from, or_right}
use Rattle.nd_model.specs.Arrays.Value as model
use Rattle.nd_model.specs.Cells.Session.{Names, lookup, is_held}
use Rattle.nd_heap.specs.Layers.{AreMarked, LieElsewhere, overridden}
use Rattle.nd_heap.specs.Values.{value_of, names_of}
use Rattle.nd_heap.proofs.NameLists.{SharedValue, names-get}
use Rattle.nd_heap.proofs.Plain.{none_some, some_same, false_true}

-- a base is held where the value that is found lies in it
pub held_found : (b : model.Base) (n : List ℕ) (v : model.Value) (es : Names) → lookup n es ≡ Some v → model.lies_in b v ≡ true → is_held b es ≡ true
held_found b n v [] found lies = none_some v found
held_found b n v (e ∷ es) found lies = elim (cases_Bool (bytes_eq n e.0)) [
  | inl is ↦
      let this : model.lies_in b e.1 ≡ true = ap (model.lies_in b) (some_same e.1 v (sym (ap (λ t. cond t (Some e.1) (lookup n es)) is) ∙ found)) ∙ lies in
      rw this refl
  | inr other ↦ or_right _ _ (held_found b n v es (sym (ap (λ t. cond t (Some e.1) (lookup n es)) other) ∙ found) lies)
]

-- the value that counts lies in no base that neither the newer ones nor the old value lie in
unheld_value : (b : model.Base) (n : List ℕ) (v : model.Value) (newer : Names) → is_held b newer ≡ false → model.lies_in b v ≡ false → model.lies_in b (unwrap_or (lookup n newer) v) ≡ false
unheld_value b n v [] h f = f
unheld_value b n v (e ∷ es) h f =
    let parts = or_parts (model.lies_in b e.1) _ h in
    elim (cases_Bool (bytes_eq n e.0)) [ inl is ↦ rw is parts.0 | inr other ↦ rw other (unheld_value b n v es parts.1 f) ]

-- nor where there is a newer one
newer_value : (b : model.Base) (n : List ℕ) (v : model.Value) (newer : Names) → is_held b newer ≡ false → is_some (lookup n newer) ≡ true → model.lies_in b (unwrap_or (lookup n newer) v) ≡ false
newer_value b n v [] h there = false_true there
newer_value b n v (e ∷ es) h there =
    let parts = or_parts (model.lies_in b e.1) _ h in
    elim (cases_Bool (bytes_eq n e.0)) [
      | inl is ↦ rw is parts.0
      | inr other ↦ rw other (newer_value b n v es parts.1 (sym (ap (λ t. is_some (cond t (Some e.1) (lookup n es))) other) ∙ there))
    ]

old_value : (b : model.Base) (n : List ℕ) (v : model.Value) (newer : Names) → is_some (lookup n newer) ≡ false → model.lies_in b v ≡ true → model.lies_in b (unwrap_or (lookup n newer) v) ≡ true
old_value b n v newer none lies = go (lookup n newer) none
  where
    go : (o : Option model.Value) → is_some o ≡ false → model.lies_in b (unwrap_or o v) ≡ true
    go None h = lies
    go (Some w) h = false_true (sym h)

abbrev Entries : Type 0
Entries = List (RcStr Global × SharedValue)

from' : (b : model.Base) (newer : Names) (es : Entries) (i : ℕ) (e : RcStr Global × SharedValue) → slice_get es i ≡ Some e
    → is_held b (overridden newer (names_of (drop i es))) ≡ (model.lies_in b (unwrap_or (lookup (rc_str_bytes e.0) newer) (value_of e.1.value)) || is_held b (overridden newer (names_of (drop (suc i) es))))
from' b newer [] i e h = none_some e h
from' b newer (d ∷ es) zero e h = ap (λ (d : RcStr Global × SharedValue). model.lies_in b (unwrap_or (lookup (rc_str_bytes d.0) newer) (value_of d.1.value)) || is_held b (overridden newer (names_of es))) (some_same d e h)
from' b newer (d ∷ es) (suc i) e h = from' b newer es i e h

from : (b : model.Base) (newer : Names) (es : Entries) (i : ℕ) (e : RcStr Global × SharedValue) → slice_get es i ≡ Some e
    → is_held b (overridden newer (names_of (drop i es))) ≡ (model.lies_in b (unwrap_or (lookup (rc_str_bytes e.0) newer) (value_of e.1.value)) || is_held b (overridden newer (names_of (drop (i + 1) es))))
from b newer es i e h = from' b newer es i e h ∙ ap (λ j. model.lies_in b (unwrap_or (lookup (rc_str_bytes e.0) newer) (value_of e.1.value)) || is_held b (overridden newer (names_of (drop j es)))) (sym (add-one i))

behind : (b : model.Base) (newer : Names) (es : Entries) (i : ℕ) → is_held b (overridden newer (names_of (drop i es))) ≡ true → is_held b (overridden newer (names_of es)) ≡ true
behind b newer [] zero h = h
behind b newer [] (suc i) h = h
behind b newer (e ∷ es) zero h = h
behind b newer (e ∷ es) (suc i) h = or_right _ _ (behind b newer es i h)

-- an old name holds it that has no newer value
pub held_below : (b : model.Base) (newer : Names) (es : Entries) (i : ℕ) (e : RcStr Global × SharedValue) → slice_get es i ≡ Some e → is_some (lookup (rc_str_bytes e.0) newer) ≡ false → model.lies_in b (value_of e.1.value) ≡ true
    → is_held b (overridden newer (names_of es)) ≡ true
held_below b newer es i e at none lies = behind b newer es i (from b newer es i e at ∙ rw (old_value b (rc_str_bytes e.0) (value_of e.1.value) newer none lies) refl)

-- and another name does not
pub free_below : (b : model.Base) (newer : Names) (es : Entries) (i : ℕ) (e : RcStr Global × SharedValue) → slice_get es i ≡ Some e → is_held b newer ≡ false → model.lies_in b (value_of e.1.value) ≡ false
    → is_held b (overridden newer (names_of (drop (i + 1) es))) ≡ false → is_held b (overridden newer (names_of (drop i es))) ≡ false
free_below b newer es i e at free lies h = from b newer es i e at ∙ or_from _ _ (unheld_value b (rc_str_bytes e.0) (value_of e.1.value) newer free lies) h

pub newer_below : (b : model.Base) (newer : Names) (es : Entries) (i : ℕ) (e : RcStr Global × SharedValue) → slice_get es i ≡ Some e → is_held b newer ≡ false → is_some (lookup (rc_str_bytes e.0) newer) ≡ true
    → is_held b (overridden newer (names_of (drop (i + 1) es))) ≡ false → is_held b (overridden newer (names_of (drop i es))) ≡ false
newer_below b newer es i e at free there h = from b newer es i e at ∙ or_from _ _ (newer_value b (rc_str_bytes e.0) (value_of e.1.value) newer free there) h

-- what is found tells whether there is a newer value
pub has_none : {X : Type 0} (f : X → model.Value) (o : Option X) (l : Option model.Value) (t : Bool) → option_map f o ≡ l → is_some o ≡ not t → t ≡ true → is_some l ≡ false
has_none f None l t is test none = ap is_some (sym is)
has_none f (Some x) l t is test none = false_true (sym (ap not none) ∙ sym test)

pub has_some : {X : Type 0} (f : X → model.Value) (o : Option X) (l : Option model.Value) (t : Bool) → option_map f o ≡ l → is_some o ≡ not t → t ≡ false → is_some l ≡ true
has_some f None l t is test some = false_true (test ∙ ap not some)
has_some f (Some x) l t is test some = ap is_some (sym is)

entry : (es : Entries) (i : ℕ) → i < length es → (e : RcStr Global × SharedValue) × (slice_get es i ≡ Some e)
entry [] i h = absurd (omega (arith, h))
entry (e ∷ es) zero h = (e, refl)
entry (e ∷ es) (suc i) h = entry es i (omega (arith, h))

-- nor do names in a row whose marks are others
free_row : (b : model.Base) (newer : Names) (es : Entries) (ms : List ℕ) (i d : ℕ) → is_held b newer ≡ false → AreMarked (names_of es) ms → LieElsewhere ms (b.label % 4294967296) i (i + d) → i + d ≤ length es
    → is_held b (overridden newer (names_of (drop (i + d) es))) ≡ false → is_held b (overridden newer (names_of (drop i es))) ≡ false
free_row b newer es ms i zero free marked row within h = subst (λ j. is_held b (overridden newer (names_of (drop j es))) ≡ false) (omega arith) h
free_row b newer es ms i (suc d) free marked row within h =
    let e = entry es (i + d) (omega (arith, within)) in
    let lies : model.lies_in b (value_of e.0.1.value) ≡ false = row (names_of es) marked (i + d) (omega arith) (omega arith) _ (names-get es (i + d) ∙ ap (option_map (λ (e : RcStr Global × SharedValue). (rc_str_bytes e.0, value_of e.1.value))) e.1) b refl in
    let next : i + suc d ≡ i + d + 1 = omega arith in
    free_row b newer es ms i d free marked (λ fs m k low high. row fs m k low (omega (arith, high))) (omega (arith, within))
    (free_below b newer es (i + d) e.0 e.1 free lies (subst (λ j. is_held b (overridden newer (names_of (drop j es))) ≡ false) next h))

pub free_between : (b : model.Base) (newer : Names) (es : Entries) (ms : List ℕ) (m i j : ℕ) → is_held b newer ≡ false → AreMarked (names_of es) ms → b.label % 4294967296 ≡ m → LieElsewhere ms m i j → i ≤ j → j ≤ length es
    → is_held b (overridden newer (names_of (drop j es))) ≡ false → is_held b (overridden newer (names_of (drop i es))) ≡ false
free_between b newer es ms m i j free marked own row order within h =
    let end : j ≡ i + (j - i) = omega (arith, order) in
    free_row b newer es ms i (j - i) free marked (subst (λ j. LieElsewhere ms (b.label % 4294967296) i j) end (subst (λ m. LieElsewhere ms m i j) (sym own) row))
    (omega (arith, order, within)) (subst (λ j. is_held b (overridden newer (names_of (drop j es))) ≡ false) end h)
