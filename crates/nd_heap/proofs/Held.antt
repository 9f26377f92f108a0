-- The bases that are held.
use Rattle.std.proofs.Common.{◌≡◌, ℕ, Bool, true, false, not, ◌&&◌, ◌||◌, nat_eq, eqb-true, List, [], ◌∷◌, None, cond, refl, sym, ap, ◌∙◌, inl, inr, arith}
use Rattle.std.specs.Map.{lookup as find}
use Rattle.std.specs.Prelude.{is_some, IsFalse}
use Rattle.indexmap.specs.IndexMap.{insert_entry}
use Rattle.std.proofs.lemmas.Bool.{cases_Bool, and_parts}
use Rattle.std.proofs.lemmas.Bool.Decides.{nat_tests}
use Rattle.nd_model.specs.Arrays.Value as model
use Rattle.nd_heap.specs.declared.value.Base.{Base}
use Rattle.nd_heap.specs.Values.{base_of}
use Rattle.nd_heap.specs.Contents.{bases_of}
use Rattle.nd_heap.specs.Live.{is_base_among}
use Rattle.nd_heap.proofs.Bases.{base_eq, base_eq_sym}
use Rattle.nd_heap.proofs.Plain.{false_true, and_false, and_true}
use Rattle.nd_heap.proofs.Same.{base_same}

-- a base is put among the others
pub base-insert : (b : Base) (es : List (Base × Unit {0})) (c : model.Base)
    → is_base_among (bases_of (insert_entry base_eq es b tt)) c ≡ (is_base_among (bases_of es) c || model.same_base c (base_of b))
base-insert b [] c = grind (arith, nat_tests)
base-insert b (e ∷ es) c = elim (cases_Bool (base_eq b e.0)) [
  | inl is ↦ rw is (grind (arith, nat_tests, and_parts))
  | inr other ↦ rw other (grind (arith, nat_tests, base-insert b es c))
]

-- a base that is found is among them
pub found_base : (b : Base) (es : List (Base × Unit {0})) → is_base_among (bases_of es) (base_of b) ≡ is_some (find (base_eq b) es)
found_base b [] = refl
found_base b (e ∷ es) = rw (base_eq_sym e.0 b) (elim (cases_Bool (base_eq b e.0)) [ inl is ↦ rw is refl | inr other ↦ rw other (found_base b es) ])

-- a base is taken out
pub taken_base : (base : Base) (es fs : List (Base × Unit {0})) → ((q : Base) → find (base_eq q) fs ≡ cond (base_eq base q) None (find (base_eq q) es)) → (b : model.Base)
    → is_base_among (bases_of fs) b ≡ (is_base_among (bases_of es) b && not (model.same_base b (base_of base)))
taken_base base es fs updates b =
    let q : Base = record { label = b.label; number = b.number } in
    found_base q fs ∙ ap is_some (updates q) ∙ (elim (cases_Bool (base_eq base q)) [
      | inl same ↦ rw same (sym (and_false (is_base_among (bases_of es) b)))
      | inr apart ↦ rw apart (sym (found_base q es) ∙ sym (and_true (is_base_among (bases_of es) b)))
    ]) ∙ ap (λ t. is_base_among (bases_of es) b && not t) (sym (base_eq_sym q base))

-- what is taken out one after another
pub both_out : (there held here : Bool) → ((there && not held) && not here) ≡ (there && not (held || here))
both_out false held here = refl
both_out true true here = refl
both_out true false here = refl

-- what is kept of a block of no bytes
pub none_kept : (h : Bool) (bytes : List ℕ) → bytes ≡ [] → bytes ≡ cond h bytes []
none_kept true bytes e = refl
none_kept false bytes e = e

-- a label's test
pub in_label : (label : ℕ) (c : model.Base) (v : model.Value) → ((b : model.Base) → model.lies_in b v ≡ model.same_base b c)
    → (IsFalse (nat_eq c.label label) → (b : model.Base) → b.label ≡ label → model.lies_in b v ≡ false) × (((b : model.Base) → b.label ≡ label → model.lies_in b v ≡ false) → IsFalse (nat_eq c.label label))
in_label label c v is = (
  λ f b own. is b ∙ apart b f own,
  λ all. elim (cases_Bool (nat_eq c.label label)) [
    | inl own ↦ false_true (sym (all c (eqb-true _ _ own)) ∙ is c ∙ base_same c)
    | inr other ↦ other
  ],
)
  where
    apart : (b : model.Base) → nat_eq c.label label ≡ false → b.label ≡ label → model.same_base b c ≡ false
    apart b f own = grind (arith, nat_tests)
