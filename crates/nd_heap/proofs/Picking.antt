-- Blocks that are taken out, or picked, base by base.
use Rattle.std.proofs.Common.{◌≡◌, ℕ, suc, zero, Bool, true, false, ◌||◌, cond, List, [], ◌∷◌, take, slice_get, Some, None, refl, sym, ap, ◌∙◌, inl, inr}
use Rattle.std.specs.List.{AllZip}
use Rattle.std.specs.Map.{lookup as find}
use Rattle.std.proofs.lemmas.Bool.{cases_Bool}
use Rattle.nd_model.specs.Arrays.Value as model
use Rattle.nd_heap.specs.declared.value.Base.{Base}
use Rattle.nd_heap.specs.Values.{base_of}
use Rattle.nd_heap.specs.Contents.{bases_of, blocks_of}
use Rattle.nd_heap.specs.Live.{bytes_at, is_base_among}
use Rattle.nd_heap.proofs.Bases.{Shared, base_eq, found_bytes, found_block}
use Rattle.nd_heap.proofs.Plain.{none_some, some_same, or_false, or_assoc}
use Rattle.nd_heap.proofs.Same.{same_bases}

-- one base more
pub among_more : (es : List (Base × Unit {0})) (i : ℕ) (e : Base × Unit {0}) (b : model.Base) → slice_get es i ≡ Some e
    → is_base_among (bases_of (take (suc i) es)) b ≡ (is_base_among (bases_of (take i es)) b || model.same_base (base_of e.0) b)
among_more [] i e b at = none_some e at
among_more (d ∷ es) zero e b at = ap (λ (d : Base × Unit {0}). model.same_base (base_of d.0) b || false) (some_same d e at) ∙ or_false (model.same_base (base_of e.0) b)
among_more (d ∷ es) (suc i) e b at = ap (λ t. model.same_base (base_of d.0) b || t) (among_more es i e b at) ∙ or_assoc (model.same_base (base_of d.0) b) _ _

-- a block is taken out
pub removed_one : (base : Base) (es fs : List (Base × Shared)) → ((q : Base) → find (base_eq q) fs ≡ cond (base_eq base q) None (find (base_eq q) es)) → (b : model.Base)
    → bytes_at (blocks_of fs) b ≡ cond (model.same_base (base_of base) b) [] (bytes_at (blocks_of es) b)
removed_one base es fs updates b =
    let q : Base = record { label = b.label; number = b.number } in
    found_block q fs ∙ ap found_bytes (updates q) ∙ elim (cases_Bool (base_eq base q)) [
      | inl same ↦ rw same refl
      | inr apart ↦ rw apart (sym (found_block q es))
    ]

module _ (es : List (Base × Unit {0})) (i : ℕ) (e : Base × Unit {0}) (at : slice_get es i ≡ Some e) (b : model.Base) (new cur : List ℕ) where
  pub removed_more : (old : List ℕ) → new ≡ cond (model.same_base (base_of e.0) b) [] cur → cur ≡ cond (is_base_among (bases_of (take i es)) b) [] old → new ≡ cond (is_base_among (bases_of (take (suc i) es)) b) [] old
  removed_more old one before = one ∙ rw (among_more es i e b at) (elim (cases_Bool (model.same_base (base_of e.0) b)) [
    | inl same ↦ rw same (elim (cases_Bool (is_base_among (bases_of (take i es)) b)) [ inl was ↦ rw was refl | inr never ↦ rw never refl ])
    | inr apart ↦ rw apart (before ∙ ap (λ t. cond t [] old) (sym (or_false (is_base_among (bases_of (take i es)) b))))
  ])

  pub picked_more : (source : model.Base → List ℕ) → new ≡ cond (model.same_base (base_of e.0) b) (source (base_of e.0)) cur → cur ≡ cond (is_base_among (bases_of (take i es)) b) (source b) []
      → new ≡ cond (is_base_among (bases_of (take (suc i) es)) b) (source b) []
  picked_more source one before = one ∙ rw (among_more es i e b at) (elim (cases_Bool (model.same_base (base_of e.0) b)) [
    | inl same ↦ rw same (ap source (same_bases (base_of e.0) b same) ∙ elim (cases_Bool (is_base_among (bases_of (take i es)) b)) [ inl was ↦ rw was refl | inr never ↦ rw never refl ])
    | inr apart ↦ rw apart (before ∙ ap (λ t. cond t (source b) []) (sym (or_false (is_base_among (bases_of (take i es)) b))))
  ])

-- nothing is picked where there is nothing
pub nothing_picked : (t : Bool) (cur source : List ℕ) → cur ≡ cond t source [] → source ≡ [] → cur ≡ []
nothing_picked true cur source is none = is ∙ none
nothing_picked false cur source is none = is

-- a clone of bases
pub cloned_bases : (es fs : List (Base × Unit {0})) → AllZip (λ (p q : Base × Unit {0}). (q.0 ≡ p.0) × (q.1 ≡ p.1)) es fs → bases_of fs ≡ bases_of es
cloned_bases [] [] h = refl
cloned_bases [] (f ∷ fs) h = absurd h
cloned_bases (e ∷ es) [] h = absurd h
cloned_bases (e ∷ es) (f ∷ fs) h = λ i. base_of (h.0.0 i) ∷ cloned_bases es fs h.1 i
