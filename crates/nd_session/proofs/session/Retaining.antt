-- What is kept of a cell's changes.
use Rattle.std.proofs.Common.{◌≡◌, ℕ, suc, Bool, true, false, cond, ◌||◌, ◌&&◌, nat_eq, List, [], ◌∷◌, length, take, filter, slice_get, slice_index, Option, Some, None, refl, sym, ap, ◌∙◌, inl, inr, arith}
use Rattle.std.specs.Map.{lookup as find}
use Rattle.std.proofs.lemmas.Bool.{cases_Bool}
use Rattle.nd_marks.specs.Marks.{Places, holds}
use Rattle.nd_model.specs.Arrays.Value as model
use Rattle.nd_model.specs.Cells.Running as running
use Rattle.nd_model.specs.Cells.Session.{is_held}
use Rattle.nd_model.specs.Cells.Footprint.{replayed, effects_of}
use Rattle.nd_heap.specs.declared.value.Base.{Base}
use Rattle.nd_heap.specs.Values.{base_of}
use Rattle.nd_heap.specs.Contents.{bases_of}
use Rattle.nd_trace.specs.Contents.{marks_of}
use Rattle.nd_session.specs.declared.session.found.FoundBytes.{FoundBytes}
use Rattle.nd_session.specs.Session.Changes.{ended}
use Rattle.nd_session.specs.Session.Found.{by_base, byte_found, bytes_of}
use Rattle.nd_heap.specs.Live.{is_base_among}
use Rattle.nd_trace.specs.Marked.{is_marked}
use Rattle.nd_heap.proofs.Bases.{base_eq}
use Rattle.nd_session.proofs.session.Reading.{bytes_noted, entry_bases, entry_step, or_false, same_base_sym}
use Rattle.nd_heap.proofs.Same.{same_bases}

false_true : {P : Type 0} → false ≡ true → P
false_true e = cc

-- the bases of a label are kept
pub own_kept : (label : ℕ) (es : List (Base × Unit {0})) (b : model.Base) → nat_eq b.label label ≡ true
    → is_base_among (bases_of (filter (λ (e : Base × Unit {0}). nat_eq e.0.label label) es)) b ≡ is_base_among (bases_of es) b
own_kept label [] b own = refl
own_kept label (e ∷ es) b own = elim (cases_Bool (nat_eq e.0.label label)) [
  | inl mine ↦ rw mine (ap (λ t. model.same_base (base_of e.0) b || t) (own_kept label es b own))
  | inr other ↦ rw other (own_kept label es b own ∙ elim (cases_Bool (model.same_base (base_of e.0) b)) [
    | inl same ↦ let none : false ≡ true = sym other ∙ ap (λ (c : model.Base). nat_eq c.label label) (same_bases (base_of e.0) b same) ∙ own in false_true none
    | inr apart ↦ rw apart refl
  ])
]

-- the blocks that it made
pub kept_bases : (r : running.Running) (own : model.Base → Bool) (bytes : model.Base → List ℕ) → ((b : model.Base) → bytes b ≡ cond (own b) (r.bytes b) [])
    → ((b : model.Base) → nat_eq b.label r.label ≡ true → own b ≡ is_held b (replayed r.events []))
    → (b : model.Base) → cond (nat_eq b.label r.label) (cond (is_held b (replayed r.events [])) (bytes b) []) [] ≡ (effects_of (ended r)).bases b
kept_bases r own bytes bytes_is mine b = elim (cases_Bool (nat_eq b.label r.label)) [
  | inl is ↦ rw is (elim (cases_Bool (is_held b (replayed r.events []))) [
    | inl held ↦ rw held (bytes_is b ∙ ap (λ t. cond t (r.bytes b) []) (mine b is ∙ held))
    | inr free ↦ rw free refl
  ])
  | inr other ↦ rw other refl
]

-- ---- the bytes that it wrote to one more base

-- those of the first entries, of bases of other labels
abbrev pub writes_before : ℕ → List (Base × Places) → ℕ → (model.Base → List ℕ) → model.Base → ℕ → Option ℕ
writes_before label es i bytes b p =
    cond (nat_eq b.label label) None (cond (is_base_among (entry_bases (take i es)) b && is_marked (marks_of es) b p) (Some (slice_index (bytes b) p)) None)

module _ (label : ℕ) (bytes : model.Base → List ℕ) (es : List (Base × Places)) (i : ℕ) (e : Base × Places) (at : slice_get es i ≡ Some e) (old : List (Base × FoundBytes)) (b : model.Base) (p : ℕ)
    (before : byte_found old b p ≡ writes_before label es i bytes b p) where
  same_label : model.same_base b (base_of e.0) ≡ true → nat_eq b.label label ≡ nat_eq e.0.label label
  same_label same = ap (λ (c : model.Base). nat_eq c.label label) (same_bases b (base_of e.0) same)

  -- a base of another label
  pub written_more : nat_eq e.0.label label ≡ false → find (base_eq e.0) es ≡ Some e.1 → (new : List (Base × FoundBytes))
      → byte_found new b p ≡ cond (model.same_base b (base_of e.0)) (cond (holds e.1 p) (Some (slice_index (bytes (base_of e.0)) p)) None) (byte_found old b p)
      → byte_found new b p ≡ writes_before label es (suc i) bytes b p
  written_more other found new noted = elim (cases_Bool (nat_eq b.label label)) [
    | inl mine ↦ elim (cases_Bool (model.same_base b (base_of e.0))) [
      | inl same ↦ let none : false ≡ true = sym (same_label same ∙ other) ∙ mine in false_true none
      | inr apart ↦ noted ∙ rw (apart, mine) (before ∙ rw mine refl)
    ]
    | inr away ↦ rw away (bytes_noted bytes (by_base bytes_of old) (by_base bytes_of new) es i e b p at found noted (before ∙ rw away refl))
  ]

  -- a base of the label
  pub written_skip : nat_eq e.0.label label ≡ true → byte_found old b p ≡ writes_before label es (suc i) bytes b p
  written_skip own = before ∙ elim (cases_Bool (nat_eq b.label label)) [
    | inl mine ↦ rw mine refl
    | inr away ↦
        let apart : model.same_base (base_of e.0) b ≡ false = elim (cases_Bool (model.same_base b (base_of e.0))) [
          | inl same ↦ let none : false ≡ true = sym away ∙ same_label same ∙ own in false_true none
          | inr apart ↦ same_base_sym (base_of e.0) b ∙ apart
        ] in
        rw away (ap (λ h. cond (h && is_marked (marks_of es) b p) (Some (slice_index (bytes b) p)) None) (sym (entry_step es i e b at ∙ rw apart (or_false _))))
  ]

-- where nothing is kept, nothing was written
pub none_written : (es : List (Base × FoundBytes)) → length es ≡ 0 → (b : model.Base) (p : ℕ) → byte_found es b p ≡ None
none_written [] none b p = refl
none_written (e ∷ es) none b p = absurd (omega arith)
