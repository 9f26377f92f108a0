-- Loose bases: what loses its last name is among them.
use Rattle.std.proofs.Common.{◌≡◌, ℕ, suc, zero, Bool, true, false, nat_eq, not, ◌&&◌, ◌||◌, ◌≤◌, cond, bytes_eq, List, [], ◌∷◌, length, drop, filter, Some, Global, refl, sym, ap, ◌∙◌, inl, inr, arith}
use Rattle.std.specs.declared.rc.RcStr.{RcStr}
use Rattle.std.specs.List.{AllByRecursion}
use Rattle.std.proofs.lemmas.Bool.{cases_Bool, or_parts, or_from, or_right}
use Rattle.std.proofs.lemmas.Bool.Decides.{nat_tests}
use Rattle.nd_model.specs.Arrays.Value as model
use Rattle.nd_model.specs.Cells.Session.{Names, lookup, bind, is_held}
use Rattle.nd_model.specs.Cells.Running as running
use Rattle.nd_heap.specs.declared.value.Base.{Base}
use Rattle.nd_heap.specs.Values.{base_of, names_of}
use Rattle.nd_heap.specs.Contents.{bases_of}
use Rattle.nd_heap.specs.Live.{bytes_at, is_base_among}
use Rattle.nd_heap.specs.Loose.{HeapData, AreLoose, lies_in_found}
use Rattle.nd_heap.proofs.Entries.{AllBefore, all_of}
use Rattle.nd_heap.proofs.NameLists.{SharedValue}
use Rattle.nd_heap.proofs.Plain.{false_true, and_false, no_entries}
use Rattle.nd_heap.proofs.Same.{same_bases}

-- a base of which another name's value is left is held by it
pub held_bind : (b : model.Base) (n : List ℕ) (v : model.Value) (es : Names) → is_held b (bind n v es) ≡ false → lies_in_found b (lookup n es) ≡ false → is_held b es ≡ false
held_bind b n v [] h f = refl
held_bind b n v (e ∷ es) h f = elim (cases_Bool (bytes_eq n e.0)) [
  | inl is ↦
      let others : is_held b es ≡ false = (or_parts (model.lies_in b v) _ (sym (ap (λ t. is_held b (cond t ((e.0, v) ∷ es) (e ∷ bind n v es))) is) ∙ h)).1 in
      let this : model.lies_in b e.1 ≡ false = sym (ap (λ t. lies_in_found b (cond t (Some e.1) (lookup n es))) is) ∙ f in
      or_from _ _ this others
  | inr other ↦
      let parts = or_parts (model.lies_in b e.1) _ (sym (ap (λ t. is_held b (cond t ((e.0, v) ∷ es) (e ∷ bind n v es))) other) ∙ h) in
      let behind : lies_in_found b (lookup n es) ≡ false = sym (ap (λ t. lies_in_found b (cond t (Some e.1) (lookup n es))) other) ∙ f in
      or_from _ _ parts.0 (held_bind b n v es parts.1 behind)
]

-- one of the last names holds it
pub held_behind : (b : model.Base) (es : List (RcStr Global × SharedValue)) (i : ℕ) → is_held b (names_of (drop i es)) ≡ true → is_held b (names_of es) ≡ true
held_behind b [] zero h = h
held_behind b [] (suc i) h = h
held_behind b (e ∷ es) zero h = h
held_behind b (e ∷ es) (suc i) h = or_right _ _ (held_behind b es i h)

-- bases that pass a test are left
pub left_by : (test : model.Base → Bool) (es : List (Base × Unit {0})) (b : model.Base)
    → is_base_among (bases_of (filter (λ e. test (base_of e.0)) es)) b ≡ (is_base_among (bases_of es) b && test b)
left_by test [] b = refl
left_by test (e ∷ es) b = elim (cases_Bool (model.same_base (base_of e.0) b)) [
  | inl same ↦
      let is : base_of e.0 ≡ b = same_bases (base_of e.0) b same in
      elim (cases_Bool (test b)) [
        | inl passes ↦
            let here : test (base_of e.0) ≡ true = ap test is ∙ passes in
            rw (here, same, passes) refl
        | inr fails ↦
            let here : test (base_of e.0) ≡ false = ap test is ∙ fails in
            rw (here, same, fails) (left_by test es b ∙ rw fails (and_false (is_base_among (bases_of es) b)))
      ]
  | inr apart ↦ elim (cases_Bool (test (base_of e.0))) [
    | inl passes ↦ rw (passes, apart) (left_by test es b)
    | inr fails ↦ rw (fails, apart) (left_by test es b)
  ]
]

-- ---- heaps

-- more bases are loose
pub more_loose : (names : Names) (blocks : List (model.Base × List ℕ)) (old new : List model.Base) → ((b : model.Base) → is_base_among new b ≡ false → is_base_among old b ≡ false)
    → AreLoose (record { names = names; blocks = blocks; loose = old }) → AreLoose (record { names = names; blocks = blocks; loose = new })
more_loose names blocks old new more h = λ b free unheld. h b (more b free) unheld

-- bases without bytes need not be loose
pub full_loose : (names : Names) (blocks : List (model.Base × List ℕ)) (old new : List model.Base) → ((b : model.Base) → is_base_among new b ≡ (is_base_among old b && not (nat_eq (length (bytes_at blocks b)) 0)))
    → AreLoose (record { names = names; blocks = blocks; loose = old }) → AreLoose (record { names = names; blocks = blocks; loose = new })
full_loose names blocks old new left h = λ b free unheld. elim (cases_Bool (is_base_among old b)) [
  | inl was ↦ elim (cases_Bool (nat_eq (length (bytes_at blocks b)) 0)) [
    | inl none ↦ let e : length (bytes_at blocks b) ≡ 0 = grind (arith, nat_tests) in no_entries (bytes_at blocks b) e
    | inr some ↦ false_true (sym free ∙ left b ∙ rw (was, some) refl)
  ]
  | inr never ↦ h b never unheld
]

-- a name gets another value, or loses its own
pub lost_loose : (n : List ℕ) (names after : Names) (blocks : List (model.Base × List ℕ)) (old new : List model.Base)
    → ((b : model.Base) → is_base_among new b ≡ (is_base_among old b || lies_in_found b (lookup n names)))
    → ((b : model.Base) → is_held b after ≡ false → lies_in_found b (lookup n names) ≡ false → is_held b names ≡ false)
    → AreLoose (record { names = names; blocks = blocks; loose = old }) → AreLoose (record { names = after; blocks = blocks; loose = new })
lost_loose n names after blocks old new loose loses h = λ b free unheld.
    let parts = or_parts _ _ (sym (loose b) ∙ free) in
    h b parts.0 (loses b unheld parts.1)

-- a base that is not loose any more was not loose
pub more_free : (old new : List model.Base) → ((b : model.Base) → is_base_among old b ≡ true → is_base_among new b ≡ true)
    → (b : model.Base) → is_base_among new b ≡ false → is_base_among old b ≡ false
more_free old new more b free = elim (cases_Bool (is_base_among old b)) [
  | inl was ↦ false_true (sym free ∙ more b was)
  | inr never ↦ never
]

-- the value that a name is bound to holds its base
pub held_bound : (b : model.Base) (n : List ℕ) (v : model.Value) (es : Names) → is_held b (bind n v es) ≡ false → model.lies_in b v ≡ false
held_bound b n v [] h = (or_parts (model.lies_in b v) _ h).0
held_bound b n v (e ∷ es) h = elim (cases_Bool (bytes_eq n e.0)) [
  | inl is ↦ (or_parts (model.lies_in b v) _ (sym (ap (λ t. is_held b (cond t ((e.0, v) ∷ es) (e ∷ bind n v es))) is) ∙ h)).0
  | inr other ↦ held_bound b n v es (or_parts (model.lies_in b e.1) _ (sym (ap (λ t. is_held b (cond t ((e.0, v) ∷ es) (e ∷ bind n v es))) other) ∙ h)).1
]

-- a name gets another value: the base of the one before is loose, or the other lies in it
pub bound_loose : (n : List ℕ) (v : model.Value) (names after : Names) (blocks : List (model.Base × List ℕ)) (old new : List model.Base) → after ≡ bind n v names
    → ((b : model.Base) → is_base_among old b ≡ true → is_base_among new b ≡ true)
    → ((b : model.Base) → lies_in_found b (lookup n names) ≡ true → (is_base_among new b || model.lies_in b v) ≡ true)
    → AreLoose (record { names = names; blocks = blocks; loose = old }) → AreLoose (record { names = after; blocks = blocks; loose = new })
bound_loose n v names after blocks old new is more lost h = λ b free unheld.
    let bound : is_held b (bind n v names) ≡ false = sym (ap (is_held b) is) ∙ unheld in
    let apart : lies_in_found b (lookup n names) ≡ false = elim (cases_Bool (lies_in_found b (lookup n names))) [
      | inl lay ↦ false_true (sym (or_from _ _ free (held_bound b n v names bound)) ∙ lost b lay)
      | inr other ↦ other
    ] in
    h b (more_free old new more b free) (held_bind b n v names bound apart)

-- a block is put under a base that is loose, or held
pub put_loose : (base : model.Base) (block : List ℕ) (names : Names) (blocks after : List (model.Base × List ℕ)) (old new : List model.Base)
    → ((c : model.Base) → is_base_among old c ≡ true → is_base_among new c ≡ true)
    → (bytes_at blocks base ≡ [] → is_base_among new base ≡ true) → bytes_at after ≡ running.with_base base block (bytes_at blocks)
    → AreLoose (record { names = names; blocks = blocks; loose = old }) → AreLoose (record { names = names; blocks = after; loose = new })
put_loose base block names blocks after old new more empty put h = λ b free unheld.
    let lacks : bytes_at blocks b ≡ [] = h b (more_free old new more b free) unheld in
    ap (λ (f : model.Base → List ℕ). f b) put ∙ elim (cases_Bool (model.same_base base b)) [
      | inl is ↦
          let same = same_bases base b is in
          false_true (sym free ∙ sym (ap (is_base_among new) same) ∙ empty (ap (bytes_at blocks) same ∙ lacks))
      | inr apart ↦ rw apart lacks
    ]

-- a block is written, which stays as long as it was
pub written_loose : (base : model.Base) (w : List ℕ) (names : Names) (blocks after : List (model.Base × List ℕ)) (loose : List model.Base)
    → length w ≡ length (bytes_at blocks base) → bytes_at after ≡ running.with_base base w (bytes_at blocks)
    → AreLoose (record { names = names; blocks = blocks; loose = loose }) → AreLoose (record { names = names; blocks = after; loose = loose })
written_loose base w names blocks after loose same put h = λ b free unheld.
    ap (λ (f : model.Base → List ℕ). f b) put ∙ elim (cases_Bool (model.same_base base b)) [
      | inl is ↦ rw is (no_entries w (same ∙ ap (λ c. length (bytes_at blocks c)) (same_bases base b is) ∙ ap length (h b free unheld)))
      | inr apart ↦ rw apart (h b free unheld)
    ]

-- the same bytes
pub same_loose : (names after : Names) (blocks others : List (model.Base × List ℕ)) (loose : List model.Base) → after ≡ names → bytes_at others ≡ bytes_at blocks
    → AreLoose (record { names = names; blocks = blocks; loose = loose }) → AreLoose (record { names = after; blocks = others; loose = loose })
same_loose names after blocks others loose is same h = λ b free unheld.
    ap (λ (f : model.Base → List ℕ). f b) same ∙ h b free (sym (ap (is_held b) is) ∙ unheld)

-- what is collected
pub collected_bytes : (names : Names) (blocks after : List (model.Base × List ℕ)) (old new : List model.Base)
    → ((b : model.Base) → is_base_among new b ≡ (is_base_among old b && not (is_held b names)))
    → ((b : model.Base) → bytes_at after b ≡ cond (is_base_among new b) [] (bytes_at blocks b))
    → AreLoose (record { names = names; blocks = blocks; loose = old }) → (b : model.Base) → bytes_at after b ≡ cond (is_held b names) (bytes_at blocks b) []
collected_bytes names blocks after old new left removed h b = elim (cases_Bool (is_held b names)) [
  | inl held ↦
      let stays : is_base_among new b ≡ false = left b ∙ rw held (and_false (is_base_among old b)) in
      rw held (removed b ∙ rw stays refl)
  | inr free ↦ rw free (elim (cases_Bool (is_base_among old b)) [
    | inl was ↦ let gone : is_base_among new b ≡ true = left b ∙ rw (was, free) refl in removed b ∙ rw gone refl
    | inr never ↦ let stays : is_base_among new b ≡ false = left b ∙ rw never refl in removed b ∙ rw stays (h b never free)
  ])
]

-- nothing is collected where each base that is loose is held
pub kept_bytes : (names : Names) (blocks : List (model.Base × List ℕ)) (loose : List model.Base) → ((b : model.Base) → is_base_among loose b ≡ true → is_held b names ≡ true)
    → AreLoose (record { names = names; blocks = blocks; loose = loose }) → (b : model.Base) → bytes_at blocks b ≡ cond (is_held b names) (bytes_at blocks b) []
kept_bytes names blocks loose held h b = elim (cases_Bool (is_held b names)) [
  | inl is ↦ rw is refl
  | inr free ↦ rw free (elim (cases_Bool (is_base_among loose b)) [
    | inl was ↦ false_true (sym free ∙ held b was)
    | inr never ↦ h b never free
  ])
]

held_all : (names : Names) (es : List (Base × Unit {0})) → AllByRecursion (λ (e : Base × Unit {0}). is_held (base_of e.0) names ≡ true) es
    → (b : model.Base) → is_base_among (bases_of es) b ≡ true → is_held b names ≡ true
held_all names [] h b among = false_true among
held_all names (e ∷ es) h b among = elim (cases_Bool (model.same_base (base_of e.0) b)) [
  | inl same ↦ ap (λ c. is_held c names) (sym (same_bases (base_of e.0) b same)) ∙ h.0
  | inr apart ↦ held_all names es h.1 b (sym (ap (λ t. t || is_base_among (bases_of es) b) apart) ∙ among)
]

-- each base of a set was found to be held
pub held_each : (names : Names) (es : List (Base × Unit {0})) (i : ℕ) → length es ≤ i → AllBefore (λ (e : Base × Unit {0}). is_held (base_of e.0) names ≡ true) es i
    → (b : model.Base) → is_base_among (bases_of es) b ≡ true → is_held b names ≡ true
held_each names es i long h = held_all names es (all_of (λ (e : Base × Unit {0}). is_held (base_of e.0) names ≡ true) es i long h)

-- what is collected of a label
pub collected_label : (label : ℕ) (names : Names) (blocks after : List (model.Base × List ℕ)) (old own lost : List model.Base)
    → ((b : model.Base) → is_base_among own b ≡ (is_base_among old b && nat_eq b.label label))
    → ((b : model.Base) → is_base_among lost b ≡ (is_base_among own b && not (is_held b names)))
    → ((b : model.Base) → bytes_at after b ≡ cond (is_base_among lost b) [] (bytes_at blocks b))
    → AreLoose (record { names = names; blocks = blocks; loose = old })
    → (b : model.Base) → bytes_at after b ≡ cond (nat_eq b.label label && not (is_held b names)) [] (bytes_at blocks b)
collected_label label names blocks after old own lost labelled left removed h b =
    removed b ∙ ap (λ t. cond t [] (bytes_at blocks b)) (left b ∙ ap (λ t. t && not (is_held b names)) (labelled b))
    ∙ elim (cases_Bool (is_base_among old b)) [
      | inl was ↦ rw was refl
      | inr never ↦ rw never (elim (cases_Bool (is_held b names)) [
        | inl held ↦ rw held (ap (λ t. cond t [] (bytes_at blocks b)) (sym (and_false (nat_eq b.label label))))
        | inr free ↦ let lacks : bytes_at blocks b ≡ [] = h b never free in rw lacks (sym (nothing (nat_eq b.label label && not (is_held b names))))
      ])
    ]
  where
    nothing : (t : Bool) → ◌≡◌ {A = List ℕ} (cond t [] []) []
    nothing true = refl
    nothing false = refl

-- after that no base of the label need be loose
pub label_loose : (label : ℕ) (names : Names) (blocks after : List (model.Base × List ℕ)) (old new : List model.Base)
    → ((b : model.Base) → is_base_among new b ≡ (is_base_among old b && not (nat_eq b.label label)))
    → ((b : model.Base) → bytes_at after b ≡ cond (nat_eq b.label label && not (is_held b names)) [] (bytes_at blocks b))
    → AreLoose (record { names = names; blocks = blocks; loose = old }) → AreLoose (record { names = names; blocks = after; loose = new })
label_loose label names blocks after old new left is h = λ b free unheld. is b ∙ elim (cases_Bool (nat_eq b.label label)) [
  | inl own ↦ rw (own, unheld) refl
  | inr other ↦ rw other (h b (was_free b other free) unheld)
]
  where
    was_free : (b : model.Base) → nat_eq b.label label ≡ false → is_base_among new b ≡ false → is_base_among old b ≡ false
    was_free b other free = elim (cases_Bool (is_base_among old b)) [
      | inl was ↦ false_true (sym free ∙ left b ∙ rw (was, other) refl)
      | inr never ↦ never
    ]

-- after that no base need be loose
pub none_loose : (names : Names) (blocks : List (model.Base × List ℕ)) (loose : List model.Base) (old : model.Base → List ℕ) → ((b : model.Base) → bytes_at blocks b ≡ cond (is_held b names) (old b) [])
    → AreLoose (record { names = names; blocks = blocks; loose = loose })
none_loose names blocks loose old is = λ b free unheld. is b ∙ rw unheld refl

-- a heap of the same parts
pub same_heap : (names after : Names) (blocks others : List (model.Base × List ℕ)) (old new : List model.Base) → after ≡ names → others ≡ blocks → new ≡ old
    → ◌≡◌ {A = HeapData} (record { names = after; blocks = others; loose = new }) (record { names = names; blocks = blocks; loose = old })
same_heap names after blocks others old new a b d = λ i. record { names = a i; blocks = b i; loose = d i }
