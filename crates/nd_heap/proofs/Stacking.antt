-- Blocks in layers.
use Rattle.std.proofs.Common.{◌≡◌, ℕ, zero, suc, ◌+◌, ◌≤◌, Bool, true, false, not, ◌&&◌, ◌||◌, cond, List, [], ◌∷◌, ◌++◌, length, take, drop, slice_get, Some, None, is_some, add-one, refl, sym, ap, ◌∙◌, inl, inr, arith}
use mathlib.Core.Path.{fun_ext}
use Rattle.std.specs.Map.{lookup as find, set_value}
use Rattle.indexmap.specs.IndexMap.{insert_entry}
use Rattle.std.proofs.lemmas.Bool.{cases_Bool, and_parts}
use Rattle.std.proofs.lemmas.Bool.Decides.{nat_tests}
use Rattle.nd_model.specs.Arrays.Value as model
use Rattle.nd_model.specs.Cells.Running as running
use Rattle.nd_heap.specs.declared.value.Base.{Base}
use Rattle.nd_heap.specs.Values.{base_of}
use Rattle.nd_heap.specs.Contents.{bases_of, blocks_of}
use Rattle.nd_heap.specs.Layers.{is_block_among}
use Rattle.nd_heap.specs.Live.{bytes_at, is_base_among}
use Rattle.nd_heap.proofs.Bases.{Shared, base_eq, base_eq_sym}
use Rattle.nd_heap.proofs.Picking.{among_more}
use Rattle.nd_heap.proofs.Plain.{none_some, some_same, and_false, and_true}
use Rattle.nd_heap.proofs.Same.{same_bases}

abbrev pub Stack : Type 0
Stack = List (model.Base × List ℕ)

-- ---- look-ups

pub bytes-stacked : (xs ys : Stack) (b : model.Base) → bytes_at (xs ++ ys) b ≡ cond (is_block_among xs b) (bytes_at xs b) (bytes_at ys b)
bytes-stacked [] ys b = refl
bytes-stacked (x ∷ xs) ys b = elim (cases_Bool (model.same_base x.0 b)) [ inl same ↦ rw same refl | inr apart ↦ rw apart (bytes-stacked xs ys b) ]

pub found_newer : (b : Base) (v : Shared) (es : List (Base × Shared)) (ys : Stack) → Some v ≡ find (base_eq b) es → bytes_at (blocks_of es ++ ys) (base_of b) ≡ v.value
found_newer b v [] ys h = none_some v (sym h)
found_newer b v (e ∷ es) ys h = rw (base_eq_sym e.0 b) (elim (cases_Bool (base_eq b e.0)) [
  | inl is ↦ rw is (ap (λ (v : Shared). v.value) (some_same e.1 v (sym (h ∙ ap (λ t. cond t (Some e.1) (find (base_eq b) es)) is))))
  | inr other ↦ rw other (found_newer b v es ys (h ∙ ap (λ t. cond t (Some e.1) (find (base_eq b) es)) other))
])

pub found_older : (b : Base) (es : List (Base × Shared)) (ys : Stack) → None ≡ find (base_eq b) es → bytes_at (blocks_of es ++ ys) (base_of b) ≡ bytes_at ys (base_of b)
found_older b [] ys h = refl
found_older b (e ∷ es) ys h = rw (base_eq_sym e.0 b) (elim (cases_Bool (base_eq b e.0)) [
  | inl is ↦ none_some e.1 (h ∙ ap (λ t. cond t (Some e.1) (find (base_eq b) es)) is)
  | inr other ↦ rw other (found_older b es ys (h ∙ ap (λ t. cond t (Some e.1) (find (base_eq b) es)) other))
])

pub among_found : (b : Base) (es : List (Base × Shared)) → is_block_among (blocks_of es) (base_of b) ≡ is_some (find (base_eq b) es)
among_found b [] = refl
among_found b (e ∷ es) = rw (base_eq_sym e.0 b) (elim (cases_Bool (base_eq b e.0)) [ inl is ↦ rw is refl | inr other ↦ rw other (among_found b es) ])

-- ---- blocks that are put

bytes-insert : (b : Base) (block : Shared) (es : List (Base × Shared)) (ys : Stack) (c : model.Base)
    → bytes_at (blocks_of (insert_entry base_eq es b block) ++ ys) c ≡ running.with_base (base_of b) block.value (bytes_at (blocks_of es ++ ys)) c
bytes-insert b block [] ys c = refl
bytes-insert b block (e ∷ es) ys c = elim (cases_Bool (base_eq b e.0)) [
  | inl is ↦ rw is (grind (arith, nat_tests, and_parts))
  | inr other ↦ rw other (grind (arith, nat_tests, bytes-insert b block es ys c))
]

pub put_newer : (b : Base) (block : Shared) (es fs : List (Base × Shared)) (ys : Stack) → fs ≡ insert_entry base_eq es b block
    → bytes_at (blocks_of fs ++ ys) ≡ running.with_base (base_of b) block.value (bytes_at (blocks_of es ++ ys))
put_newer b block es fs ys is = ap (λ fs. bytes_at (blocks_of fs ++ ys)) is ∙ fun_ext (bytes-insert b block es ys)

pub among_set : (b : Base) (w : Shared) (es : List (Base × Shared)) (c : model.Base) → is_block_among (blocks_of (set_value (base_eq b) es w)) c ≡ is_block_among (blocks_of es) c
among_set b w [] c = refl
among_set b w (e ∷ es) c = elim (cases_Bool (base_eq b e.0)) [ inl is ↦ rw is refl | inr other ↦ rw other (ap (λ t. model.same_base (base_of e.0) c || t) (among_set b w es c)) ]

-- ---- a block that is written

module _ (newer newer' shared : Stack) (among : (c : model.Base) → is_block_among newer' c ≡ is_block_among newer c) where
  with_newer : (g : model.Base → List ℕ) → bytes_at newer' ≡ g → (c : model.Base) → bytes_at (newer' ++ shared) c ≡ cond (is_block_among newer c) (g c) (bytes_at shared c)
  with_newer g is c = bytes-stacked newer' shared c ∙ ap (λ t. cond t (bytes_at newer' c) (bytes_at shared c)) (among c) ∙ ap (λ (g : model.Base → List ℕ). cond (is_block_among newer c) (g c) (bytes_at shared c)) is

  pub same_newer : bytes_at newer' ≡ bytes_at newer → bytes_at (newer' ++ shared) ≡ bytes_at (newer ++ shared)
  same_newer same = fun_ext (λ c. with_newer (bytes_at newer) same c ∙ sym (bytes-stacked newer shared c))

  pub written_newer : (b : model.Base) (f : List ℕ → List ℕ) → is_block_among newer b ≡ true → bytes_at newer' ≡ running.with_base b (f (bytes_at newer b)) (bytes_at newer)
      → bytes_at (newer' ++ shared) ≡ running.with_base b (f (bytes_at (newer ++ shared) b)) (bytes_at (newer ++ shared))
  written_newer b f there put =
      let was : bytes_at (newer ++ shared) b ≡ bytes_at newer b = bytes-stacked newer shared b ∙ rw there refl in
      fun_ext (λ c. with_newer (running.with_base b (f (bytes_at newer b)) (bytes_at newer)) put c ∙ elim (cases_Bool (model.same_base b c)) [
        | inl same ↦ let here : is_block_among newer c ≡ true = ap (is_block_among newer) (sym (same_bases b c same)) ∙ there in rw (same, here) (ap f (sym was))
        | inr apart ↦ rw apart (sym (bytes-stacked newer shared c))
      ])

pub written_older : (newer shared shared' : Stack) (b : model.Base) (f : List ℕ → List ℕ) → is_block_among newer b ≡ false → bytes_at shared' ≡ running.with_base b (f (bytes_at shared b)) (bytes_at shared)
    → bytes_at (newer ++ shared') ≡ running.with_base b (f (bytes_at (newer ++ shared) b)) (bytes_at (newer ++ shared))
written_older newer shared shared' b f lacks put =
    let was : bytes_at (newer ++ shared) b ≡ bytes_at shared b = bytes-stacked newer shared b ∙ rw lacks refl in
    fun_ext (λ c. bytes-stacked newer shared' c ∙ ap (λ (g : model.Base → List ℕ). cond (is_block_among newer c) (bytes_at newer c) (g c)) put
    ∙ elim (cases_Bool (model.same_base b c)) [
      | inl same ↦ let here : is_block_among newer c ≡ false = ap (is_block_among newer) (sym (same_bases b c same)) ∙ lacks in rw (same, here) (ap f (sym was))
      | inr apart ↦ rw apart (sym (bytes-stacked newer shared c))
    ])

pub same_older : (newer shared shared' : Stack) → bytes_at shared' ≡ bytes_at shared → bytes_at (newer ++ shared') ≡ bytes_at (newer ++ shared)
same_older newer shared shared' same =
    fun_ext (λ c. bytes-stacked newer shared' c ∙ ap (λ (g : model.Base → List ℕ). cond (is_block_among newer c) (bytes_at newer c) (g c)) same ∙ sym (bytes-stacked newer shared c))

-- ---- blocks that are taken out

pub removed_stacked : (newer newer' shared shared' : Stack) (gone : Bool) (b : model.Base) → is_block_among newer' b ≡ (is_block_among newer b && not gone)
    → bytes_at newer' b ≡ cond gone [] (bytes_at newer b) → bytes_at shared' b ≡ cond gone [] (bytes_at shared b) → bytes_at (newer' ++ shared') b ≡ cond gone [] (bytes_at (newer ++ shared) b)
removed_stacked newer newer' shared shared' gone b among is was = bytes-stacked newer' shared' b ∙ rw (among, is, was) (go gone (is_block_among newer b) refl ∙ ap (cond gone []) (sym (bytes-stacked newer shared b)))
  where
    go : (gone here : Bool) → here ≡ here
        → cond (here && not gone) (cond gone [] (bytes_at newer b)) (cond gone [] (bytes_at shared b)) ≡ cond gone [] (cond here (bytes_at newer b) (bytes_at shared b))
    go true true h = refl
    go true false h = refl
    go false true h = refl
    go false false h = refl

-- one base more is taken out
pub removed_among : (base : Base) (es fs : List (Base × Shared)) → ((q : Base) → find (base_eq q) fs ≡ cond (base_eq base q) None (find (base_eq q) es)) → (b : model.Base)
    → is_block_among (blocks_of fs) b ≡ (is_block_among (blocks_of es) b && not (model.same_base (base_of base) b))
removed_among base es fs updates b =
    let q : Base = record { label = b.label; number = b.number } in
    among_found q fs ∙ ap is_some (updates q) ∙ elim (cases_Bool (base_eq base q)) [
      | inl same ↦ rw same (sym (and_false (is_block_among (blocks_of es) b)))
      | inr apart ↦ rw apart (sym (among_found q es) ∙ sym (and_true (is_block_among (blocks_of es) b)))
    ]

pub among_less : (bases : List (Base × Unit {0})) (i : ℕ) (e : Base × Unit {0}) (b : model.Base) (new cur old : Bool) → slice_get bases i ≡ Some e → new ≡ (cur && not (model.same_base (base_of e.0) b))
    → cur ≡ (old && not (is_base_among (bases_of (take i bases)) b)) → new ≡ (old && not (is_base_among (bases_of (take (suc i) bases)) b))
among_less bases i e b new cur old at one before = one ∙ rw (among_more bases i e b at, before) (go old (is_base_among (bases_of (take i bases)) b) (model.same_base (base_of e.0) b))
  where
    go : (a s t : Bool) → ((a && not s) && not t) ≡ (a && not (s || t))
    go false s t = refl
    go true true t = refl
    go true false t = refl

-- ---- layers that are put over others

drop_there : {X : Type 0} (es : List X) (i : ℕ) (e : X) → slice_get es i ≡ Some e → drop i es ≡ e ∷ drop (suc i) es
drop_there [] i e at = none_some e at
drop_there (d ∷ es) zero e at = ap (λ d. d ∷ es) (some_same d e at)
drop_there (d ∷ es) (suc i) e at = drop_there es i e at

-- the block before those that are over
pub over_more : (es : List (Base × Shared)) (i : ℕ) (e : Base × Shared) (cur new : model.Base → List ℕ) (ys : Stack) → slice_get es i ≡ Some e → new ≡ running.with_base (base_of e.0) e.1.value cur
    → ((b : model.Base) → cur b ≡ bytes_at (blocks_of (drop (i + 1) es) ++ ys) b) → (b : model.Base) → new b ≡ bytes_at (blocks_of (drop i es) ++ ys) b
over_more es i e cur new ys at put before b =
    ap (λ (f : model.Base → List ℕ). f b) put ∙ ap (λ bytes. cond (model.same_base (base_of e.0) b) e.1.value bytes) (before b ∙ ap (λ k. bytes_at (blocks_of (drop k es) ++ ys) b) (add-one i))
    ∙ sym (ap (λ es. bytes_at (blocks_of es ++ ys) b) (drop_there es i e at))

pub among_written : (b : Base) (w : Shared) (es fs : List (Base × Shared)) → fs ≡ set_value (base_eq b) es w → (c : model.Base) → is_block_among (blocks_of fs) c ≡ is_block_among (blocks_of es) c
among_written b w es fs is c = ap (λ es. is_block_among (blocks_of es) c) is ∙ among_set b w es c

-- whether there is one
pub among_is : (b : Base) (es : List (Base × Shared)) (t s : Bool) → t ≡ is_some (find (base_eq b) es) → t ≡ s → is_block_among (blocks_of es) (base_of b) ≡ s
among_is b es t s is was = among_found b es ∙ sym is ∙ was

pub drop_past : {X : Type 0} (es : List X) (i : ℕ) → length es ≤ i → drop i es ≡ []
drop_past [] zero h = refl
drop_past [] (suc i) h = refl
drop_past (e ∷ es) zero h = absurd (omega arith)
drop_past (e ∷ es) (suc i) h = drop_past es i (omega arith)
