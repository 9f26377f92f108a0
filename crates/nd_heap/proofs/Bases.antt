-- Blocks by their bases.
use Rattle.std.proofs.Common.{◌≡◌, ℕ, length, Bool, cond, ◌&&◌, nat_eq, List, [], ◌∷◌, Some, None, Option, Result, Ok, Err, Global, refl, sym, ap, ap₂, subst, ◌∙◌, inl, inr, arith}
use mathlib.Core.Path.{fun_ext}
use Rattle.std.specs.Map.{lookup as find, set_value}
use Rattle.std.specs.Prelude.{OnErr, OnOk}
use Rattle.std.specs.Result.{IsErr}
use Rattle.std.specs.List.{AllZip}
use Rattle.std.specs.declared.rc.Rc.{Rc}
use Rattle.indexmap.specs.IndexMap.{insert_entry}
use Rattle.std.proofs.lemmas.Bool.{cases_Bool, and_parts}
use Rattle.std.proofs.lemmas.Bool.Decides.{nat_tests}
use Rattle.nd_model.specs.Arrays.Value as model
use Rattle.nd_model.specs.Cells.Running as running
use Rattle.nd_heap.specs.declared.value.Base.{Base}
use Rattle.nd_heap.specs.Values.{base_of}
use Rattle.nd_heap.specs.Contents.{blocks_of}
use Rattle.nd_heap.specs.Live.{bytes_at}
use Rattle.nd_heap.proofs.Plain.{no_entries}
use Rattle.nd_heap.proofs.Same.{same_bases}

abbrev pub Shared : Type 0
Shared = Rc (List ℕ) Global

abbrev pub base_eq : Base → Base → Bool
base_eq a b = nat_eq a.label b.label && nat_eq a.number b.number

pub bytes_at-insert : (b : Base) (block : Shared) (es : List (Base × Shared)) (c : model.Base)
    → bytes_at (blocks_of (insert_entry base_eq es b block)) c ≡ running.with_base (base_of b) block.value (bytes_at (blocks_of es)) c
bytes_at-insert b block [] c = refl
bytes_at-insert b block (e ∷ es) c = elim (cases_Bool (base_eq b e.0)) [
  | inl is ↦ rw is (grind (arith, nat_tests, and_parts))
  | inr other ↦ rw other (grind (arith, nat_tests, bytes_at-insert b block es c))
]

-- what stands at a refusal
pub on_err : {X E P : Type 0} (r : Result X E) → P → OnErr r P
on_err (Ok x) p = tt
on_err (Err e) p = p

-- nothing is asked of a success at a refusal
pub not_ok : {X E : Type 0} (P : Type 0) (r : Result X E) → IsErr r → OnOk r P
not_ok P (Ok x) h = cc
not_ok P (Err e) h = tt

pub at_err : {X E P : Type 0} (r : Result X E) (e : E) → r ≡ Err e → OnErr r P → P
at_err {P} r e is h = subst (λ r. OnErr r P) is h

-- another block for a base that has one
pub bytes_at-set : (b : Base) (v w : Shared) (es : List (Base × Shared)) → find (base_eq b) es ≡ Some v → (c : model.Base)
    → bytes_at (blocks_of (set_value (base_eq b) es w)) c ≡ running.with_base (base_of b) w.value (bytes_at (blocks_of es)) c
bytes_at-set b v w [] there c = cc
bytes_at-set b v w (e ∷ es) there c = elim (cases_Bool (base_eq b e.0)) [
  | inl is ↦ rw is (grind (arith, nat_tests, and_parts))
  | inr other ↦
      let behind : find (base_eq b) es ≡ Some v = sym (ap (λ t. cond t (Some e.1) (find (base_eq b) es)) other) ∙ there in
      rw other (grind (arith, nat_tests, bytes_at-set b v w es behind))
]

nat_eq_sym : (m n : ℕ) → nat_eq m n ≡ nat_eq n m
nat_eq_sym m n = grind (arith, nat_tests)

pub same_base_sym : (a b : model.Base) → model.same_base a b ≡ model.same_base b a
same_base_sym a b = ap₂ (λ x y. x && y) (nat_eq_sym a.label b.label) (nat_eq_sym a.number b.number)

pub base_eq_sym : (a b : Base) → model.same_base (base_of a) (base_of b) ≡ base_eq b a
base_eq_sym a b = ap₂ (λ x y. x && y) (nat_eq_sym a.label b.label) (nat_eq_sym a.number b.number)

-- the bytes of a block that is found
abbrev pub found_bytes : Option Shared → List ℕ
found_bytes None = []
found_bytes (Some v) = v.value

pub found_block : (b : Base) (es : List (Base × Shared)) → bytes_at (blocks_of es) (base_of b) ≡ found_bytes (find (base_eq b) es)
found_block b [] = refl
found_block b (e ∷ es) = rw (base_eq_sym e.0 b) (elim (cases_Bool (base_eq b e.0)) [ inl is ↦ rw is refl | inr other ↦ rw other (found_block b es) ])

-- a clone of the blocks
pub cloned_blocks : (es fs : List (Base × Shared)) → AllZip (λ (p q : Base × Shared). (q.0 ≡ p.0) × (q.1.value ≡ p.1.value)) es fs → blocks_of fs ≡ blocks_of es
cloned_blocks [] [] h = refl
cloned_blocks [] (f ∷ fs) h = absurd h
cloned_blocks (e ∷ es) [] h = absurd h
cloned_blocks (e ∷ es) (f ∷ fs) h = λ i. (base_of (h.0.0 i), h.0.1 i) ∷ cloned_blocks es fs h.1 i

-- a block is set
pub set_block : (b : Base) (block : Shared) (bytes : List ℕ) (es fs gs : List (Base × Shared)) → block.value ≡ bytes → blocks_of fs ≡ blocks_of es → gs ≡ insert_entry base_eq fs b block
    → bytes_at (blocks_of gs) ≡ running.with_base (base_of b) bytes (bytes_at (blocks_of es))
set_block b block bytes es fs gs is same set =
    ap (λ gs. bytes_at (blocks_of gs)) set ∙ fun_ext (bytes_at-insert b block fs) ∙ ap₂ (λ bytes bs. running.with_base (base_of b) bytes (bytes_at bs)) is same

-- the block of a base is another one
pub written_block : (b : Base) (v w : Shared) (es fs : List (Base × Shared)) → fs ≡ set_value (base_eq b) es w → Some v ≡ find (base_eq b) es
    → bytes_at (blocks_of fs) ≡ running.with_base (base_of b) w.value (bytes_at (blocks_of es))
written_block b v w es fs is there = ap (λ es. bytes_at (blocks_of es)) is ∙ fun_ext (bytes_at-set b v w es (sym there))

-- a base gets the bytes that it has
pub same_block : (b : model.Base) (bytes : List ℕ) (f : model.Base → List ℕ) → bytes ≡ f b → running.with_base b bytes f ≡ f
same_block b bytes f is = fun_ext (λ c. elim (cases_Bool (model.same_base b c)) [
  | inl same ↦ rw same (is ∙ ap f (same_bases b c same))
  | inr apart ↦ rw apart refl
])

-- nothing is written where there are no bytes
pub nothing_written : (f : List ℕ → List ℕ) → ((bytes : List ℕ) → length (f bytes) ≡ length bytes) → (b : model.Base) (g : model.Base → List ℕ) → g b ≡ [] → running.with_base b (f (g b)) g ≡ g
nothing_written f same b g empty = same_block b (f (g b)) g (ap f empty ∙ no_entries (f []) (same []) ∙ sym empty)

-- nor where there is no block
pub nothing_put : (f : List ℕ → List ℕ) → ((bytes : List ℕ) → length (f bytes) ≡ length bytes) → (b : Base) (es : List (Base × Shared)) → None ≡ find (base_eq b) es
    → running.with_base (base_of b) (f (bytes_at (blocks_of es) (base_of b))) (bytes_at (blocks_of es)) ≡ bytes_at (blocks_of es)
nothing_put f same b es none =
    nothing_written f same (base_of b) (bytes_at (blocks_of es)) (found_block b es ∙ ap found_bytes (sym none))
