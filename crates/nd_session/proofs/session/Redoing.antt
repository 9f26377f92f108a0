-- The effects of a run, block by block.
use Rattle.std.proofs.Common.{◌≡◌, ◌≤◌, eqb-true, ◌||◌, ℕ, zero, suc, Bool, true, false, cond, nat_eq, List, [], ◌∷◌, drop, take, length, slice_get, Option, Some, None, refl, sym, ap, ap₂, ◌∙◌, inl, inr}
use Rattle.std.specs.Map.{lookup as find}
use Rattle.std.specs.Prelude.{unwrap_or}
use Rattle.std.proofs.lemmas.Bool.{cases_Bool, or_right}
use Rattle.std.proofs.lemmas.List.{take_all}
use Rattle.nd_model.specs.Arrays.Value as model
use Rattle.nd_model.specs.Cells.Session as session
use Rattle.nd_model.specs.Cells.Footprint.{patched, replayed, HasNone}
use Rattle.nd_model.proofs.Patched.{patched_none}
use Rattle.nd_model.proofs.Held.{held_by_own}
use mathlib.Core.Path.{fun_ext}
use Rattle.nd_heap.specs.declared.value.Base.{Base}
use Rattle.nd_heap.specs.Values.{base_of}
use Rattle.nd_heap.specs.Contents.{blocks_of}
use Rattle.nd_heap.specs.Live.{bytes_at, is_base_among}
use Rattle.nd_session.specs.declared.session.found.FoundBytes.{FoundBytes}
use Rattle.nd_session.specs.Session.Changes.{ChangesData, bases_in, changed, writes_in}
use Rattle.nd_session.specs.Session.Found.{by_base, byte_at, byte_found, bytes_of, found_at, lookup_base}
use Rattle.nd_heap.proofs.Bases.{Shared, base_eq}
use Rattle.nd_heap.proofs.Same.{same_bases}
use Rattle.nd_session.proofs.session.Reading.{base_entry, entry_bases, entry_step, or_false, same_base_sym}

false_true : {P : Type 0} → false ≡ true → P
false_true e = cc

none_some : {P : Type 0} (e : Base × Shared) → None ≡ Some e → P
none_some e h = cc

some_same : (d e : Base × Shared) → Some d ≡ Some e → d ≡ e
some_same d e h = cc

from_here : (es : List (Base × Shared)) (i : ℕ) (e : Base × Shared) → slice_get es i ≡ Some e → drop i es ≡ e ∷ drop (suc i) es
from_here [] i e h = none_some e h
from_here (d ∷ es) zero e h = ap (λ d. d ∷ es) (some_same d e h)
from_here (d ∷ es) (suc i) e h = from_here es i e h

module _ (label : ℕ) (es : List (Base × Shared)) (i : ℕ) (e : Base × Shared) (at : slice_get es i ≡ Some e) (old cur : model.Base → List ℕ)
    (before : (b : model.Base) → cur b ≡ cond (nat_eq b.label label) (bytes_at (blocks_of (drop (suc i) es)) b) (old b)) (b : model.Base) where
  here : bytes_at (blocks_of (drop i es)) b ≡ cond (model.same_base (base_of e.0) b) e.1.value (bytes_at (blocks_of (drop (suc i) es)) b)
  here = ap (λ es. bytes_at (blocks_of es) b) (from_here es i e at)

  pub shared_own : (new : model.Base → List ℕ) → nat_eq e.0.label label ≡ true → new b ≡ cond (model.same_base (base_of e.0) b) e.1.value (cur b) → new b ≡ cond (nat_eq b.label label) (bytes_at (blocks_of (drop i es)) b) (old b)
  shared_own new own set = set ∙ elim (cases_Bool (model.same_base (base_of e.0) b)) [
    | inl same ↦ let mine : nat_eq b.label label ≡ true = ap (λ (c : model.Base). nat_eq c.label label) (sym (same_bases (base_of e.0) b same)) ∙ own in
        rw (same, mine) (sym (here ∙ rw same refl))
    | inr apart ↦ rw apart (before b ∙ ap (λ bs. cond (nat_eq b.label label) bs (old b)) (sym (here ∙ rw apart refl)))
  ]

  pub shared_other : nat_eq e.0.label label ≡ false → cur b ≡ cond (nat_eq b.label label) (bytes_at (blocks_of (drop i es)) b) (old b)
  shared_other other = before b ∙ elim (cases_Bool (nat_eq b.label label)) [
    | inl mine ↦ rw mine (elim (cases_Bool (model.same_base (base_of e.0) b)) [
      | inl same ↦ let none : false ≡ true = sym other ∙ ap (λ (c : model.Base). nat_eq c.label label) (same_bases (base_of e.0) b same) ∙ mine in false_true none
      | inr apart ↦ sym (here ∙ rw apart refl)
    ])
    | inr away ↦ rw away refl
  ]

-- ---- bytes that are put back

pub patched_twice : (w : ℕ → Option ℕ) (xs : List ℕ) → patched w (patched w xs) ≡ patched w xs
patched_twice w [] = refl
patched_twice w (x ∷ xs) = ap₂ (λ y ys. y ∷ ys) (go (w 0) x) (patched_twice (λ p. w (suc p)) xs)
  where
    go : (o : Option ℕ) (x : ℕ) → unwrap_or o (unwrap_or o x) ≡ unwrap_or o x
    go None x = refl
    go (Some y) x = refl

pub patched_same : (v w : ℕ → Option ℕ) (xs : List ℕ) → ((p : ℕ) → v p ≡ w p) → patched v xs ≡ patched w xs
patched_same v w [] h = refl
patched_same v w (x ∷ xs) h = ap₂ (λ y ys. y ∷ ys) (ap (λ o. unwrap_or o x) (h 0)) (patched_same (λ p. v (suc p)) (λ p. w (suc p)) xs (λ p. h (suc p)))

again : (t : Bool) (w : ℕ → Option ℕ) (xs : List ℕ) → patched w (cond t (patched w xs) xs) ≡ patched w xs
again true w xs = patched_twice w xs
again false w xs = refl

-- those of the first entries are put back
abbrev pub put_before : List (Base × FoundBytes) → ℕ → (model.Base → List ℕ) → model.Base → List ℕ
put_before es i old b = cond (is_base_among (entry_bases (take i es)) b) (patched (byte_found es b) (old b)) (old b)

-- and those of one more
pub put_more : (es : List (Base × FoundBytes)) (i : ℕ) (e : Base × FoundBytes) (old cur new : model.Base → List ℕ) → slice_get es i ≡ Some e → find (base_eq e.0) es ≡ Some e.1
    → ((b : model.Base) → cur b ≡ put_before es i old b)
    → ((b : model.Base) → new b ≡ cond (model.same_base (base_of e.0) b) (patched (found_at (bytes_of e.1)) (cur (base_of e.0))) (cur b))
    → (b : model.Base) → new b ≡ put_before es (suc i) old b
put_more es i e old cur new at found before put b = put b ∙ elim (cases_Bool (model.same_base (base_of e.0) b)) [
  | inl same ↦
      let is : base_of e.0 ≡ b = same_bases (base_of e.0) b same in
      let among : is_base_among (entry_bases (take (suc i) es)) b ≡ true = entry_step es i e b at ∙ or_right (is_base_among (entry_bases (take i es)) b) _ same in
      let w : ℕ → Option ℕ = byte_found es b in
      let here : (p : ℕ) → found_at (bytes_of e.1) p ≡ w p = λ p. ap (λ o. byte_at o p) (sym (base_entry bytes_of e.0 e.1 es found)) ∙ ap (λ c. byte_found es c p) is in
      rw (same, among) (ap (λ c. patched (found_at (bytes_of e.1)) (cur c)) is ∙ patched_same _ w (cur b) here ∙ ap (patched w) (before b) ∙ again (is_base_among (entry_bases (take i es)) b) w (old b))
  | inr apart ↦
      let among : is_base_among (entry_bases (take (suc i) es)) b ≡ is_base_among (entry_bases (take i es)) b
      = entry_step es i e b at ∙ ap (λ t. is_base_among (entry_bases (take i es)) b || t) apart ∙ or_false _ in
      rw (apart, among) (before b)
]

-- all of them are put back
pub put_all : (es : List (Base × FoundBytes)) (i : ℕ) (old : model.Base → List ℕ) (b : model.Base) → length es ≤ i → put_before es i old b ≡ patched (byte_found es b) (old b)
put_all es i old b all = ap (λ fs. cond (is_base_among (entry_bases fs) b) (patched (byte_found es b) (old b)) (old b)) (take_all i es all) ∙ elim (cases_Bool (is_base_among (entry_bases es) b)) [
  | inl among ↦ rw among refl
  | inr apart ↦ rw apart (sym (patched_none (byte_found es b) (old b) (λ p. ap (λ o. byte_at o p) (nothing es apart))))
]
  where
    nothing : (fs : List (Base × FoundBytes)) → is_base_among (entry_bases fs) b ≡ false → lookup_base b (by_base bytes_of fs) ≡ None
    nothing [] apart = refl
    nothing (f ∷ fs) apart = elim (cases_Bool (model.same_base (base_of f.0) b)) [
      | inl same ↦ let none : true ≡ false = rw same at apart in false_true (sym none)
      | inr other ↦
          let rest : is_base_among (entry_bases fs) b ≡ false = rw other at apart in
          let here : model.same_base b (base_of f.0) ≡ false = same_base_sym b (base_of f.0) ∙ other in
          rw here (nothing fs rest)
    ]

where_held : (t : Bool) (x y : List ℕ) → (t ≡ true → x ≡ y) → cond t x [] ≡ cond t y []
where_held true x y h = h refl
where_held false x y h = refl

-- the session after the changes
pub redone : (d : ChangesData) (s : session.Session) (names : session.Names) (first second third : model.Base → List ℕ) → HasNone d.label s → names ≡ replayed d.events s.names
    → ((b : model.Base) → first b ≡ session.held_bytes s b)
    → ((b : model.Base) → second b ≡ patched (writes_in d b) (first b))
    → ((b : model.Base) → third b ≡ cond (nat_eq b.label d.label) (bytes_at d.blocks b) (second b))
    → session.collected (record { names = names; bytes = third }) ≡ changed d s
redone d s names first second third none same one two three = λ i. record { names = same i; bytes = bytes i }
  where
    there : (b : model.Base) → session.is_held b (replayed d.events s.names) ≡ true
        → third b ≡ cond (nat_eq b.label d.label) (bases_in d b) (patched (writes_in d b) (session.held_bytes s b))
    there b held = three b ∙ elim (cases_Bool (nat_eq b.label d.label)) [
      | inl own ↦
          let mine : session.is_held b (replayed d.events []) ≡ true = held_by_own b d.events s.names (none.none b (eqb-true _ _ own)) held in
          rw (own, mine) refl
      | inr other ↦ rw other (two b ∙ ap (patched (writes_in d b)) (one b))
    ]

    bytes : ◌≡◌ {A = model.Base → List ℕ} (λ b. cond (session.is_held b names) (third b) []) (changed d s).bytes
    bytes = fun_ext (λ b. ap (λ ns. cond (session.is_held b ns) (third b) []) same ∙ where_held (session.is_held b (replayed d.events s.names)) _ _ (there b))

-- no base of the label has bytes, also where bytes were put back
pub none_there : (d : ChangesData) (s : session.Session) (first second : model.Base → List ℕ) → HasNone d.label s
    → ((b : model.Base) → first b ≡ session.held_bytes s b) → ((b : model.Base) → second b ≡ patched (writes_in d b) (first b))
    → (b : model.Base) → b.label ≡ d.label → second b ≡ []
none_there d s first second none one two b own = two b ∙ ap (patched (writes_in d b)) (one b ∙ ap (λ t. cond t (s.bytes b) []) (none.none b own))
