-- Sessions stay intact: each array that a name is bound to lies in its block.
use Rattle.std.proofs.Common.{◌≡◌, ℕ, ◌+◌, ◌≤◌, Bool, true, false, cond, not, ◌&&◌, eq-eqb, List, [], ◌∷◌, length, refl, sym, ap, subst, ◌∙◌, inl, inr, arith}
use Rattle.std.specs.Prelude.{bytes_eq}
use Rattle.std.proofs.lemmas.Bool.{cases_Bool, and_from, or_left, or_right}
use Rattle.nd_model.specs.Arrays.View.{Geo}
use Rattle.nd_model.specs.Arrays.Value.{Base, same_base, Value, Int, Truth, Scalar, Array, Row, lies_in}
use Rattle.nd_model.specs.Cells.Session.{Names, Session, bind, unbind, is_held, held_bytes, collected}
use Rattle.nd_model.specs.Cells.Running as running
use Rattle.nd_model.specs.Cells.Footprint.{HasNone}
use Rattle.nd_model.specs.Cells.Sound.{LiesIn, IsViewOf, AreViewsOf, IsHeldView, IsSound}
use Rattle.nd_model.proofs.Lists.{not_both}
use Rattle.nd_model.proofs.Soundness.{views_map, all_views_map}
use Rattle.nd_model.proofs.Growing.{not_new}
use Rattle.nd_model.proofs.Storing.{equal_bases}
use Rattle.nd_session.specs.Session.State.{State}
use Rattle.nd_heap.specs.Live.{bytes_at}
use Rattle.nd_session.specs.Session.Live.{live}
use Rattle.nd_session.specs.Session.Intact.{LiesThere, AllLie}

-- THE FACT, as the definitions have it
pub is_sound : (s : State) → AllLie s.label s.next (bytes_at s.blocks) s.names → IsSound (live s)
unfolding live
is_sound s h = all_views_map (LiesThere s.label s.next (bytes_at s.blocks)) (IsHeldView (live s)) (λ b g v. record { lies = v.lies; old = v.old }) s.names h

-- a value that lies in its block, as the definitions have it
pub lies_there : (s t : State) → s ≡ t → (v : Value) → IsViewOf (IsHeldView (live t)) v → IsViewOf (LiesThere s.label s.next (bytes_at s.blocks)) v
unfolding live
lies_there s t same v h = views_map (IsHeldView (live s)) (LiesThere s.label s.next (bytes_at s.blocks)) (λ b g w. record { lies = w.lies; old = w.old }) v
    (subst (λ t. IsViewOf (IsHeldView (live t)) v) (sym same) h)

module _ (label next : ℕ) (bytes : Base → List ℕ) where
  -- another name is bound
  pub with_binding : (n : List ℕ) (v : Value) (es : Names) → IsViewOf (LiesThere label next bytes) v → AllLie label next bytes es → AllLie label next bytes (bind n v es)
  with_binding n v [] is h = (is, tt)
  with_binding n v (e ∷ es) is h = elim (bytes_eq n e.0) as (λ t. AllLie label next bytes (cond t ((e.0, v) ∷ es) (e ∷ bind n v es))) [
    | true ↦ (is, h.1)
    | false ↦ (h.0, with_binding n v es is h.1)
  ]

  -- a name is unbound
  pub without_binding : (n : List ℕ) (es : Names) → AllLie label next bytes es → AllLie label next bytes (unbind n es)
  without_binding n [] h = tt
  without_binding n (e ∷ es) h = elim (bytes_eq n e.0) as (λ t. AllLie label next bytes (cond t (unbind n es) (e ∷ unbind n es))) [
    | true ↦ without_binding n es h.1
    | false ↦ (h.0, without_binding n es h.1)
  ]

  -- blocks keep their lengths
  pub with_bytes : (other : Base → List ℕ) → ((b : Base) → length (other b) ≡ length (bytes b)) → (es : Names) → AllLie label next bytes es → AllLie label next other es
  with_bytes other same es h = all_views_map (LiesThere label next bytes) (LiesThere label next other) (λ b g v. record { lies = subst (λ n. LiesIn n g) (sym (same b)) v.lies; old = v.old }) es h

  -- a new block
  pub with_block : (block : List ℕ) (es : Names) → AllLie label next bytes es → AllLie label (next + 1) (running.with_base (record { label = label; number = next }) block bytes) es
  with_block block es h = all_views_map (LiesThere label next bytes) (LiesThere label (next + 1) (running.with_base (record { label = label; number = next }) block bytes))
      (λ b g v. record {
        lies = subst (λ (n : ℕ). LiesIn n g) (sym (ap (λ t. length (cond t block (bytes b))) (not_new label next b v.old))) v.lies;
        old = λ e. omega (arith, v.old e);
      }) es h

-- the same names and bytes
pub same_lie : (label next : ℕ) (bytes other : Base → List ℕ) (es fs : Names) → other ≡ bytes → fs ≡ es → AllLie label next bytes es → AllLie label next other fs
same_lie label next bytes other es fs same is h = subst (λ (f : Base → List ℕ). AllLie label next f fs) (sym same) (subst (AllLie label next bytes) (sym is) h)

-- the same, for the names that a call gives, and the label that it leaves
pub with_bound : (label after next : ℕ) (bytes : Base → List ℕ) (n : List ℕ) (v w : Value) (es fs : Names) → after ≡ label → v ≡ w → fs ≡ bind n v es → IsViewOf (LiesThere label next bytes) w
    → AllLie label next bytes es → AllLie after next bytes fs
with_bound label after next bytes n v w es fs same is bound lies h =
    subst (λ l. AllLie l next bytes fs) (sym same) (subst (AllLie label next bytes) (sym bound)
    (with_binding label next bytes n v es (subst (IsViewOf (LiesThere label next bytes)) (sym is) lies) h))

pub with_unbound : (label after next : ℕ) (bytes : Base → List ℕ) (n : List ℕ) (es fs : Names) → after ≡ label → fs ≡ unbind n es → AllLie label next bytes es → AllLie after next bytes fs
with_unbound label after next bytes n es fs same unbound h =
    subst (λ l. AllLie l next bytes fs) (sym same) (subst (AllLie label next bytes) (sym unbound) (without_binding label next bytes n es h))

-- a later number is next
pub with_next : (label next later : ℕ) (bytes : Base → List ℕ) (es : Names) → next ≤ later → AllLie label next bytes es → AllLie label later bytes es
with_next label next later bytes es le h = all_views_map (LiesThere label next bytes) (LiesThere label later bytes) (λ b g v. record { lies = v.lies; old = λ e. omega (arith, le, v.old e) }) es h

-- a base gets as many bytes as it had
pub length-written : (b : Base) (w : List ℕ) (f : Base → List ℕ) → length w ≡ length (f b) → (c : Base) → length (running.with_base b w f c) ≡ length (f c)
length-written b w f is c = elim (cases_Bool (same_base b c)) [
  | inl same ↦ rw same (is ∙ ap (λ c. length (f c)) (equal_bases b c same))
  | inr apart ↦ rw apart refl
]

same_self : (b : Base) → same_base b b ≡ true
same_self b = and_from _ _ (eq-eqb b.label b.label refl) (eq-eqb b.number b.number refl)

-- what is true of the views whose blocks are held is true of all that are bound
held_views : (P Q : Base → Geo → Type 0) (s : Session) → ((b : Base) (g : Geo) → is_held b s.names ≡ true → P b g → Q b g) → AreViewsOf P s.names → AreViewsOf Q s.names
held_views P Q s f h = go s.names (λ b l. l) h
  where
    of_value : (v : Value) → ((b : Base) → lies_in b v ≡ true → is_held b s.names ≡ true) → IsViewOf P v → IsViewOf Q v
    of_value (Int z) l h = tt
    of_value (Truth t) l h = tt
    of_value (Scalar k z) l h = tt
    of_value (Array b g) l h = f b g (l b (same_self b)) h
    of_value (Row b g) l h = f b g (l b (same_self b)) h

    go : (es : Names) → ((b : Base) → is_held b es ≡ true → is_held b s.names ≡ true) → AreViewsOf P es → AreViewsOf Q es
    go [] l h = tt
    go (e ∷ es) l h = (of_value e.1 (λ b i. l b (or_left _ _ i)) h.0, go es (λ b i. l b (or_right _ _ i)) h.1)

lies_held : (s : Session) (bytes : Base → List ℕ) → ((b : Base) → bytes b ≡ held_bytes s b) → (b : Base) (g : Geo) → is_held b s.names ≡ true → LiesIn (length (s.bytes b)) g → LiesIn (length (bytes b)) g
lies_held s bytes held b g is v = subst (λ l. LiesIn (length l) g) (sym (held b ∙ ap (λ t. cond t (s.bytes b) []) is)) v

-- A CELL BEGINS: the blocks of its label are all new
pub with_start : (label old next : ℕ) (s : Session) (bytes : Base → List ℕ) → HasNone label s → ((b : Base) → bytes b ≡ held_bytes s b) → AllLie old next s.bytes s.names → AllLie label 0 bytes s.names
with_start label old next s bytes none held h = held_views (LiesThere old next s.bytes) (LiesThere label 0 bytes) s
    (λ b g is v. record { lies = lies_held s bytes held b g is v.lies; old = λ e. absurd (not_both _ (none.none b e) is) }) h

-- only the blocks are kept that are held
pub with_held : (label next : ℕ) (s : Session) (bytes : Base → List ℕ) → ((b : Base) → bytes b ≡ held_bytes s b) → AllLie label next s.bytes s.names → AllLie label next bytes s.names
with_held label next s bytes held h = held_views (LiesThere label next s.bytes) (LiesThere label next bytes) s
    (λ b g is v. record { lies = lies_held s bytes held b g is v.lies; old = v.old }) h

-- the blocks that are held keep their bytes
pub with_same : (label next : ℕ) (s : Session) (bytes : Base → List ℕ) → ((b : Base) → is_held b s.names ≡ true → bytes b ≡ s.bytes b) → AllLie label next s.bytes s.names → AllLie label next bytes s.names
with_same label next s bytes same h = held_views (LiesThere label next s.bytes) (LiesThere label next bytes) s
    (λ b g is v. record { lies = subst (λ l. LiesIn (length l) g) (sym (same b is)) v.lies; old = v.old }) h

-- a block that is held is no lost one
pub kept_held : (own held : Bool) (bytes : List ℕ) → held ≡ true → cond (own && not held) [] bytes ≡ bytes
kept_held true true bytes h = refl
kept_held true false bytes h = absurd (let f : false ≡ true = h in cc)
kept_held false held bytes h = refl

-- A CELL'S CHANGES ARE MADE AGAIN: what is left is sound, and so is the session
pub with_changes : (label next : ℕ) (s w : Session) → collected s ≡ w → IsSound (record (running.start label w) { next = next }) → AllLie label next s.bytes s.names
with_changes label next s w is sound =
    let r : running.Running = record (running.start label (collected s)) { next = next } in
    let all : IsSound r = subst (λ (w : Session). IsSound (record (running.start label w) { next = next })) (sym is) sound in
    held_views (IsHeldView r) (LiesThere label next s.bytes) s (λ b g held v. record {
      lies = subst (λ l. LiesIn (length l) g) (twice (is_held b s.names) (s.bytes b) held) v.lies;
      old = v.old;
    }) all
  where
    twice : (t : Bool) (x : List ℕ) → t ≡ true → cond t (cond t x []) [] ≡ x
    twice true x h = refl
    twice false x h = cc
