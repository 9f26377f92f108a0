-- The session before each cell: names stand once in it, and it is sound.
use Rattle.std.proofs.Common.{◌≡◌, ℕ, zero, suc, ◌+◌, ◌<◌, true, false, List, [], ◌∷◌, length, None, refl, sym, ap, subst, ◌∙◌, inl, inr, arith}
use Rattle.std.specs.Prelude.{bytes_eq}
use Rattle.std.proofs.lemmas.Bool.{cases_Bool, or_parts}
use Rattle.nd_model.specs.Arrays.Value.{Value}
use Rattle.nd_model.specs.Cells.Session.{Names, lookup, bind, unbind, Session}
use Rattle.nd_model.specs.Cells.Running.{Event, Binds, Unbinds, is_touched}
use Rattle.nd_model.specs.Grammar.Reading.{reading}
use Rattle.nd_model.specs.Cells.Sound.{IsSoundSession}
use Rattle.nd_model.specs.Cells.Footprint.{replayed, with_effects}
use Rattle.nd_model.specs.Book.Renaming.{AreDistinct}
use Rattle.nd_model.specs.Book.Book.{Book, labels_of}
use Rattle.nd_model.specs.Book.Entries.{Entry, record_at, entry_at, session_before}
use Rattle.nd_model.specs.Book.Sessions.{IsOnce, NamesStandOnce, SessionsAreSound}
use Rattle.nd_model.proofs.Lists.{same_bytes, bytes_eq_same, not_both, lookup-bind, lookup-unbind}
use Rattle.nd_model.proofs.Entries.{fresh_at, replays_there, session_before-next}
use Rattle.nd_model.proofs.Soundness.{stays_sound}

apart_sym : (n m : List ℕ) → bytes_eq n m ≡ false → bytes_eq m n ≡ false
apart_sym n m h = elim (cases_Bool (bytes_eq m n)) [ inl is ↦ absurd (not_both _ h (bytes_eq_same n m (sym (same_bytes m n is)))) | inr other ↦ other ]

-- ---- events, and a name that they do not touch

pub untouched_lookup : (n : List ℕ) (es : List Event) (ns : Names) → is_touched n es ≡ false → lookup n (replayed es ns) ≡ lookup n ns
untouched_lookup n [] ns h = refl
untouched_lookup n (Binds m v ∷ es) ns h = let parts : (bytes_eq n m ≡ false) × (is_touched n es ≡ false) = or_parts _ _ h in
    untouched_lookup n es (bind m v ns) parts.1 ∙ lookup-bind n m v ns ∙ rw parts.0 refl
untouched_lookup n (Unbinds m ∷ es) ns h = let parts : (bytes_eq n m ≡ false) × (is_touched n es ≡ false) = or_parts _ _ h in
    untouched_lookup n es (unbind m ns) parts.1 ∙ lookup-unbind n m ns ∙ rw parts.0 refl

once-bind : (n : List ℕ) (v : Value) (ns : Names) → IsOnce ns → IsOnce (bind n v ns)
once-bind n v [] h = (refl, tt)
once-bind n v (e ∷ ns) h = elim (cases_Bool (bytes_eq n e.0)) [
  | inl is ↦ rw is h
  | inr other ↦ rw other (lookup-bind e.0 n v ns ∙ rw (apart_sym n e.0 other) h.0, once-bind n v ns h.1)
]

once-unbind : (n : List ℕ) (ns : Names) → IsOnce ns → IsOnce (unbind n ns)
once-unbind n [] h = tt
once-unbind n (e ∷ ns) h = elim (cases_Bool (bytes_eq n e.0)) [
  | inl is ↦ rw is (once-unbind n ns h.1)
  | inr other ↦ rw other (lookup-unbind e.0 n ns ∙ rw (apart_sym n e.0 other) h.0, once-unbind n ns h.1)
]

pub once_replayed : (es : List Event) (ns : Names) → IsOnce ns → IsOnce (replayed es ns)
once_replayed [] ns h = h
once_replayed (Binds n v ∷ es) ns h = once_replayed es (bind n v ns) (once-bind n v ns h)
once_replayed (Unbinds n ∷ es) ns h = once_replayed es (unbind n ns) (once-unbind n ns h)

-- what the record of a cell does gives the session after it
pub does : (b : Book) (k : ℕ) → AreDistinct (labels_of b.cells) → k < length b.cells
    → with_effects (entry_at b k).cell.label (record_at b.world (entry_at b k)).effects (session_before b k) ≡ session_before b (k + 1)
does b k d lt = replays_there b.world (entry_at b k) (fresh_at b k lt d) ∙ sym (session_before-next b k lt)

pub names_stand_once : NamesStandOnce
names_stand_once b zero d le = tt
names_stand_once b (suc k) d le =
    subst (λ (t : Session). IsOnce t.names) (does b k d (omega arith) ∙ ap (session_before b) (let e : k + 1 ≡ suc k = omega arith in e))
    (once_replayed (record_at b.world (entry_at b k)).effects.events (session_before b k).names (names_stand_once b k d (omega arith)))

pub sessions_are_sound : SessionsAreSound
sessions_are_sound b zero d le = tt
sessions_are_sound b (suc k) d le =
    let lt : k < length b.cells = omega arith in
    let e : Entry = entry_at b k in
    subst IsSoundSession (sym (session_before-next b k lt) ∙ ap (session_before b) (let e : k + 1 ≡ suc k = omega arith in e))
    (stays_sound.cell e.cell.label (reading e.cell.source) b.world e.session (fresh_at b k lt d) (sessions_are_sound b k d (omega arith)))
