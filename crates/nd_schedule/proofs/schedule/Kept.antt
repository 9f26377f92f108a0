-- What is kept of a run gives the session before each cell.
use Rattle.std.proofs.Common.{◌≡◌, ℕ, zero, suc, Bool, true, false, eq-eqb, ne_eqb, length-set, ◌+◌, ◌-◌, ◌<◌, ◌≤◌, ◌⊎◌, List, [], ◌∷◌, ◌++◌, length, map, get_or, set, cond, eqb, Option, Some, is_some, unwrap_or, refl, sym, ap, ap₂, subst, ◌∙◌, inl, inr, arith}
use Rattle.std.specs.Prelude.{slice_get}
use Rattle.std.proofs.lemmas.Bool.{cases_lt, cases_eq}
use Rattle.std.proofs.lemmas.Grind.{get_or-set_at}
use Rattle.nd_model.specs.Cells.Running.{Key}
use Rattle.nd_model.proofs.EditKept.{map-slice_set}
use Rattle.std.proofs.lemmas.List.{ext_get_or, get_or-take, get_or-set_other, length-map, map-append}
use Rattle.nd_model.specs.Cells.Session.{Names, Session, lookup, no_session}
use Rattle.nd_model.specs.Cells.Footprint.{replayed, with_effects}
use Rattle.nd_model.specs.Book.Scheduler.{told_of}
use Rattle.nd_model.specs.Book.Records.{Record, StillHolds}
use Rattle.nd_model.specs.Book.Renaming.{AreDistinct}
use Rattle.nd_model.specs.Book.Book.{Book, labels_of, told_book}
use Rattle.nd_model.specs.Book.Entries.{entry_at, record_at, entries_of, records_of, session_before, SharesFront}
use Rattle.nd_model.proofs.Lazy.{length-entries}
use Rattle.nd_model.proofs.Entries.{told_by_records, fresh_at, get_or-records_of, holds_there, replays_there, session_before-next}
use Rattle.nd_change.specs.Steps.{IsWordOf}
use Rattle.nd_schedule.proofs.schedule.Sweeping.{record_there}
use Rattle.nd_schedule.specs.Schedule.Sweep.{Changes, changed, AreChanged, AreFit, AreWords}

pub as_many : {X : Type 0} (view : X → Record) (b : Book) (xs : List X) → map view xs ≡ records_of b → length xs ≡ length b.cells
as_many view b xs e = sym (length-map xs view) ∙ ap length e ∙ length-map (entries_of b) (record_at b.world) ∙ length-entries b.cells b.world no_session

module _ (b : Book) (d : AreDistinct (labels_of b.cells)) (k : ℕ) (lt : k < length b.cells) (r : Record) (s : Session) (is : r ≡ record_at b.world (entry_at b k)) (here : s ≡ session_before b k) where
  pub holds_before : StillHolds r s b.world
  holds_before = let P : Record → Session → Type 0 = λ r s. StillHolds r s b.world in
      subst (λ r. P r s) (sym is) (subst (λ s. P (record_at b.world (entry_at b k)) s) (sym here) (holds_there b.world (entry_at b k) (fresh_at b k lt d)))

  pub after_replay : with_effects r.label r.effects s ≡ session_before b (k + 1)
  after_replay = ap (λ (r : Record). with_effects r.label r.effects s) is ∙ ap (with_effects (entry_at b k).cell.label (record_at b.world (entry_at b k)).effects) here
      ∙ replays_there b.world (entry_at b k) (fresh_at b k lt d) ∙ sym (session_before-next b k lt)

length-records : (b : Book) → length (records_of b) ≡ length b.cells
length-records b = length-map (entries_of b) (record_at b.world) ∙ length-entries b.cells b.world no_session

-- with the changes in their places the records of the one book are those of the other
pub records_now : (old new : Book) (at : ℕ) (cs : Changes) (rs ss : List Record) → rs ≡ records_of old → length new.cells ≡ length old.cells → SharesFront at old new → AreChanged old new at at (length old.cells) cs
    → length ss ≡ length rs → ((k : ℕ) (r : Record) → get_or ss k r ≡ changed cs k (get_or rs k r)) → ss ≡ records_of new
records_now old new at cs rs ss all many front changes long put = ext_get_or d ss (records_of new) same_length (λ k lt. each k (cases_lt k at) (omega (arith, same_length, length-records new)))
  where
    d : Record
    d = record_at new.world (entry_at new 0)

    same_length : length ss ≡ length (records_of new)
    same_length = let e : length rs ≡ length (records_of old) = ap length all in let f : length (records_of old) ≡ length old.cells = length-records old in let g : length (records_of new) ≡ length new.cells = length-records new in omega arith

    each : (k : ℕ) → (k < at) ⊎ (at ≤ k) → k < length new.cells → get_or ss k d ≡ get_or (records_of new) k d
    each k (inl front_of) lt =
        put k d ∙ changes.before k (get_or rs k d) front_of ∙ ap (λ rs. get_or rs k d) all ∙ sym (get_or-take at (records_of old) k d front_of) ∙ ap (λ rs. get_or rs k d) front.0 ∙ get_or-take at (records_of new) k d front_of
    each k (inr behind) lt =
        let e : at + (k - at) ≡ k = omega arith in
        put k d ∙ ap (changed cs k) (ap (λ rs. get_or rs k d) all ∙ get_or-records_of old k d (omega arith)) ∙ ap (λ m. changed cs m (record_at old.world (entry_at old m))) (sym e) ∙ changes.now (k - at) (omega arith)
        ∙ ap (λ m. record_at new.world (entry_at new m)) e ∙ sym (get_or-records_of new k d lt)

-- ---- changes that are put in their places

pub fit_there : {X : Type 0} {W : Type 0} (covers : W → Key → Bool) (view : X → ℕ × Record × W) (n : ℕ) (xs : List X) (k : ℕ) (x : X) → AreFit covers n (map view xs) → k < length xs → x ≡ get_or xs k x → ((view x).0 < n) × IsWordOf covers (view x).2 (view x).1
fit_there covers view n [] k x h lt is = absurd (omega arith)
fit_there {X} covers view n (y ∷ xs) zero x h lt is = let P : X → Type 0 = λ y. ((view y).0 < n) × IsWordOf covers (view y).2 (view y).1 in subst P (sym is) (h.0, h.1)
fit_there covers view n (y ∷ xs) (suc k) x h lt is = fit_there covers view n xs k x h.2 (omega arith) is

changed_push : (cs : Changes) (c : ℕ × Record) (k : ℕ) (x : Record) → changed (cs ++ c ∷ []) k x ≡ cond (eqb k c.0) c.1 (changed cs k x)
changed_push [] c k x = refl
changed_push (b ∷ cs) c k x = changed_push cs c k (cond (eqb k b.0) b.1 x)

set_there : {X : Type 0} (xs : List X) (p k : ℕ) (x d : X) → p < length xs → get_or (set xs p x) k d ≡ cond (eqb k p) x (get_or xs k d)
set_there xs p k x d lt = elim (cases_eq k p) [
  | inl e ↦ get_or-set_at xs p k x d e lt ∙ ap (λ t. cond t x (get_or xs k d)) (sym (eq-eqb k p e))
  | inr ne ↦ get_or-set_other xs p k x d ne ∙ ap (λ t. cond t x (get_or xs k d)) (sym (ne_eqb k p ne))
]

-- one record more in its place
pub put_one : {X Y : Type 0} (value : X → Record) (view : Y → ℕ × Record) (rs : List Record) (xs ys : List X) (cs : List Y) (c : Y) (x : X) (p : ℕ) → view c ≡ (p, value x) → ys ≡ set xs p x → p < length xs
    → ((k : ℕ) (r : Record) → get_or (map value xs) k r ≡ changed (map view cs) k (get_or rs k r)) → (k : ℕ) (r : Record) → get_or (map value ys) k r ≡ changed (map view (cs ++ c ∷ [])) k (get_or rs k r)
put_one value view rs xs ys cs c x p is grown lt so_far k r =
    ap (λ us. get_or us k r) (ap (map value) grown ∙ map-slice_set value xs p x) ∙ set_there (map value xs) p k (value x) r (omega (arith, length-map xs value))
    ∙ ap (cond (eqb k p) (value x)) (so_far k r)
    ∙ sym (ap (λ us. changed us k (get_or rs k r)) (map-append view cs (c ∷ [])) ∙ changed_push (map view cs) (view c) k (get_or rs k r) ∙ ap (λ (v : ℕ × Record). cond (eqb k v.0) v.1 (changed (map view cs) k (get_or rs k r))) is)

-- one word more
pub word_one : {X : Type 0} {W : Type 0} (covers : W → Key → Bool) (value : X → Record) (xs ys : List X) (ws vs : List W) (x : X) (w : W) (p : ℕ) → ys ≡ set xs p x → vs ≡ set ws p w → p < length xs → length ws ≡ length xs
    → IsWordOf covers w (value x) → AreWords covers ws (map value xs) → AreWords covers vs (map value ys)
word_one covers value xs ys ws vs x w p grown grown' lt many word all k u r less =
    let long : length (map value xs) ≡ length xs = length-map xs value in
    let long' : length (map value ys) ≡ length xs = length-map ys value ∙ ap length grown ∙ length-set xs p x in
    let here : get_or (map value ys) k r ≡ cond (eqb k p) (value x) (get_or (map value xs) k r) = ap (λ us. get_or us k r) (ap (map value) grown ∙ map-slice_set value xs p x) ∙ set_there (map value xs) p k (value x) r (omega arith) in
    let word_here : get_or vs k u ≡ cond (eqb k p) w (get_or ws k u) = ap (λ us. get_or us k u) grown' ∙ set_there ws p k w u (omega arith) in
    subst (λ v. IsWordOf covers v (get_or (map value ys) k r)) (sym word_here) (subst (IsWordOf covers (cond (eqb k p) w (get_or ws k u))) (sym here) (either (eqb k p) (all k u r (omega arith))))
  where
    either : (t : Bool) → IsWordOf covers (get_or ws k u) (get_or (map value xs) k r) → IsWordOf covers (cond t w (get_or ws k u)) (cond t (value x) (get_or (map value xs) k r))
    either true h = word
    either false h = h

-- what is told of a cell by its record and the session after it
pub told_there : {X : Type 0} (view : X → Record) (b : Book) (xs : List X) (x : X) (at : ℕ) (r : Record) (s : Session) → map view xs ≡ records_of b → at < length b.cells → x ≡ get_or xs at x → r ≡ view x
    → s ≡ session_before b (at + 1) → slice_get (told_book b) at ≡ Some (told_of r s)
told_there view b xs x at r s all lt is made after =
    told_by_records b at lt ∙ ap₂ (λ (r : Record) (s : Session). Some (told_of r s)) (sym (made ∙ record_there view b xs x at all lt is)) (sym after)

-- whether a name is bound after a cell, by what the cell did to it at last
pub bound_next : (b : Book) (d : AreDistinct (labels_of b.cells)) (k : ℕ) (r : Record) (n : List ℕ) (last : Option Bool) → k < length b.cells → r ≡ record_at b.world (entry_at b k)
    → ((names : Names) → is_some (lookup n (replayed r.effects.events names)) ≡ unwrap_or last (is_some (lookup n names)))
    → is_some (lookup n (session_before b (k + 1)).names) ≡ unwrap_or last (is_some (lookup n (session_before b k).names))
bound_next b d k r n last lt is h = ap (λ (s : Session). is_some (lookup n s.names)) (sym (after_replay b d k lt r (session_before b k) is refl)) ∙ h (session_before b k).names
