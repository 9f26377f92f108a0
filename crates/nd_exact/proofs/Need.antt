-- Stale cells have no record that still holds, and each right pass runs them.
use Rattle.std.proofs.Common.{ℕ, eqb-true, ◌&&◌, ◌≡◌, Bool, true, false, List, [], ◌∷◌, map, Option, Some, None, IfSome, option_map, refl, sym, subst}
use Rattle.nd_model.specs.Cells.Session.{Session, no_session}
use Rattle.nd_model.specs.Cells.Running.{World}
use Rattle.nd_model.specs.Grammar.Reading.{reading}
use Rattle.nd_model.specs.Cells.Cell.{session_after}
use Rattle.nd_model.specs.Cells.Footprint.{Agree, HasNone, reads_of, with_effects}
use Rattle.nd_model.specs.Book.Records.{Record, StillHolds}
use Rattle.nd_model.specs.Book.Scheduler.{IsOfRun, Passes}
use Rattle.nd_model.specs.Book.Renaming.{AreDistinct}
use Rattle.nd_model.specs.Book.Book.{Cell, Book, labels_of}
use Rattle.nd_model.specs.Book.Entries.{Entry, ended, record_at, entries}
use Rattle.nd_model.specs.Book.Stale.{is_same, IsStale, entry_before, kept_of, slot_of, MarksAll}
use Rattle.nd_model.proofs.Keeping.{found_at, kept}
use Rattle.nd_model.proofs.Entries.{kept_is_of_run, stale_now}
use Rattle.nd_model.proofs.Lazy.{Fresh, was_fresh, still_holds, at_most_is_at_most}
use Rattle.nd_exact.proofs.Stable.{agrees}
use Rattle.nd_exact.specs.Need.{StaleNeedsRun, NeedsRunIsStale, HoldsIsNotStale, NotStaleHolds, StaleRuns, NoFewerRuns}

-- ---- one cell

needs : (i j : World) (s : Session) (o : Option Entry) → IfSome o (λ was. ¬ Agree (reads_of (ended i was)) was.session i s j)
    → IfSome (option_map (record_at i) o) (λ r. ¬ StillHolds r s j)
needs i j s None stale = tt
needs i j s (Some was) stale = λ holds. stale (found_at was.cell.label (reading was.cell.source) was.session s i j holds)

pub stale_needs_run : StaleNeedsRun
stale_needs_run old new now stale = needs old.world new.world now.session (entry_before old now.cell) stale

pub needs_run_is_stale : NeedsRunIsStale
needs_run_is_stale old new now d none fails = stale_now old new d now.cell now.session none fails

pub holds_is_not_stale : HoldsIsNotStale
holds_is_not_stale old new now r is holds stale =
    let P : Option Record → Type 0 = λ o. IfSome o (λ r. ¬ StillHolds r now.session new.world) in
    let fails : ¬ StillHolds r now.session new.world = subst P is (stale_needs_run old new now stale) in
    fails holds

module _ (i j : World) (c : Cell) (s : Session) where
  -- how a cell was entered before that is not stale
  holds : (o : Option Entry) → IfSome o (λ was. Fresh was × (is_same c was.cell ≡ true)) → HasNone c.label s
      → ¬ IfSome o (λ was. ¬ Agree (reads_of (ended i was)) was.session i s j) → (r : Record) × (option_map (record_at i) o ≡ Some r) × StillHolds r s j
  holds None was none other = absurd (other tt)
  holds (Some e) was none other =
      let label : e.cell.label ≡ c.label = sym (eqb-true c.label e.cell.label (first _ _ was.1)) in
      let P : ℕ → Type 0 = λ n. HasNone n s in
      let agree : Agree (reads_of (ended i e)) e.session i s j = agrees (reads_of (ended i e)) e.session i s j other in
      (record_at i e, refl, still_holds i j e s (subst P (sym label) none) agree)
    where
      first : (x y : Bool) → (x && y) ≡ true → x ≡ true
      first true y h = refl
      first false y h = absurd (cc)

pub not_stale_holds : NotStaleHolds
not_stale_holds old new now d none other = holds old.world new.world now.cell now.session (entry_before old now.cell) (was_fresh old d now.cell) none other

-- ---- all cells

-- the effects of a record that is kept and still holds give the session after a run
replays : (old new : Book) → AreDistinct (labels_of old.cells) → (c : Cell) (s : Session) (r : Record) → kept_of old c ≡ Some r → StillHolds r s new.world
    → with_effects c.label r.effects s ≡ session_after (ended new.world (record { cell = c; session = s }))
replays old new d c s r is holds =
    let run : IsOfRun c.label (reading c.source) r = subst (λ o. IfSome o (IsOfRun c.label (reading c.source))) is (kept_is_of_run old d c) in
    of_run run holds
  where
    of_run : IsOfRun c.label (reading c.source) r → StillHolds r s new.world → with_effects c.label r.effects s ≡ session_after (ended new.world (record { cell = c; session = s }))
    of_run (i, t, none, same) h =
        let P : Record → Type 0 = λ r. StillHolds r s new.world in
        rw same (sym (kept c.label (reading c.source) t s i new.world none (subst P same h)).1)

all_run : (old new : Book) → AreDistinct (labels_of old.cells) → (cs : List Cell) (s : Session) (fs : List Bool) (rs : List Record)
    → Passes new.world s (map (slot_of old) cs) fs rs → MarksAll (IsStale old new) (entries cs new.world s) fs
all_run old new d [] s fs rs h = tt
all_run old new d (c ∷ cs) s [] rs h = absurd h
all_run old new d (c ∷ cs) s (f ∷ fs) [] h = absurd (no_record f h)
  where
    no_record : (f : Bool) → Passes new.world s (map (slot_of old) (c ∷ cs)) (f ∷ fs) [] → ⊥
    no_record true h = h
    no_record false h = h
all_run old new d (c ∷ cs) s (true ∷ fs) (r ∷ rs) h =
    (λ stale. refl, all_run old new d cs (session_after (ended new.world (record { cell = c; session = s }))) fs rs h.1)
all_run old new d (c ∷ cs) s (false ∷ fs) (r ∷ rs) h =
    let now : Entry = record { cell = c; session = s } in
    let P : Session → Type 0 = λ t. MarksAll (IsStale old new) (entries cs new.world t) fs in (
      λ stale. absurd (holds_is_not_stale old new now r h.0 h.1 stale),
      subst P (replays old new d c s r h.0 h.1) (all_run old new d cs (with_effects c.label r.effects s) fs rs h.2),
    )

pub stale_runs : StaleRuns
stale_runs old new fs rs d passes = all_run old new d new.cells no_session fs rs passes

pub no_fewer_runs : NoFewerRuns
no_fewer_runs old new fs rs n d passes most = at_most_is_at_most old new n fs most (stale_runs old new fs rs d passes)
