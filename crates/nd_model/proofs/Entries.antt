-- A run cell by cell, as a loop over the cells needs it.
use Rattle.std.proofs.Common.{◌≡◌, ℕ, zero, suc, ◌+◌, ◌<◌, ◌≤◌, Bool, List, [], ◌∷◌, ◌++◌, length, map, take, get_or, Some, IfSome, refl, sym, ap, ap₂, ◌∙◌, inl, inr, arith, add-one}
use Rattle.std.proofs.lemmas.List.{map-append, take-map}
use Rattle.nd_model.specs.Cells.Session.{Session, no_session}
use Rattle.nd_model.specs.Cells.Running.{Key, Name, Input, Length, Byte, World}
use Rattle.nd_model.specs.Grammar.Reading.{reading}
use Rattle.std.specs.Prelude.{slice_get, IsTrue}
use Rattle.nd_model.specs.Cells.Cell.{session_after, notebook}
use Rattle.nd_model.specs.Cells.Footprint.{Given, Agree, HasNone, reads_of, with_effects}
use Rattle.nd_model.specs.Book.Records.{Record, StillHolds}
use Rattle.nd_model.specs.Book.Scheduler.{IsOfRun, told_of}
use Rattle.nd_model.specs.Book.Renaming.{AreDistinct, told}
use Rattle.nd_model.specs.Book.Book.{Cell, Book, labels_of, no_cell, read_cells}
use Rattle.nd_model.specs.Book.Entries.{Entry, entry_at, ToldByRecords, SharesFront, ended, record_at, entries, after_cells, entries_of, records_of, session_before}
use Rattle.nd_model.specs.Book.Stale.{IsStale, AtLeast, entry_before, kept_of}
use Rattle.nd_model.proofs.Tracks.{effects_are_all}
use Rattle.nd_model.proofs.Keeping.{kept}
use Rattle.nd_model.proofs.Lazy.{same_front, NoneOf, none_of_nothing, none_behind, Fresh, was_fresh, kept_of_run, stale, still_holds}

module _ (i : World) where
  next : (cs : List Cell) (s : Session) (k : ℕ) → k < length cs
      → after_cells (take (suc k) cs) i s ≡ session_after (ended i (record { cell = get_or cs k no_cell; session = after_cells (take k cs) i s }))
  next [] s k h = absurd (omega arith)
  next (c ∷ cs) s zero h = refl
  next (c ∷ cs) s (suc k) h = next cs (session_after (ended i (record { cell = c; session = s }))) k (omega arith)

  fresh : (cs : List Cell) (s : Session) (k : ℕ) → k < length cs → AreDistinct (labels_of cs) → NoneOf cs s → HasNone (get_or cs k no_cell).label (after_cells (take k cs) i s)
  fresh [] s k h d none = absurd (omega arith)
  fresh (c ∷ cs) s zero h d none = none.0
  fresh (c ∷ cs) s (suc k) h d none = fresh cs (session_after (ended i (record { cell = c; session = s }))) k (omega arith) d.1 (none_behind c cs i s d none.1)

  one_more : (cs : List Cell) (s : Session) (k : ℕ) → k < length cs
      → take (suc k) (entries cs i s) ≡ take k (entries cs i s) ++ record { cell = get_or cs k no_cell; session = after_cells (take k cs) i s } ∷ []
  one_more [] s k h = absurd (omega arith)
  one_more (c ∷ cs) s zero h = refl
  one_more (c ∷ cs) s (suc k) h = let e : Entry = record { cell = c; session = s } in ap (λ es. e ∷ es) (one_more cs (session_after (ended i e)) k (omega arith))

  at_place : (cs : List Cell) (s : Session) (k : ℕ) (d : Record) → k < length cs
      → get_or (map (record_at i) (entries cs i s)) k d ≡ record_at i (record { cell = get_or cs k no_cell; session = after_cells (take k cs) i s })
  at_place [] s k d h = absurd (omega arith)
  at_place (c ∷ cs) s zero d h = refl
  at_place (c ∷ cs) s (suc k) d h = at_place cs (session_after (ended i (record { cell = c; session = s }))) k d (omega arith)

pub session_before-next : (b : Book) (k : ℕ) → k < length b.cells → session_before b (k + 1) ≡ session_after (ended b.world (entry_at b k))
session_before-next b k h = ap (session_before b) (add-one k) ∙ next b.world b.cells no_session k h

-- no base of its label is in the session
pub fresh_at : (b : Book) (k : ℕ) → k < length b.cells → AreDistinct (labels_of b.cells) → HasNone (entry_at b k).cell.label (session_before b k)
fresh_at b k h d = fresh b.world b.cells no_session k h d (none_of_nothing b.cells)

pub take-entries_of : (b : Book) (k : ℕ) → k < length b.cells → take (k + 1) (entries_of b) ≡ take k (entries_of b) ++ entry_at b k ∷ []
take-entries_of b k h = ap (λ n. take n (entries_of b)) (add-one k) ∙ one_more b.world b.cells no_session k h

pub take-records_of : (b : Book) (k : ℕ) → k < length b.cells → take (k + 1) (records_of b) ≡ take k (records_of b) ++ record_at b.world (entry_at b k) ∷ []
take-records_of b k h =
    take-map' (k + 1) ∙ ap (map (record_at b.world)) (take-entries_of b k h) ∙ map-append (record_at b.world) (take k (entries_of b)) (entry_at b k ∷ [])
    ∙ ap (λ rs. rs ++ record_at b.world (entry_at b k) ∷ []) (sym (take-map' k))
  where
    take-map' : (n : ℕ) → take n (records_of b) ≡ map (record_at b.world) (take n (entries_of b))
    take-map' n = take-map (record_at b.world) n (entries_of b)

pub get_or-records_of : (b : Book) (k : ℕ) (d : Record) → k < length b.cells → get_or (records_of b) k d ≡ record_at b.world (entry_at b k)
get_or-records_of b k d h = at_place b.world b.cells no_session k d h

-- the record of a run holds where the run was, and does what it did
pub holds_there : (i : World) (e : Entry) → Fresh e → StillHolds (record_at i e) e.session i
holds_there i e none = still_holds i i e e.session none (λ k read. refl)

pub replays_there : (i : World) (e : Entry) → Fresh e → with_effects e.cell.label (record_at i e).effects e.session ≡ session_after (ended i e)
replays_there i e none = sym (effects_are_all e.cell.label (reading e.cell.source) e.session i none)

pub kept_is_of_run : (old : Book) → AreDistinct (labels_of old.cells) → (c : Cell) → IfSome (kept_of old c) (IsOfRun c.label (reading c.source))
kept_is_of_run old d c = kept_of_run old.world c (entry_before old c) (was_fresh old d c)

pub stale_now : (old new : Book) → AreDistinct (labels_of old.cells) → (c : Cell) (s : Session) → HasNone c.label s → IfSome (kept_of old c) (λ r. ¬ StillHolds r s new.world)
    → IsStale old new (record { cell = c; session = s })
stale_now old new d c s none fails = stale old.world new.world c s (entry_before old c) none (was_fresh old d c) fails

-- ---- at least so many, as the list grows

pub at_least-append : {X : Type 0} (n : ℕ) (P : X → Type 0) (xs ys : List X) → AtLeast n P xs → AtLeast n P (xs ++ ys)
at_least-append zero P xs ys h = tt
at_least-append (suc n) P [] ys h = absurd h
at_least-append (suc n) P (x ∷ xs) ys (inl here) = inl (here.0, at_least-append n P xs ys here.1)
at_least-append (suc n) P (x ∷ xs) ys (inr there) = inr (at_least-append (suc n) P xs ys there)

pub at_least-push : {X : Type 0} (n : ℕ) (P : X → Type 0) (xs : List X) (x : X) → AtLeast n P xs → P x → AtLeast (suc n) P (xs ++ x ∷ [])
at_least-push zero P [] x h p = inl (p, tt)
at_least-push zero P (y ∷ xs) x h p = inr (at_least-push zero P xs x tt p)
at_least-push (suc n) P [] x h p = absurd h
at_least-push (suc n) P (y ∷ xs) x (inl here) p = inl (here.0, at_least-push n P xs x here.1 p)
at_least-push (suc n) P (y ∷ xs) x (inr there) p = inr (at_least-push (suc n) P xs x there p)

-- ---- what is told of a cell

told_at : (cs : List Cell) (i : World) (s : Session) (at : ℕ) → at < length cs
    → slice_get (told (notebook (read_cells cs) i s)) at ≡ Some (told_of (record_at i (record { cell = get_or cs at no_cell; session = after_cells (take at cs) i s })) (after_cells (take (suc at) cs) i s))
told_at [] i s at h = absurd (omega arith)
told_at (c ∷ cs) i s zero h = refl
told_at (c ∷ cs) i s (suc at) h = told_at cs i (session_after (ended i (record { cell = c; session = s }))) at (omega arith)

pub told_by_records : ToldByRecords
told_by_records b at h = told_at b.cells b.world no_session at h ∙ ap (λ n. Some (told_of (record_at b.world (entry_at b at)) (session_before b n))) (sym (add-one at))
