-- A cell that is taken out, and the sweep behind it.
use Rattle.std.proofs.Common.{◌≡◌, ℕ, Bool, ◌+◌, ◌-◌, ◌<◌, ◌≤◌, ◌⊎◌, List, [], length, map, get_or, Some, None, refl, sym, ap, subst, ◌∙◌, inl, inr, arith}
use Rattle.std.specs.Prelude.{remove}
use Rattle.std.proofs.lemmas.Bool.{cases_lt}
use Rattle.std.proofs.lemmas.List.{ext_get_or, get_or-take, length-map}
use Rattle.std.proofs.lemmas.List.Edits.{length-remove, get_or-remove_below, get_or-remove_above}
use Rattle.nd_model.specs.Cells.Session.{Session, no_session}
use Rattle.nd_model.specs.Cells.Running.{Key, World}
use Rattle.nd_model.specs.Cells.Footprint.{Found}
use Rattle.nd_model.specs.Book.Records.{Record}
use Rattle.nd_model.specs.Book.Renaming.{AreDistinct}
use Rattle.nd_model.specs.Book.Book.{Book, Cell, no_cell, labels_of}
use Rattle.nd_model.specs.Book.Entries.{entry_at, entries_of, record_at, records_of, session_before, SharesFront}
use Rattle.nd_model.specs.Book.Notebook.{Sheet, book_of}
use Rattle.nd_model.proofs.EditKept.{front_remove}
use Rattle.nd_model.proofs.EditLabels.{remove_distinct}
use Rattle.nd_model.proofs.Entries.{get_or-records_of}
use Rattle.nd_model.proofs.Lazy.{same_front, length-entries}
use Rattle.nd_schedule.specs.Cells.Source.{sheet}
use Rattle.nd_change.specs.Change.{Change, IsOver}
use Rattle.nd_change.specs.Snapshots.{IsAlike}
use Rattle.nd_change.specs.Steps.{Leaves, IsWordOf}
use Rattle.nd_change.proofs.Snapshots.{over_alike}
use Rattle.nd_schedule.specs.Schedule.Snapshot.{IsBehind, StandsBefore}
use Rattle.nd_schedule.specs.Schedule.Sweep.{IsAt, IsFrame, Changes, changed, AreChanged, AreWords, IsKept}
use Rattle.nd_schedule.proofs.schedule.Sweeping.{alike_self, alike_turned, runs_over, leaves_next}

-- behind the last cell nothing is changed
pub none_changed : {X : Type 0} (f : X → ℕ × Record) (old new : Book) (i j to : ℕ) (xs : List X) → to ≤ i → xs ≡ [] → AreChanged old new i j to (map f xs)
none_changed f old new i j to xs le none = subst (λ ys. AreChanged old new i j to (map f ys)) (sym none) (record { now = λ n lt. absurd (omega (arith, lt, le)); before = λ k r lt. refl; past = λ k r le. refl; rising = tt; stale = λ n lt. absurd (omega (arith, lt, le)) })

module _ (s : Sheet) (at : ℕ) (lt : at < length s.cells) (d : AreDistinct (labels_of s.cells)) where
  abbrev pub old : Book
  old = book_of s

  abbrev pub new : Book
  new = book_of (sheet (remove s.cells at) s.given)

  pub many : length new.cells + 1 ≡ length old.cells
  many = length-remove s.cells at lt

  pub front : SharesFront at old new
  front = same_front at old new refl (front_remove s.cells at)

  pub behind : IsBehind old new at
  behind = record { same = front; within = omega (arith, many); before = d; distinct = remove_distinct s.cells at d }

  -- in the place of the cell, without what it did
  pub went_at : (e f : Change) (x : Record) (h : Session) (upto : ℕ) → ((k : Key) → e k ≡ None) → x ≡ record_at old.world (entry_at old at) → StandsBefore old at h → Leaves e f x h → upto ≡ at + 1 → IsAt old new (at + 1) at f h upto
  went_at e f x h upto none is here leaves upto_is = subst (IsAt old new (at + 1) at f h) (sym upto_is) (record {
    over = over_alike f (session_before old (at + 1)) h (session_before old (at + 1)) (session_before new at) old.world new.world
        (subst (λ s. IsOver f s old.world h new.world) (leaves_next old at lt d)
        (subst (λ x. Leaves e f x h) is leaves (session_before old at) old.world new.world nothing_yet (runs_over old at lt d)))
        (alike_self (session_before old (at + 1)) (session_before old (at + 1)) refl) (alike_turned h (session_before new at) now_here);
    hand = record {
      behind = omega arith;
      enough = omega arith;
      session = subst (λ n. IsAlike h (session_before new n)) (stays at) now_here;
      once = here.once;
      kept = λ n less. absurd (omega arith);
    };
  })
    where
      now_here : IsAlike h (session_before new at)
      now_here = subst (IsAlike h) (front.1 at (omega arith)) here.alike

      stays : (at : ℕ) → at ≡ at - (at + 1 - (at + 1))
      stays at = omega arith

      none_some : (f : Found) → None ≡ Some f → ⊥
      none_some f e = cc

      nothing_yet : IsOver e (session_before old at) old.world h new.world
      nothing_yet = over_alike e (session_before old at) (session_before old at) (session_before old at) h old.world new.world
          (record { now = λ k f is there. absurd (none_some f (sym (none k) ∙ is)); same = λ k out in_s in_t. refl }) (alike_self (session_before old at) (session_before old at) refl) here.alike

  pub frame_behind : (cs : List Cell) (rs : List Record) (given : World) (n : ℕ) → s.cells ≡ cs → rs ≡ records_of old → new.world ≡ given → n ≡ length s.cells → IsFrame old new (at + 1) at n cs rs given
  frame_behind cs rs given n cells records world whole = record {
    cells = cells;
    run = record { records = records; distinct = d };
    order = omega arith;
    beside = record {
      within = omega arith;
      fits = omega (arith, many);
      same = λ n less. let e : at + n + 1 ≡ at + 1 + n = omega arith in
          sym (get_or-remove_above s.cells at no_cell (at + n) (omega arith) lt ∙ ap (λ k. get_or s.cells k no_cell) e);
      distinct = remove_distinct s.cells at d;
    };
    world = world;
  }

  length-records : (b : Book) → length (records_of b) ≡ length b.cells
  length-records b = length-map (entries_of b) (record_at b.world) ∙ length-entries b.cells b.world no_session

  pub records_without : (cs : Changes) (rs ss : List Record) → rs ≡ records_of old → AreChanged old new (at + 1) at (length s.cells) cs → length ss ≡ length rs → ((k : ℕ) (r : Record) → get_or ss k r ≡ changed cs k (get_or rs k r)) → remove ss at ≡ records_of new
  records_without cs rs ss all changes long put = ext_get_or x (remove ss at) (records_of new) same_length (λ k less. each k (cases_lt k at) (omega (arith, same_length, length-records new)))
    where
      x : Record
      x = record_at new.world (entry_at new 0)

      whole : length ss ≡ length s.cells
      whole = long ∙ ap length all ∙ length-records old

      same_length : length (remove ss at) ≡ length (records_of new)
      same_length = let e : length (remove ss at) + 1 ≡ length ss = length-remove ss at (omega (arith, whole)) in omega (arith, whole, many, length-records new)

      each : (k : ℕ) → (k < at) ⊎ (at ≤ k) → k < length new.cells → get_or (remove ss at) k x ≡ get_or (records_of new) k x
      each k (inl front_of) less =
          get_or-remove_below ss at x k front_of (omega (arith, whole)) ∙ put k x ∙ changes.before k (get_or rs k x) (omega arith) ∙ ap (λ rs. get_or rs k x) all ∙ sym (get_or-take at (records_of old) k x front_of) ∙ ap (λ rs. get_or rs k x) front.0
          ∙ get_or-take at (records_of new) k x front_of
      each k (inr behind) less =
          let e : at + 1 + (k - at) ≡ k + 1 = omega arith in let f : at + (k - at) ≡ k = omega arith in
          get_or-remove_above ss at x k behind (omega (arith, whole)) ∙ put (k + 1) x ∙ ap (changed cs (k + 1)) (ap (λ rs. get_or rs (k + 1) x) all ∙ get_or-records_of old (k + 1) x (omega (arith, many)))
          ∙ ap (λ m. changed cs m (record_at old.world (entry_at old m))) (sym e) ∙ changes.now (k - at) (omega (arith, many)) ∙ ap (λ m. record_at new.world (entry_at new m)) f ∙ sym (get_or-records_of new k x less)

-- all that is kept, without the cell
pub kept_without : {W : Type 0} (covers : W → Key → Bool) (s : Sheet) (at : ℕ) (cs : Changes) (rs ss : List Record) (ws vs : List W) → at < length s.cells → IsKept covers (book_of s) rs ws
    → AreChanged (book_of s) (book_of (sheet (remove s.cells at) s.given)) (at + 1) at (length s.cells) cs → length ss ≡ length rs → length vs ≡ length ws → ((k : ℕ) (r : Record) → get_or ss k r ≡ changed cs k (get_or rs k r))
    → (AreWords covers ws rs → AreWords covers vs ss) → IsKept covers (book_of (sheet (remove s.cells at) s.given)) (remove ss at) (remove vs at)
kept_without {W} covers s at cs rs ss ws vs lt kept changes long many_words put words = record {
  run = record { records = records_without s at lt kept.run.distinct cs rs ss kept.run.records changes long put; distinct = remove_distinct s.cells at kept.run.distinct };
  words = λ k w r less. each k w r (cases_lt k at) less;
  many = let e : length (remove vs at) + 1 ≡ length vs = length-remove vs at (omega (arith, whole, as_many)) in let f : length (remove ss at) + 1 ≡ length ss = length-remove ss at (omega (arith, whole)) in omega (arith, as_many);
}
  where
    whole : length ss ≡ length s.cells
    whole = long ∙ ap length kept.run.records ∙ length-records s at lt kept.run.distinct (book_of s)

    as_many : length vs ≡ length ss
    as_many = many_words ∙ kept.many ∙ sym long

    each : (k : ℕ) (w : W) (r : Record) → (k < at) ⊎ (at ≤ k) → k < length (remove ss at) → IsWordOf covers (get_or (remove vs at) k w) (get_or (remove ss at) k r)
    each k w r (inl front_of) less =
        subst (λ v. IsWordOf covers v (get_or (remove ss at) k r)) (sym (get_or-remove_below vs at w k front_of (omega (arith, whole, as_many))))
        (subst (IsWordOf covers (get_or vs k w)) (sym (get_or-remove_below ss at r k front_of (omega (arith, whole)))) (words kept.words k w r (omega (arith, whole))))
    each k w r (inr behind) less =
        let e : length (remove ss at) + 1 ≡ length ss = length-remove ss at (omega (arith, whole)) in
        subst (λ v. IsWordOf covers v (get_or (remove ss at) k r)) (sym (get_or-remove_above vs at w k behind (omega (arith, whole, as_many))))
        (subst (IsWordOf covers (get_or vs (k + 1) w)) (sym (get_or-remove_above ss at r k behind (omega (arith, whole)))) (words kept.words (k + 1) w r (omega arith)))
