-- A cell that moves, and the sweeps around it.
use Rattle.std.proofs.Common.{◌≡◌, ℕ, Bool, ◌+◌, ◌-◌, ◌^◌, ◌<◌, ◌≤◌, ◌⊎◌, min, List, [], ◌∷◌, zero, suc, length, map, take, get_or, Option, Some, None, Result, Ok, Err, IfOk, IfSome, refl, sym, ap, ap₂, subst, ◌∙◌, inl, inr, arith, true}
use Rattle.std.specs.Prelude.{insert, remove, is_ok, MatchOption, OnErr}
use Rattle.std.proofs.lemmas.Bool.{cases_lt}
use Rattle.std.proofs.lemmas.List.{ext_get_or, get_or-map, get_or-take, length-map}
use Rattle.std.proofs.lemmas.List.Edits.{length-insert, length-remove, get_or-insert_at, get_or-insert_below, get_or-insert_above, get_or-remove_below, get_or-remove_above}
use Rattle.nd_model.specs.Cells.Session.{Session, no_session}
use Rattle.nd_model.specs.Cells.Running.{Key, World}
use Rattle.nd_model.specs.Grammar.Reading.{reading}
use Rattle.nd_model.specs.Grammar.Syntax.{Parsed}
use Rattle.nd_model.specs.Cells.Cell.{cell, session_after}
use Rattle.nd_model.specs.Cells.Footprint.{Found, HasNone, found, with_effects}
use Rattle.nd_model.specs.Book.Records.{Record, record_of, StillHolds}
use Rattle.nd_model.specs.Book.Renaming.{AreDistinct}
use Rattle.nd_model.specs.Book.Sessions.{IsOnce}
use Rattle.nd_model.specs.Book.Book.{Book, Cell, no_cell, labels_of, Move}
use Rattle.nd_model.specs.Book.Notebook.{Sheet, book_of, edited_sheet, world_in}
use Rattle.nd_model.specs.Book.Entries.{entry_at, entries_of, record_at, records_of, session_before, SharesFront}
use Rattle.nd_model.specs.Book.Scheduler.{IsOfRun}
use Rattle.nd_model.specs.Book.Stale.{IsStale, kept_of}
use Rattle.nd_model.proofs.EditKept.{front_move, map-insert, map-remove}
use Rattle.nd_model.proofs.EditLabels.{move_distinct}
use Rattle.nd_model.proofs.Entries.{fresh_at, get_or-records_of}
use Rattle.nd_model.proofs.Lazy.{same_front, length-entries}
use Rattle.nd_model.proofs.Sessions.{names_stand_once}
use Rattle.nd_model.proofs.Passing.{stands}
use Rattle.nd_model.proofs.Tracks.{effects_are_all}
use Rattle.nd_change.specs.Change.{Change, IsOver, did_by}
use Rattle.nd_change.specs.Snapshots.{IsAlike}
use Rattle.nd_change.specs.Steps.{Comes, IsWordOf, Leaves}
use Rattle.nd_change.proofs.Changes.{run_over}
use Rattle.nd_change.proofs.Snapshots.{alike_replays, alike_runs, over_alike}
use Rattle.nd_schedule.specs.Schedule.Snapshot.{IsBehind, StandsBefore}
use Rattle.nd_schedule.specs.Schedule.Sweep.{AreChanged, AreFit, AreGathered, AreMoved, AreWords, Changes, changed, CountsFront, IsAt, IsComing, IsFrame, IsKept, IsMoving, IsPlace, IsRun}
use Rattle.nd_schedule.proofs.schedule.Sweeping.{alike_self, alike_turned, counts_run, counts_same, fresh_there, kept_there, leaves_next, next_alike, runs_over, stale_there}

pub if_ok_more : {X E : Type 0} {P Q : X → Type 0} (res : Result X E) → IfOk res P → ((x : X) → P x → Q x) → IfOk res Q
if_ok_more (Ok x) p f = f x p
if_ok_more (Err e) p f = tt

pub if_ok_two : {X E : Type 0} {P Q R : X → Type 0} (res : Result X E) → IfOk res P → IfOk res Q → ((x : X) → P x → Q x → R x) → IfOk res R
if_ok_two (Ok x) p q f = f x p q
if_ok_two (Err e) p q f = tt

-- what holds where there is a value, of a result that is one
pub ended : {X E : Type 0} {P : Type 0} (res : Result X E) → IfOk res (λ _. P) → is_ok res ≡ true → P
ended (Ok x) p ok = p
ended (Err e) p ok = absurd (cc)

-- what holds of a value that is handed on once all went well
pub from_hand_on : {A X E : Type 0} (P : X → Type 0) (res : Result X E) (done : Result A E) (x : X) → IfOk res (λ y. (is_ok done ≡ true) × (y ≡ x)) → IfOk done (λ _. P x) → IfOk res P
from_hand_on P (Ok y) done x h all = subst P (sym h.1) (ended done all h.0)
from_hand_on P (Err e) done x h all = tt

-- a fact holds also where a result is refused
pub at_err : {X E : Type 0} (P : Type 0) (res : Result X E) → P → OnErr res P
at_err P (Ok x) p = tt
at_err P (Err e) p = p

pub match_more : {X : Type 0} {A B : Type 0} {P Q : X → Type 0} (o : Option X) → MatchOption o A P → (A → B) → ((x : X) → P x → Q x) → MatchOption o B Q
match_more None h f g = f h
match_more (Some x) h f g = g x h

pub made_there : {X : Type 0} (view : X → Record) (o : Option X) (r s x : Record) → r ≡ s → MatchOption o (r ≡ x) (λ n. view n ≡ x) → MatchOption o (s ≡ x) (λ n. view n ≡ x)
made_there view o r s x is h = subst (λ r. MatchOption o (r ≡ x) (λ n. view n ≡ x)) is h

-- where an edit begins nothing is changed yet
pub begins : (old new : Book) (at : ℕ) (e : Change) (h : Session) → AreDistinct (labels_of old.cells) → at ≤ length old.cells → ((k : Key) → e k ≡ None) → SharesFront at old new → old.world ≡ new.world → StandsBefore old at h → IsAt old new at at e h at
begins old new at e h d le none front same here = record {
  over = record {
    now = λ k f is there. absurd (none_some f (sym (none k) ∙ is));
    same = λ k out in_s in_t. (λ i. found (front.1 at (omega arith) i) (same i) k);
  };
  hand = record {
    behind = omega arith;
    enough = omega arith;
    session = subst (IsAlike h) (front.1 at (omega arith) ∙ ap (session_before new) (stays at)) here.alike;
    once = here.once;
    kept = λ n less. absurd (omega arith);
  };
}
  where
    none_some : (f : Found) → None ≡ Some f → ⊥
    none_some f e = cc

    stays : (at : ℕ) → at ≡ at - (at - at)
    stays at = omega arith

pub at_hand : (new : Book) (i j : ℕ) (h : Session) → IsAlike h (session_before new (j - (i - i))) → IsAlike h (session_before new j)
at_hand new i j h alike = let e : j - (i - i) ≡ j = omega arith in subst (λ n. IsAlike h (session_before new n)) e alike

-- behind a cell that is gone
pub left_at : (old new : Book) (i j : ℕ) → i < length old.cells → AreDistinct (labels_of old.cells) → (c e : Change) (h : Session) → IsAt old new i j c h i → (x : Record) → x ≡ record_at old.world (entry_at old i) → Leaves c e x h → (upto : ℕ) → upto ≡ i + 1
    → IsAt old new (i + 1) j e h upto
left_at old new i j lt d c e h at x is leaves upto upto_is =
    let s : Session = session_before old i in
    let next : Session = session_before old (i + 1) in
    let t : Session = session_before new j in
    let alike : IsAlike h t = at_hand new i j h at.hand.session in
    let here : IsOver c s old.world h new.world = over_alike c s t s h old.world new.world at.over (alike_self s s refl) alike in
    let behind : IsOver e next old.world h new.world = subst (λ s. IsOver e s old.world h new.world) (leaves_next old i lt d)
    (subst (λ x. Leaves c e x h) is leaves s old.world new.world here (runs_over old i lt d)) in
    subst (IsAt old new (i + 1) j e h) (sym upto_is) (record {
      over = over_alike e next h next t old.world new.world behind (alike_self next next refl) (alike_turned h t alike);
      hand = record {
        behind = omega arith;
        enough = omega arith;
        session = subst (λ n. IsAlike h (session_before new n)) (stays j i) alike;
        once = at.hand.once;
        kept = λ n lt. absurd (omega arith);
      };
    })
  where
    stays : (j i : ℕ) → j ≡ j - (i + 1 - (i + 1))
    stays j i = omega arith

-- a cell that comes in from elsewhere
module _ (old new : Book) (from i j : ℕ) (rs : List Record) (c : Cell) (r : Record) (given : World) (coming : IsComing old new from i j rs c r given) (d : Change) (h : Session) (at : IsAt old new i j d h i) where
  abbrev pub t : Session
  t = session_before new j

  abbrev pub q : Record
  q = record_at new.world (entry_at new j)

  here : IsAlike h t
  here = at_hand new i j h at.hand.session

  once_there : IsOnce t.names
  once_there = names_stand_once new j coming.place.distinct (omega (arith, coming.there))

  none_now : HasNone c.label t
  none_now = subst (λ (c : Cell). HasNone c.label t) coming.cell (fresh_at new j coming.there coming.place.distinct)

  same_run : HasNone c.label h × (record_of c.label (reading c.source) new.world h ≡ record_of c.label (reading c.source) new.world t) × IsAlike (session_after (cell c.label (reading c.source) new.world h)) (session_after (cell c.label (reading c.source) new.world t))
  same_run = alike_runs c.label (reading c.source) h t new.world here at.hand.once once_there none_now

  pub enter_none : HasNone c.label h
  enter_none = same_run.0

  pub enter_record : record_of c.label (reading c.source) given h ≡ q
  enter_record = ap (λ g. record_of c.label (reading c.source) g h) (sym coming.world) ∙ same_run.1 ∙ ap (λ (c : Cell). record_of c.label (reading c.source) new.world t) (sym coming.cell)

  pub enter_of_run : IsOfRun c.label (reading c.source) r
  enter_of_run = let P : Cell → Type 0 = λ x. IsOfRun x.label (reading x.source) r in
      subst P coming.was (old.world, session_before old from, fresh_at old from coming.stood coming.run.distinct, coming.made)

  pub enter_at : (e : Change) (after : Session) → after ≡ session_after (cell c.label (reading c.source) given h) → Comes d e (record_of c.label (reading c.source) given h) after → (upto : ℕ) → upto ≡ i → IsAt old new i (j + 1) e after upto
  enter_at e after then comes upto upto_is =
      let s : Session = session_before old i in
      let t' : Session = session_before new (j + 1) in
      let then' : after ≡ did_by (Some q) h = then ∙ effects_are_all c.label (reading c.source) h given enter_none ∙ ap (λ (q : Record). did_by (Some q) h) enter_record in
      let next : StillHolds q h new.world × IsAlike (did_by (Some q) h) t' × IsOnce (did_by (Some q) h).names = next_alike new j coming.there coming.place.distinct h here at.hand.once in
      let then_alike : IsAlike after t' = subst (λ u. IsAlike u t') (sym then') next.1 in
      let over_here : IsOver d s old.world h new.world = over_alike d s t s h old.world new.world at.over (alike_self s s refl) here in
      let behind : IsOver e s old.world after new.world = subst (λ q. Comes d e q after) enter_record comes s h old.world new.world over_here (run_over q t h new.world new.world (runs_over new j coming.there coming.place.distinct) next.0) then' in
      subst (IsAt old new i (j + 1) e after) (sym upto_is) (record {
        over = over_alike e s after s t' old.world new.world behind (alike_self s s refl) (alike_turned after t' then_alike);
        hand = record {
          behind = omega arith;
          enough = omega arith;
          session = subst (λ n. IsAlike after (session_before new n)) (stays j i) then_alike;
          once = subst (λ u. IsOnce u.names) (sym then') next.2;
          kept = λ n lt. absurd (omega arith);
        };
      })
    where
      stays : (j i : ℕ) → j + 1 ≡ j + 1 - (i - i)
      stays j i = omega arith

  enter_fails : ¬ StillHolds r h given → IfSome (kept_of old (entry_at new j).cell) (λ r. ¬ StillHolds r t new.world)
  enter_fails out =
      subst (λ o. IfSome o (λ r. ¬ StillHolds r t new.world)) (sym (ap (kept_of old) (coming.cell ∙ sym coming.was) ∙ kept_there old from coming.stood coming.run.distinct))
      (λ holds. out (subst (StillHolds r h) coming.world (let P : Record → Type 0 = λ x. StillHolds x h new.world in
      subst P (sym coming.made) (alike_replays (record_at old.world (entry_at old from)) h t new.world here at.hand.once once_there holds).0)))

  pub enter_stale : ¬ StillHolds r h given → IsStale old new (entry_at new j)
  enter_stale out = stale_there old new j coming.there coming.run.distinct coming.place.distinct (enter_fails out)

  pub enter_fresh : StillHolds r h given → ¬ IsStale old new (entry_at new j)
  enter_fresh holds =
      let was : Record = record_at old.world (entry_at old from) in
      let at_hand_now : StillHolds was h new.world = subst (StillHolds was h) (sym coming.world) (subst (λ x. StillHolds x h given) coming.made holds) in
      fresh_there old new j was (ap (kept_of old) (coming.cell ∙ sym coming.was) ∙ kept_there old from coming.stood coming.run.distinct)
      (alike_replays was t h new.world (alike_turned h t here) once_there at.hand.once at_hand_now).0

  pub enter_counts : (before mid after : ℕ) → (after ≡ mid) ⊎ ((after ≡ min (mid + 1) (2 ^ 64 - 1)) × (¬ StillHolds r h given)) → CountsFront old new j before mid → CountsFront old new (j + 1) before after
  enter_counts before mid after (inl same) so_far = subst (CountsFront old new (j + 1) before) (sym same) (counts_same old new j before mid coming.there so_far)
  enter_counts before mid after (inr more) so_far = counts_run old new j before mid after coming.there coming.run.distinct coming.place.distinct (enter_fails more.1) so_far more.0

-- ---- lists in which one stands elsewhere

module _ {X : Type 0} (xs : List X) (from to : ℕ) (lt : from < length xs) (less : to < length xs) (x d : X) where
  abbrev pub turned : List X
  turned = insert (remove xs from) to x

  one_less : length (remove xs from) + 1 ≡ length xs
  one_less = length-remove xs from lt

  pub turned_many : length turned ≡ length xs
  turned_many = length-insert (remove xs from) to x (omega (arith, one_less)) ∙ one_less

  pub turned_front : (k : ℕ) → k < from → k < to → get_or turned k d ≡ get_or xs k d
  turned_front k a b = get_or-insert_below (remove xs from) to x d k b (omega (arith, one_less)) ∙ get_or-remove_below xs from d k a lt

  pub turned_down : (k : ℕ) → from ≤ k → k < to → get_or turned k d ≡ get_or xs (k + 1) d
  turned_down k a b = get_or-insert_below (remove xs from) to x d k b (omega (arith, one_less)) ∙ get_or-remove_above xs from d k a lt

  pub turned_up : (k : ℕ) → to ≤ k → k < from → get_or turned (k + 1) d ≡ get_or xs k d
  turned_up k a b = get_or-insert_above (remove xs from) to x d k a (omega (arith, one_less)) ∙ get_or-remove_below xs from d k b lt

  pub turned_behind : (k : ℕ) → from < k → to < k → get_or turned k d ≡ get_or xs k d
  turned_behind k a b =
      let e : k - 1 + 1 ≡ k = omega arith in
      ap (λ m. get_or turned m d) (sym e) ∙ get_or-insert_above (remove xs from) to x d (k - 1) (omega arith) (omega (arith, one_less)) ∙ get_or-remove_above xs from d (k - 1) (omega arith) lt ∙ ap (λ m. get_or xs m d) e

  pub turned_there : get_or turned to d ≡ x
  turned_there = get_or-insert_at (remove xs from) to x d (omega (arith, one_less))

-- ---- the notebook in which a cell has moved

pub same_in_front : (old new : Book) (at : ℕ) → SharesFront at old new → (k : ℕ) → k < at → k < length old.cells → k < length new.cells → record_at old.world (entry_at old k) ≡ record_at new.world (entry_at new k)
same_in_front old new at front k lt less less' =
    let d : Record = record_at old.world (entry_at old k) in
    sym (get_or-records_of old k d less) ∙ sym (get_or-take at (records_of old) k d lt) ∙ ap (λ rs. get_or rs k d) front.0 ∙ get_or-take at (records_of new) k d lt ∙ get_or-records_of new k d less'

module _ (old new : Book) (from to : ℕ) (cs : List Cell) (rs : List Record) (given : World) (m : IsMoving old new from to cs rs given) where
  abbrev pub c : Cell
  c = get_or old.cells from no_cell

  pub many : length new.cells ≡ length old.cells
  many = ap length m.now ∙ turned_many old.cells from to m.stood m.goes c no_cell

  pub distinct_now : AreDistinct (labels_of new.cells)
  distinct_now = subst (λ cs. AreDistinct (labels_of cs)) (sym m.now) (move_distinct old.cells from to m.run.distinct m.stood)

  pub front : (k : ℕ) → k ≤ from → k ≤ to → SharesFront k old new
  front k a b = same_front k old new (m.before ∙ sym m.world) (front_move old.cells from to k a b m.stood m.goes ∙ ap (take k) (sym m.now))

  pub behind : (k : ℕ) → k ≤ from → k ≤ to → IsBehind old new k
  behind k a b = record { same = front k a b; within = omega (arith, many, m.stood); before = m.run.distinct; distinct = distinct_now }

  there : (k : ℕ) → get_or new.cells k no_cell ≡ get_or (insert (remove old.cells from) to c) k no_cell
  there k = ap (λ cs. get_or cs k no_cell) m.now

  pub frame_down : from < to → IsFrame old new (from + 1) from (to + 1) cs rs given
  frame_down down = record {
    cells = m.cells;
    run = m.run;
    order = omega arith;
    beside = record {
      within = omega (arith, m.goes);
      fits = omega (arith, m.goes, many);
      same = λ n less. let e : from + n + 1 ≡ from + 1 + n = omega arith in
          sym (there (from + n) ∙ turned_down old.cells from to m.stood m.goes c no_cell (from + n) (omega arith) (omega arith) ∙ ap (λ k. get_or old.cells k no_cell) e);
      distinct = distinct_now;
    };
    world = m.world;
  }

  pub frame_up : to < from → IsFrame old new to (to + 1) from cs rs given
  frame_up up = record {
    cells = m.cells;
    run = m.run;
    order = omega arith;
    beside = record {
      within = omega (arith, m.stood);
      fits = omega (arith, m.stood, many);
      same = λ n less. let e : to + n + 1 ≡ to + 1 + n = omega arith in
          sym (ap (λ k. get_or new.cells k no_cell) (sym e) ∙ there (to + n + 1) ∙ turned_up old.cells from to m.stood m.goes c no_cell (to + n) (omega arith) (omega arith));
      distinct = distinct_now;
    };
    world = m.world;
  }

  pub frame_rest : (at n : ℕ) → from < at → to < at → at ≤ n → n ≡ length old.cells → IsFrame old new at at n cs rs given
  frame_rest at n a b le whole = record {
    cells = m.cells;
    run = m.run;
    order = le;
    beside = record {
      within = omega arith;
      fits = omega (arith, many);
      same = λ n less. sym (there (at + n) ∙ turned_behind old.cells from to m.stood m.goes c no_cell (at + n) (omega arith) (omega arith));
      distinct = distinct_now;
    };
    world = m.world;
  }

  -- the places of the cell that moves, and those behind them
  pub from_within : from ≤ length old.cells
  from_within = let h : from < length old.cells = m.stood in omega arith

  pub from_next : from + 1 ≤ length old.cells
  from_next = let h : from < length old.cells = m.stood in omega arith

  pub to_within : to ≤ length old.cells
  to_within = let h : to < length old.cells = m.goes in omega arith

  pub to_next : to + 1 ≤ length old.cells
  to_next = let h : to < length old.cells = m.goes in omega arith

  pub place_at : (i j : ℕ) → i ≤ length old.cells → j ≤ length old.cells → IsPlace old new i j
  place_at i j le le' = record { before = le; now = omega (arith, many); distinct = distinct_now }

  pub coming : (i : ℕ) → i ≤ length old.cells → (x : Cell) (r : Record) → x ≡ get_or cs from no_cell → r ≡ record_at old.world (entry_at old from) → IsComing old new from i to rs x r given
  coming i le x r x_is r_is =
      let was : (entry_at old from).cell ≡ x = ap (λ cs. get_or cs from no_cell) m.cells ∙ sym x_is in
      record {
        run = m.run;
        place = record { before = le; now = omega (arith, many, m.goes); distinct = distinct_now };
        stood = m.stood;
        was = was;
        made = r_is;
        there = omega (arith, many, m.goes);
        cell = there to ∙ turned_there old.cells from to m.stood m.goes c no_cell ∙ was;
        world = m.world;
      }

  same_before : (k : ℕ) → k < from → k < to → record_at old.world (entry_at old k) ≡ record_at new.world (entry_at new k)
  same_before k a b = same_in_front old new (k + 1) (front (k + 1) (omega arith) (omega arith)) k (omega arith) (omega (arith, m.stood)) (omega (arith, m.stood, many))

  module _ (es ds : Changes) where
    pub moved_down : from < to → AreChanged old new (from + 1) from (to + 1) es → AreChanged old new (to + 1) (to + 1) (length old.cells) ds → AreMoved old new from to es ds
    moved_down down first second = record {
      front = λ k a b. second.before k (changed es k (record_at old.world (entry_at old k))) (omega arith) ∙ first.before k (record_at old.world (entry_at old k)) (omega arith) ∙ same_before k a b;
      down = λ k a b.
          let x : Record = record_at old.world (entry_at old (k + 1)) in
          let e : from + 1 + (k - from) ≡ k + 1 = omega arith in let f : from + (k - from) ≡ k = omega arith in
          second.before (k + 1) (changed es (k + 1) x) (omega arith) ∙ ap (λ n. changed es n (record_at old.world (entry_at old n))) (sym e) ∙ first.now (k - from) (omega arith) ∙ ap (λ n. record_at new.world (entry_at new n)) f;
      up = λ k a b. absurd (omega arith);
      behind = λ k a b lt.
          let x : Record = record_at old.world (entry_at old k) in
          let e : to + 1 + (k - (to + 1)) ≡ k = omega arith in
          ap (changed ds k) (first.past k x (omega arith)) ∙ ap (λ n. changed ds n (record_at old.world (entry_at old n))) (sym e) ∙ second.now (k - (to + 1)) (omega arith) ∙ ap (λ n. record_at new.world (entry_at new n)) e;
      stays = λ r. second.before from (changed es from r) (omega arith) ∙ first.before from r (omega arith);
      between_down = λ _. first;
      behind_down = λ _. second;
      between_up = λ up. absurd (omega arith);
      behind_up = λ up. absurd (omega arith);
    }

    pub moved_up : to < from → AreChanged old new to (to + 1) from es → AreChanged old new (from + 1) (from + 1) (length old.cells) ds → AreMoved old new from to es ds
    moved_up up first second = record {
      front = λ k a b. second.before k (changed es k (record_at old.world (entry_at old k))) (omega arith) ∙ first.before k (record_at old.world (entry_at old k)) (omega arith) ∙ same_before k a b;
      down = λ k a b. absurd (omega arith);
      up = λ k a b.
          let x : Record = record_at old.world (entry_at old k) in
          let e : to + (k - to) ≡ k = omega arith in let f : to + 1 + (k - to) ≡ k + 1 = omega arith in
          second.before k (changed es k x) (omega arith) ∙ ap (λ n. changed es n (record_at old.world (entry_at old n))) (sym e) ∙ first.now (k - to) (omega arith) ∙ ap (λ n. record_at new.world (entry_at new n)) f;
      behind = λ k a b lt.
          let x : Record = record_at old.world (entry_at old k) in
          let e : from + 1 + (k - (from + 1)) ≡ k = omega arith in
          ap (changed ds k) (first.past k x (omega arith)) ∙ ap (λ n. changed ds n (record_at old.world (entry_at old n))) (sym e) ∙ second.now (k - (from + 1)) (omega arith) ∙ ap (λ n. record_at new.world (entry_at new n)) e;
      stays = λ r. second.before from (changed es from r) (omega arith) ∙ first.past from r (omega arith);
      between_down = λ down. absurd (omega arith);
      behind_down = λ down. absurd (omega arith);
      between_up = λ _. first;
      behind_up = λ _. second;
    }

  -- ---- what is kept, with the cell in its new place

  module _ (us : List Record) (long : length us ≡ length old.cells) (x : Record) where
    moved_length : length (insert (remove us from) to x) ≡ length (records_of new)
    moved_length =
        turned_many us from to (omega (arith, m.stood)) (omega (arith, m.goes)) x x ∙ long ∙ sym many ∙ sym (length-map (entries_of new) (record_at new.world) ∙ length-entries new.cells new.world no_session)

    module _ (es ds : Changes) (moved : AreMoved old new from to es ds) (put : (k : ℕ) (r : Record) → k < length old.cells → ¬ (k ≡ from) → get_or us k r ≡ changed ds k (changed es k (record_at old.world (entry_at old k)))) (is : x ≡ record_at new.world (entry_at new to)) where
      each : (k : ℕ) → (k < to) ⊎ (to ≤ k) → (k < from) ⊎ (from ≤ k) → (to < k) ⊎ (k ≤ to) → (k - 1 < from) ⊎ (from ≤ k - 1) → k < length old.cells → get_or (insert (remove us from) to x) k x ≡ record_at new.world (entry_at new k)
      each k (inl b) (inl a) any other lt = turned_front us from to (omega (arith, m.stood)) (omega (arith, m.goes)) x x k a b ∙ put k x lt (λ e. absurd (omega arith)) ∙ moved.front k a b
      each k (inl b) (inr a) any other lt = turned_down us from to (omega (arith, m.stood)) (omega (arith, m.goes)) x x k a b ∙ put (k + 1) x (omega (arith, m.goes)) (λ e. absurd (omega arith)) ∙ moved.down k a b
      each k (inr b) a (inl past) (inl less) lt =
          let e : k - 1 + 1 ≡ k = omega arith in
          ap (λ n. get_or (insert (remove us from) to x) n x) (sym e) ∙ turned_up us from to (omega (arith, m.stood)) (omega (arith, m.goes)) x x (k - 1) (omega arith) less ∙ put (k - 1) x (omega arith) (λ e. absurd (omega arith)) ∙ moved.up (k - 1) (omega arith) less
          ∙ ap (λ n. record_at new.world (entry_at new n)) e
      each k (inr b) a (inl past) (inr more) lt = turned_behind us from to (omega (arith, m.stood)) (omega (arith, m.goes)) x x k (omega arith) past ∙ put k x lt (λ e. absurd (omega arith)) ∙ moved.behind k (omega arith) past lt
      each k (inr b) a (inr same) other lt =
          let e : k ≡ to = omega arith in
          ap (λ n. get_or (insert (remove us from) to x) n x) e ∙ turned_there us from to (omega (arith, m.stood)) (omega (arith, m.goes)) x x ∙ is ∙ ap (λ n. record_at new.world (entry_at new n)) (sym e)

      pub records_moved : insert (remove us from) to x ≡ records_of new
      records_moved = ext_get_or x (insert (remove us from) to x) (records_of new) moved_length (λ k lt.
          let less : k < length old.cells = omega (arith, moved_length, turned_many us from to (omega (arith, m.stood)) (omega (arith, m.goes)) x x, long) in
          each k (cases_lt k to) (cases_lt k from) (cases_lt to k) (cases_lt (k - 1) from) less ∙ sym (get_or-records_of new k x (omega (arith, many))))

    module _ {W : Type 0} (covers : W → Key → Bool) (vs : List W) (as_many : length vs ≡ length us) (words : AreWords covers vs us) (w : W) (word : IsWordOf covers w x) where
      word_at : (k : ℕ) (u : W) (r : Record) → (k < to) ⊎ (to ≤ k) → (k < from) ⊎ (from ≤ k) → (to < k) ⊎ (k ≤ to) → (k - 1 < from) ⊎ (from ≤ k - 1) → k < length old.cells → IsWordOf covers (get_or (insert (remove vs from) to w) k u) (get_or (insert (remove us from) to x) k r)
      word_at k u r (inl b) (inl a) any other lt =
          subst (λ v. IsWordOf covers v (get_or (insert (remove us from) to x) k r)) (sym (turned_front vs from to (omega (arith, m.stood)) (omega (arith, m.goes)) w u k a b))
          (subst (IsWordOf covers (get_or vs k u)) (sym (turned_front us from to (omega (arith, m.stood)) (omega (arith, m.goes)) x r k a b)) (words k u r (omega arith)))
      word_at k u r (inl b) (inr a) any other lt =
          subst (λ v. IsWordOf covers v (get_or (insert (remove us from) to x) k r)) (sym (turned_down vs from to (omega (arith, m.stood)) (omega (arith, m.goes)) w u k a b))
          (subst (IsWordOf covers (get_or vs (k + 1) u)) (sym (turned_down us from to (omega (arith, m.stood)) (omega (arith, m.goes)) x r k a b)) (words (k + 1) u r (omega (arith, m.goes))))
      word_at k u r (inr b) a (inl past) (inl less) lt =
          let e : k - 1 + 1 ≡ k = omega arith in
          subst (λ n. IsWordOf covers (get_or (insert (remove vs from) to w) n u) (get_or (insert (remove us from) to x) n r)) e
          (subst (λ v. IsWordOf covers v (get_or (insert (remove us from) to x) (k - 1 + 1) r)) (sym (turned_up vs from to (omega (arith, m.stood)) (omega (arith, m.goes)) w u (k - 1) (omega arith) less))
          (subst (IsWordOf covers (get_or vs (k - 1) u)) (sym (turned_up us from to (omega (arith, m.stood)) (omega (arith, m.goes)) x r (k - 1) (omega arith) less)) (words (k - 1) u r (omega arith))))
      word_at k u r (inr b) a (inl past) (inr more) lt =
          subst (λ v. IsWordOf covers v (get_or (insert (remove us from) to x) k r)) (sym (turned_behind vs from to (omega (arith, m.stood)) (omega (arith, m.goes)) w u k (omega arith) past))
          (subst (IsWordOf covers (get_or vs k u)) (sym (turned_behind us from to (omega (arith, m.stood)) (omega (arith, m.goes)) x r k (omega arith) past)) (words k u r (omega arith)))
      word_at k u r (inr b) a (inr same) other lt =
          let e : to ≡ k = omega arith in
          subst (λ n. IsWordOf covers (get_or (insert (remove vs from) to w) n u) (get_or (insert (remove us from) to x) n r)) e
          (subst (λ v. IsWordOf covers v (get_or (insert (remove us from) to x) to r)) (sym (turned_there vs from to (omega (arith, m.stood)) (omega (arith, m.goes)) w u))
          (subst (IsWordOf covers w) (sym (turned_there us from to (omega (arith, m.stood)) (omega (arith, m.goes)) x r)) word))

      pub words_moved : AreWords covers (insert (remove vs from) to w) (insert (remove us from) to x)
      words_moved = λ k u r lt.
          word_at k u r (cases_lt k to) (cases_lt k from) (cases_lt to k) (cases_lt (k - 1) from) (omega (arith, turned_many us from to (omega (arith, m.stood)) (omega (arith, m.goes)) x x, long))

      pub kept_moved : insert (remove us from) to x ≡ records_of new → IsKept covers new (insert (remove us from) to x) (insert (remove vs from) to w)
      kept_moved all = record {
        run = record { records = all; distinct = distinct_now };
        words = words_moved;
        many = turned_many vs from to (omega (arith, m.stood)) (omega (arith, m.goes)) w w ∙ as_many ∙ sym (turned_many us from to (omega (arith, m.stood)) (omega (arith, m.goes)) x x);
      }

pub below_next : (i : ℕ) → i < i + 1
below_next i = omega arith

pub below_more : (i j : ℕ) → i < j → i < j + 1
below_more i j lt = omega arith

pub next_within : (i n : ℕ) → i < n → i + 1 ≤ n
next_within i n lt = omega arith

pub down_place : (from to : ℕ) → from < to → from + (to + 1 - (from + 1)) ≡ to
down_place from to down = omega arith

pub up_place : (from to : ℕ) → to < from → to + 1 + (from - to) ≡ from + 1
up_place from to up = omega arith

pub same_place : (i j : ℕ) → j ≡ j + (i - i)
same_place i j = omega arith

-- of an edited notebook
pub moving : (s : Sheet) (from to : ℕ) (cs : List Cell) (rs : List Record) (given : World) → s.cells ≡ cs → IsRun (book_of s) rs → world_in s.given ≡ given → from < length s.cells → to < length s.cells
    → IsMoving (book_of s) (book_of (edited_sheet (Move from to) s)) from to cs rs given
moving s from to cs rs given cells run world lt less = record { cells = cells; run = run; stood = lt; goes = less; now = refl; before = world; world = world }

-- what a replay leaves, where the record still holds
pub replayed_there : (label : ℕ) (p : Parsed) (r : Record) (t : Session) (j : World) → IsOfRun label p r → StillHolds r t j
    → with_effects r.label r.effects t ≡ session_after (cell label p j t)
replayed_there label p r t j of h = ap (λ n. with_effects n r.effects t) (ap (λ (x : Record). x.label) of.3) ∙ (stands label p r t j of h).1

-- ---- a list whose value at a place was moved

pick : {X : Type 0} (xs : List X) (k : ℕ) → k < length xs → X
pick [] k lt = absurd (omega arith)
pick (x ∷ xs) zero lt = x
pick (x ∷ xs) (suc k) lt = pick xs k (omega arith)

pub turned_map : {X Y : Type 0} (f : X → Y) (xs ys : List X) (from to : ℕ) (d : Y) → from < length xs → ((x : X) → ys ≡ insert (remove xs from) to (get_or xs from x)) → map f ys ≡ insert (remove (map f xs) from) to (get_or (map f xs) from d)
turned_map {X} {Y} f xs ys from to d lt turns =
    let x : X = pick xs from lt in
    ap (map f) (turns x) ∙ map-insert f (remove xs from) to (get_or xs from x) ∙ ap₂ (λ (us : List Y) (y : Y). insert us to y) (map-remove f xs from) (sym (get_or-map f xs from x d lt))

-- all that is kept, with the cell in its new place
pub kept_turned : {W : Type 0} (covers : W → Key → Bool) (old new : Book) (from to : ℕ) (cs : List Cell) (rs : List Record) (given : World) → IsMoving old new from to cs rs given → (us : List Record) (es ds : Changes) → length us ≡ length old.cells
    → AreMoved old new from to es ds → ((k : ℕ) (r : Record) → k < length old.cells → ¬ (k ≡ from) → get_or us k r ≡ changed ds k (changed es k (record_at old.world (entry_at old k)))) → ((r : Record) → get_or us from r ≡ record_at new.world (entry_at new to))
    → (vs ws : List W) → length vs ≡ length us → AreWords covers vs us → ((w : W) → ws ≡ insert (remove vs from) to (get_or vs from w)) → (ts : List Record) → ts ≡ insert (remove us from) to (get_or us from (record_at old.world (entry_at old from))) → IsKept covers new ts ws
kept_turned {W} covers old new from to cs rs given m us es ds long moved put there vs ws as_many words turns ts turned_is =
    let d : Record = record_at old.world (entry_at old from) in
    let x : Record = get_or us from d in
    let w : W = pick vs from (omega (arith, m.stood, as_many, long)) in
    subst (λ ts. IsKept covers new ts ws) (sym turned_is) (subst (λ ws. IsKept covers new (insert (remove us from) to x) ws) (sym (turns w))
    (kept_moved old new from to cs rs given m us long x covers vs as_many words (get_or vs from w) (words from w d (omega (arith, m.stood, long)))
    (records_moved old new from to cs rs given m us long x es ds moved put (there d))))

pub turned_same : {X : Type 0} (xs : List X) (k : ℕ) (d : X) → k < length xs → xs ≡ insert (remove xs k) k (get_or xs k d)
turned_same [] k d lt = absurd (omega arith)
turned_same (x ∷ xs) zero d lt = refl
turned_same (x ∷ xs) (suc k) d lt = ap (λ ys. x ∷ ys) (turned_same xs k d (omega arith))

-- what was gathered, of a notebook of as many cells
pub gathered_of : {X Y W : Type 0} {covers : W → Key → Bool} {record_of : X → Record} {word_of : X → W} {change : Y → ℕ × Record} {fit : Y → ℕ × Record × W} {old new : Book} {from to n m : ℕ} {one : Option X} {between behind : List Y} → n ≡ m
    → AreGathered covers record_of word_of change fit old new from to n one between behind → AreGathered covers record_of word_of change fit old new from to m one between behind
gathered_of {covers = covers} {fit = fit} {between = between} {behind = behind} same h = record {
  moved = h.moved;
  made = h.made;
  stale = h.stale;
  worded = h.worded;
  fit_between = subst (λ n. AreFit covers n (map fit between)) same h.fit_between;
  fit_behind = subst (λ n. AreFit covers n (map fit behind)) same h.fit_behind;
}
