-- One cell of a sweep.
use Rattle.std.proofs.Common.{◌≡◌, ℕ, zero, suc, ◌+◌, ◌-◌, ◌^◌, ◌<◌, ◌≤◌, ◌⊎◌, min, IsTrue, Bool, true, false, List, [], ◌∷◌, ◌++◌, length, map, take, drop, get_or, Option, Some, None, IfSome, option_map, is_some, refl, sym, ap, ap₂, subst, ◌∙◌, inl, inr, arith, take-append-drop}
use Rattle.nd_model.specs.Cells.Session.{Session}
use Rattle.nd_model.specs.Cells.Running.{Key, World}
use Rattle.nd_model.specs.Grammar.Reading.{reading}
use Rattle.nd_model.specs.Cells.Footprint.{Agree, Found, HasNone, found, reads_of, with_effects}
use Rattle.nd_model.specs.Book.Records.{Record, record_of, StillHolds}
use Rattle.nd_model.specs.Book.Renaming.{AreDistinct}
use Rattle.nd_model.specs.Book.Book.{Book, Cell, no_cell, labels_of}
use Rattle.nd_model.specs.Book.Entries.{Entry, ended, entry_at, entries_of, record_at, records_of, session_before}
use Rattle.nd_model.specs.Book.Stale.{IsStale, AtLeast, entry_before, kept_of, counted, CountsStale}
use Rattle.nd_model.proofs.Entries.{fresh_at, take-entries_of, get_or-records_of, session_before-next, stale_now, at_least-append, at_least-push, holds_there, replays_there}
use Rattle.nd_model.proofs.EditKept.{kept_all}
use Rattle.nd_model.proofs.Lazy.{length-entries}
use Rattle.nd_model.proofs.Passing.{stands}
use Rattle.nd_change.specs.Change.{Change, IsOver, IsRunOver, Fits, did_by, puts, IsDisjoint}
use Rattle.nd_model.specs.Book.Sessions.{IsOnce}
use Rattle.nd_model.proofs.Sessions.{names_stand_once, once_replayed}
use Rattle.nd_change.specs.Snapshots.{IsAlike}
use Rattle.nd_change.proofs.Snapshots.{alike_replays, over_alike}
use Rattle.nd_change.proofs.Changes.{fits_holds, holds_over, run_over, passes}
use Rattle.nd_change.specs.Steps.{IsWordOf, IsWordOfChange, Keeps, Follows}
use Rattle.nd_schedule.specs.Schedule.Sweep.{IsBeside, IsPlace, IsAtHand, IsAt, CountsFront, Changes, changed, places_in, AreChanged}
use Rattle.nd_schedule.specs.Schedule.Ran.{AreBetween}
use Rattle.std.specs.Prelude.{Contains}
use Rattle.std.proofs.lemmas.List.Elements.{Contains-append_cases, Contains-append_left, Contains-append_right}
use Rattle.nd_schedule.proofs.schedule.Places
use Rattle.nd_schedule.proofs.schedule.Places.{between_wide, between_append, is_one, first_of}

counted-suc : (runs meter : ℕ) → counted (suc runs) meter ≡ min (counted runs meter + 1) (2 ^ 64 - 1)
counted-suc zero meter = refl
counted-suc (suc runs) meter = omega arith

some_is : {X : Type 0} (x y : X) → Some x ≡ Some y → x ≡ y
some_is x y e = ap (unwrap_or' x) e
  where
    unwrap_or' : {X : Type 0} → X → Option X → X
    unwrap_or' d None = d
    unwrap_or' d (Some y) = y

some_found : (f g : Found) → Some f ≡ Some g → f ≡ g
some_found f g e = some_is f g e

-- what a run found at a key that it read
read_there : (i : World) (was : Entry) (key : Key) → IsTrue (reads_of (ended i was) key) → (record_at i was).values key ≡ Some (found was.session i key)
read_there i was key read = rw read refl

module _ (old new : Book) where
  pub none_yet : (k meter : ℕ) → CountsFront old new k meter meter
  none_yet k meter = (0, tt, refl)

  pub counts_stale : (k before after : ℕ) → CountsFront old new k before after → CountsStale old new before after
  counts_stale k before after h =
      (h.0, subst (AtLeast h.0 (IsStale old new)) (take-append-drop k (entries_of new)) (at_least-append h.0 (IsStale old new) (take k (entries_of new)) (drop k (entries_of new)) h.1), h.2)

  pub counts_same : (k before after : ℕ) → k < length new.cells → CountsFront old new k before after → CountsFront old new (k + 1) before after
  counts_same k before after lt h =
      (h.0, subst (AtLeast h.0 (IsStale old new)) (sym (take-entries_of new k lt)) (at_least-append h.0 (IsStale old new) (take k (entries_of new)) (entry_at new k ∷ []) h.1), h.2)

  -- a cell of which no record holds is stale
  pub stale_there : (k : ℕ) → k < length new.cells → AreDistinct (labels_of old.cells) → AreDistinct (labels_of new.cells) → IfSome (kept_of old (entry_at new k).cell) (λ r. ¬ StillHolds r (session_before new k) new.world) → IsStale old new (entry_at new k)
  stale_there k lt d e fails = stale_now old new d (entry_at new k).cell (session_before new k) (fresh_at new k lt e) fails

  -- a cell of which a record holds is not
  pub fresh_there : (k : ℕ) (r : Record) → kept_of old (entry_at new k).cell ≡ Some r → StillHolds r (session_before new k) new.world → ¬ IsStale old new (entry_at new k)
  fresh_there k r kept holds stale = either (entry_before old (entry_at new k).cell) kept stale
    where
      either : (o : Option Entry) → option_map (record_at old.world) o ≡ Some r → IfSome o (λ was. ¬ Agree (reads_of (ended old.world was)) was.session old.world (session_before new k) new.world) → ⊥
      either None e h = absurd (cc)
      either (Some was) e h = let is : record_at old.world was ≡ r = some_is (record_at old.world was) r e in
          h (λ key read. some_found _ _ (sym (read_there old.world was key read) ∙ ap (λ (x : Record). x.values key) is ∙ holds.same key (subst (λ (x : Record). IsTrue (x.read key)) is read)))

  -- one cell more was run, which is stale
  pub counts_more : (k before mid after : ℕ) → k < length new.cells → IsStale old new (entry_at new k) → CountsFront old new k before mid → after ≡ min (mid + 1) (2 ^ 64 - 1) → CountsFront old new (k + 1) before after
  counts_more k before mid after lt stale h more = (
    suc h.0,
    subst (AtLeast (suc h.0) (IsStale old new)) (sym (take-entries_of new k lt)) (at_least-push h.0 (IsStale old new) (take k (entries_of new)) (entry_at new k) h.1 stale),
    more ∙ ap (λ m. min (m + 1) (2 ^ 64 - 1)) h.2 ∙ sym (counted-suc h.0 before),
  )

  -- for want of a record that holds
  pub counts_run : (k before mid after : ℕ) → k < length new.cells → AreDistinct (labels_of old.cells) → AreDistinct (labels_of new.cells)
      → IfSome (kept_of old (entry_at new k).cell) (λ r. ¬ StillHolds r (session_before new k) new.world) → CountsFront old new k before mid → after ≡ min (mid + 1) (2 ^ 64 - 1) → CountsFront old new (k + 1) before after
  counts_run k before mid after lt d e fails h more = counts_more k before mid after lt (stale_there k lt d e fails) h more

-- the record of a cell is that of a run over the session before it
pub runs_over : (b : Book) (k : ℕ) → k < length b.cells → AreDistinct (labels_of b.cells) → IsRunOver (record_at b.world (entry_at b k)) (session_before b k) b.world
runs_over b k lt d = record { parsed = reading (entry_at b k).cell.source; none = fresh_at b k lt d; run = refl }

-- and leaves the next one
pub leaves_next : (b : Book) (k : ℕ) → k < length b.cells → AreDistinct (labels_of b.cells) → did_by (Some (record_at b.world (entry_at b k))) (session_before b k) ≡ session_before b (k + 1)
leaves_next b k lt d = replays_there b.world (entry_at b k) (fresh_at b k lt d) ∙ sym (session_before-next b k lt)

pub alike_self : (s t : Session) → s ≡ t → IsAlike s t
alike_self s t e = record { names = λ n. ap (λ s. Rattle.nd_model.specs.Cells.Session.lookup n s.names) e; held = λ b. ap (λ s. Rattle.nd_model.specs.Cells.Session.is_held b s.names) e; bytes = λ b. ap (λ s. Rattle.nd_model.specs.Cells.Session.held_bytes s b) e }

pub alike_turned : (s t : Session) → IsAlike s t → IsAlike t s
alike_turned s t a = record { names = λ n. sym (a.names n); held = λ b. sym (a.held b); bytes = λ b. sym (a.bytes b) }

-- from a session that is alike to the one before a cell, what the cell's run does leads to one alike to the next
pub next_alike : (b : Book) (k : ℕ) → k < length b.cells → AreDistinct (labels_of b.cells) → (h : Session) → IsAlike h (session_before b k) → IsOnce h.names
    → StillHolds (record_at b.world (entry_at b k)) h b.world × IsAlike (did_by (Some (record_at b.world (entry_at b k))) h) (session_before b (k + 1)) × IsOnce (did_by (Some (record_at b.world (entry_at b k))) h).names
next_alike b k lt d h alike once =
    let q : Record = record_at b.world (entry_at b k) in
    let both : StillHolds q h b.world × IsAlike (did_by (Some q) h) (did_by (Some q) (session_before b k)) =
    alike_replays q h (session_before b k) b.world alike once (names_stand_once b k d (omega arith)) (holds_there b.world (entry_at b k) (fresh_at b k lt d)) in
    (both.0, subst (IsAlike (did_by (Some q) h)) (leaves_next b k lt d) both.1, once_replayed q.effects.events h.names once)

-- what is kept of a cell that was there before
pub kept_there : (b : Book) (k : ℕ) → k < length b.cells → AreDistinct (labels_of b.cells) → kept_of b (entry_at b k).cell ≡ Some (record_at b.world (entry_at b k))
kept_there b k lt d =
    sym (get_or-map' (kept_of b) b.cells k no_cell None lt) ∙ ap (λ os. get_or os k None) (kept_all b d) ∙ get_or-map' (λ r. Some r) (records_of b) k (record_at b.world (entry_at b k)) None (omega (arith, length-records))
    ∙ ap (λ r. Some r) (get_or-records_of b k (record_at b.world (entry_at b k)) lt)
  where
    get_or-map' : {X Y : Type 0} (f : X → Y) (xs : List X) (k : ℕ) (x : X) (y : Y) → k < length xs → get_or (map f xs) k y ≡ f (get_or xs k x)
    get_or-map' f xs k x y lt = Rattle.std.proofs.lemmas.List.get_or-map f xs k x y lt

    length-records : length (records_of b) ≡ length b.cells
    length-records = Rattle.std.proofs.lemmas.List.length-map (entries_of b) (record_at b.world) ∙ length-entries b.cells b.world Rattle.nd_model.specs.Cells.Session.no_session

-- behind a cell that is run where another run stood
pub past_swap : (old new : Book) (i j : ℕ) (lt : i < length old.cells) (d : AreDistinct (labels_of old.cells)) (less : j < length new.cells) (d' : AreDistinct (labels_of new.cells)) (c : Change) → IsOver c (session_before old i) old.world (session_before new j) new.world
    → (e : Change) (h after : Session) → IsAlike h (session_before new j) → IsOnce h.names → after ≡ did_by (Some (record_at new.world (entry_at new j))) h → Follows c e (record_at old.world (entry_at old i)) (record_at new.world (entry_at new j)) after new.world
    → IsAt old new (i + 1) (j + 1) e after (i + 1)
past_swap old new i j lt d less d' c over e h after alike once then follows =
    let q : Record = record_at new.world (entry_at new j) in
    let next : StillHolds q h new.world × IsAlike (did_by (Some q) h) (session_before new (j + 1)) × IsOnce (did_by (Some q) h).names = next_alike new j less d' h alike once in
    let then_alike : IsAlike after (session_before new (j + 1)) = subst (λ u. IsAlike u (session_before new (j + 1))) (sym then) next.1 in
    let here : IsOver c (session_before old i) old.world h new.world = over_alike c (session_before old i) (session_before new j) (session_before old i) h old.world new.world over (alike_self (session_before old i) (session_before old i) refl) alike in
    let behind : IsOver e (session_before old (i + 1)) old.world after new.world = subst (λ s. IsOver e s old.world after new.world) (leaves_next old i lt d)
    (follows (session_before old i) h old.world here (runs_over old i lt d) (run_over q (session_before new j) h new.world new.world (runs_over new j less d') next.0) then) in
    record {
      over = over_alike e (session_before old (i + 1)) after (session_before old (i + 1)) (session_before new (j + 1)) old.world new.world behind (alike_self (session_before old (i + 1)) (session_before old (i + 1)) refl) (alike_turned after (session_before new (j + 1)) then_alike);
      hand = record {
        behind = omega arith;
        enough = omega arith;
        session = subst (λ n. IsAlike after (session_before new n)) (stays j i) then_alike;
        once = subst (λ u. IsOnce u.names) (sym then) next.2;
        kept = λ n lt. absurd (omega arith);
      };
    }
  where
    stays : (j i : ℕ) → j + 1 ≡ j + 1 - (i + 1 - (i + 1))
    stays j i = omega arith

module _ (old new : Book) (i j : ℕ) (lt : i < length old.cells) (d : AreDistinct (labels_of old.cells)) (beside : IsBeside old new i j (i + 1)) where
  abbrev pub r : Record
  r = record_at old.world (entry_at old i)

  abbrev pub s : Session
  s = session_before old i

  abbrev pub t : Session
  t = session_before new j

  one : (n : ℕ) → n + 0 ≡ n
  one n = omega arith

  pub cell_is : (entry_at old i).cell ≡ (entry_at new j).cell
  cell_is = ap (λ n. get_or old.cells n no_cell) (sym (one i)) ∙ beside.same 0 (omega arith) ∙ ap (λ n. get_or new.cells n no_cell) (one j)

  pub lt_new : j < length new.cells
  lt_new = omega (arith, beside.fits)

  pub none_new : HasNone r.label t
  none_new = subst (λ (c : Cell). HasNone c.label t) (sym cell_is) (fresh_at new j lt_new beside.distinct)

  -- a record that holds is that of the cell now
  pub same_record : StillHolds r t new.world → r ≡ record_at new.world (entry_at new j)
  same_record h =
      (stands (entry_at old i).cell.label (reading (entry_at old i).cell.source) r t new.world (old.world, s, fresh_at old i lt d, refl) h).0
      ∙ ap (λ (c : Cell). record_of c.label (reading c.source) new.world t) cell_is

  after_kept : StillHolds r t new.world → did_by (Some r) t ≡ session_before new (j + 1)
  after_kept h = ap (λ q. did_by (Some q) t) (same_record h) ∙ leaves_next new j lt_new beside.distinct

  -- where it does not, the cell is stale
  pub fails_now : ¬ StillHolds r t new.world → IfSome (kept_of old (entry_at new j).cell) (λ r. ¬ StillHolds r t new.world)
  fails_now h = subst (λ o. IfSome o (λ r. ¬ StillHolds r t new.world)) (sym (ap (kept_of old) (sym cell_is) ∙ kept_there old i lt d)) h

  pub fresh_now : StillHolds r t new.world → ¬ IsStale old new (entry_at new j)
  fresh_now h = fresh_there old new j r (ap (kept_of old) (sym cell_is) ∙ kept_there old i lt d) h

  module _ (c : Change) (at_hand : Session) (since : ℕ) (at : IsAt old new i j c at_hand since) where
    pub fits_now : Fits c r → StillHolds r t new.world
    fits_now fits = fits_holds c r s t old.world new.world at.over (runs_over old i lt d) none_new fits

    pub not_fits : ¬ Fits c r → ¬ StillHolds r t new.world
    not_fits out h = out ((holds_over c r s t old.world new.world at.over (runs_over old i lt d) none_new).0 h)

    -- past a cell whose record holds
    goes_past : (e : Change) → StillHolds r t new.world → IsOver e (did_by (Some r) s) old.world (did_by (Some r) t) new.world → IsAt old new (i + 1) (j + 1) e at_hand since
    goes_past e h over = record {
      over = let f : did_by (Some r) s ≡ session_before old (i + 1) = leaves_next old i lt d in
          subst (λ t. IsOver e (session_before old (i + 1)) old.world t new.world) (after_kept h) (subst (λ s. IsOver e s old.world (did_by (Some r) t) new.world) f over);
      hand = record {
        behind = omega (arith, at.hand.behind);
        enough = omega (arith, at.hand.behind, at.hand.enough);
        session = subst (λ n. IsAlike at_hand (session_before new n)) gap at.hand.session;
        once = at.hand.once;
        kept = λ n less. more n (Rattle.std.proofs.lemmas.Bool.cases_lt (since + n) i) less;
      };
    }
      where
        gap : j - (i - since) ≡ j + 1 - (i + 1 - since)
        gap = omega (arith, at.hand.behind, at.hand.enough)

        more : (n : ℕ) → (since + n < i) ⊎ (i ≤ since + n) → since + n < i + 1 → record_at old.world (entry_at old (since + n)) ≡ record_at new.world (entry_at new (j + 1 - (i + 1 - since) + n))
        more n (inl before) less = at.hand.kept n before ∙ ap (λ m. record_at new.world (entry_at new (m + n))) gap
        more n (inr past) less =
            let here : since + n ≡ i = omega arith in
            let now : j ≡ j + 1 - (i + 1 - since) + n = omega (arith, at.hand.behind, at.hand.enough) in
            ap (λ m. record_at old.world (entry_at old m)) here ∙ same_record h ∙ ap (λ m. record_at new.world (entry_at new m)) now

    pub past_kept : (e : Change) → Keeps c e r → StillHolds r t new.world → IsAt old new (i + 1) (j + 1) e at_hand since
    past_kept e keeps h = goes_past e h (keeps s t old.world new.world at.over (runs_over old i lt d) (run_over r s t old.world new.world (runs_over old i lt d) h))

    pub past_apart : IsDisjoint c r → IsAt old new (i + 1) (j + 1) c at_hand since
    past_apart apart = let both : StillHolds r t new.world × IsOver c (did_by (Some r) s) old.world (did_by (Some r) t) new.world = passes c r s t old.world new.world at.over (runs_over old i lt d) none_new apart in
        goes_past c both.0 both.1

    pub holds_apart : IsDisjoint c r → StillHolds r t new.world
    holds_apart apart = (passes c r s t old.world new.world at.over (runs_over old i lt d) none_new apart).0

    -- behind a cell that is run
    pub past_run : (e : Change) (h after : Session) → IsAlike h t → IsOnce h.names → after ≡ did_by (Some (record_at new.world (entry_at new j))) h → Follows c e r (record_at new.world (entry_at new j)) after new.world → IsAt old new (i + 1) (j + 1) e after (i + 1)
    past_run e h after alike once then follows = past_swap old new i j lt d lt_new beside.distinct c at.over e h after alike once then follows

-- words that are apart
pub words_apart : {W : Type 0} (covers : W → Key → Bool) (w v : W) (c : Change) (r : Record) → IsWordOf covers w r → IsWordOfChange covers v c → ((k : Key) → IsTrue (covers w k) → ¬ IsTrue (covers v k)) → IsDisjoint c r
words_apart covers w v c r word over apart = record {
  reads = λ k read. none (c k) (λ some. apart k (word.reads k read) (over k some));
  does = λ k. either (puts r k) (c k) (λ does some. apart k (word.does k does) (over k some));
}
  where
    none : (o : Option Found) → ¬ (is_some o ≡ true) → o ≡ None
    none None h = refl
    none (Some f) h = absurd (h refl)

    either : (o p : Option Found) → (is_some o ≡ true → ¬ (is_some p ≡ true)) → (o ≡ None) ⊎ (p ≡ None)
    either None p h = inl refl
    either (Some f) p h = inr (none p (h refl))

-- ---- the session at hand, one cell further on

module _ (old new : Book) (i j : ℕ) (at_hand : Session) (since : ℕ) (hand : IsAtHand old new i j at_hand since) (less : since < i) (place : IsPlace old new i j) where
  abbrev pub k : ℕ
  k = j - (i - since)

  is_there : record_at old.world (entry_at old since) ≡ record_at new.world (entry_at new k)
  is_there = let e : since + 0 ≡ since = omega arith in let f : k + 0 ≡ k = omega arith in
      ap (λ n. record_at old.world (entry_at old n)) (sym e) ∙ hand.kept 0 (omega arith) ∙ ap (λ n. record_at new.world (entry_at new n)) f

  below : k < length new.cells
  below = omega (arith, hand.enough, hand.behind, place.now)

  next : StillHolds (record_at new.world (entry_at new k)) at_hand new.world × IsAlike (did_by (Some (record_at new.world (entry_at new k))) at_hand) (session_before new (k + 1)) × IsOnce (did_by (Some (record_at new.world (entry_at new k))) at_hand).names
  next = next_alike new k below place.distinct at_hand hand.session hand.once

  pub holds_at_hand : (x : Record) (h : Session) → x ≡ record_at old.world (entry_at old since) → h ≡ at_hand → StillHolds x h new.world
  holds_at_hand x h is same =
      subst (λ x. StillHolds x h new.world) (sym (is ∙ is_there))
      (subst (λ h. StillHolds (record_at new.world (entry_at new k)) h new.world) (sym same) next.0)

  pub further_on : (x : Record) (h : Session) → x ≡ record_at old.world (entry_at old since) → h ≡ with_effects x.label x.effects at_hand → IsAtHand old new i j h (since + 1)
  further_on x h is after = record {
    behind = omega (arith, hand.behind);
    enough = omega (arith, hand.behind, hand.enough);
    session = subst (λ n. IsAlike h (session_before new n)) one_on (subst (λ u. IsAlike u (session_before new (k + 1))) (sym done) next.1);
    once = subst (λ u. IsOnce u.names) (sym done) next.2;
    kept = λ n lt. let e : since + 1 + n ≡ since + (n + 1) = omega arith in let f : k + (n + 1) ≡ j - (i - (since + 1)) + n = omega (arith, one_on) in
        ap (λ m. record_at old.world (entry_at old m)) e ∙ hand.kept (n + 1) (omega arith) ∙ ap (λ m. record_at new.world (entry_at new m)) f;
  }
    where
      one_on : k + 1 ≡ j - (i - (since + 1))
      one_on = omega (arith, hand.behind, hand.enough)

      done : h ≡ did_by (Some (record_at new.world (entry_at new k))) at_hand
      done = after ∙ ap (λ x. did_by (Some x) at_hand) (is ∙ is_there)

-- ---- what is changed of the records

changed_push : (cs : Changes) (c : ℕ × Record) (k : ℕ) (x : Record) → changed (cs ++ c ∷ []) k x ≡ Rattle.std.proofs.Common.cond (Rattle.std.proofs.Common.eqb k c.0) c.1 (changed cs k x)
changed_push [] c k x = refl
changed_push (b ∷ cs) c k x = changed_push cs c k (Rattle.std.proofs.Common.cond (Rattle.std.proofs.Common.eqb k b.0) b.1 x)

places_push : (cs : Changes) (c : ℕ × Record) → places_in (cs ++ c ∷ []) ≡ places_in cs ++ c.0 ∷ []
places_push cs c = Rattle.std.proofs.lemmas.List.map-append (λ (c : ℕ × Record). c.0) cs (c ∷ [])

module _ (old new : Book) (i j to : ℕ) (cs : Changes) (all : AreChanged old new i j to cs) (within : i ≤ to) where
  -- one cell more that is as it was
  pub changed_same : record_at old.world (entry_at old to) ≡ record_at new.world (entry_at new (j + (to - i))) → ¬ IsStale old new (entry_at new (j + (to - i))) → AreChanged old new i j (to + 1) cs
  changed_same same fresh = record {
    now = λ n less. more n (Rattle.std.proofs.lemmas.Bool.cases_lt (i + n) to) less;
    before = all.before;
    past = λ k x le. all.past k x (omega arith);
    rising = between_wide i to (to + 1) (places_in cs) (omega arith) all.rising;
    stale = λ n less. told n (Rattle.std.proofs.lemmas.Bool.cases_lt (i + n) to) less;
  }
    where
      told : (n : ℕ) → (i + n < to) ⊎ (to ≤ i + n) → i + n < to + 1 → (Contains (places_in cs) (i + n) → IsStale old new (entry_at new (j + n))) × (IsStale old new (entry_at new (j + n)) → Contains (places_in cs) (i + n))
      told n (inl before) less = all.stale n before
      told n (inr past) less = let there : j + (to - i) ≡ j + n = omega arith in (
        λ c. let inside : (i ≤ i + n) × (i + n < to) = Places.within i to (places_in cs) (i + n) all.rising c in absurd (omega (arith, inside.1)),
        λ stale. absurd (fresh (subst (λ k. IsStale old new (entry_at new k)) (sym there) stale)),
      )

      more : (n : ℕ) → (i + n < to) ⊎ (to ≤ i + n) → i + n < to + 1 → changed cs (i + n) (record_at old.world (entry_at old (i + n))) ≡ record_at new.world (entry_at new (j + n))
      more n (inl before) less = all.now n before
      more n (inr past) less =
          let here : to ≡ i + n = omega arith in let there : j + (to - i) ≡ j + n = omega arith in
          all.past (i + n) (record_at old.world (entry_at old (i + n))) past ∙ ap (λ k. record_at old.world (entry_at old k)) (sym here) ∙ same ∙ ap (λ k. record_at new.world (entry_at new k)) there

  -- one that is another
  pub changed_more : (ds : Changes) (x : Record) → ds ≡ cs ++ (to, x) ∷ [] → x ≡ record_at new.world (entry_at new (j + (to - i))) → IsStale old new (entry_at new (j + (to - i))) → AreChanged old new i j (to + 1) ds
  changed_more ds x grown is stale = subst (AreChanged old new i j (to + 1)) (sym grown) (record {
    now = λ n less. more n (Rattle.std.proofs.lemmas.Bool.cases_lt (i + n) to) less;
    before = λ k x' less. changed_push cs (to, x) k x' ∙ ap (λ t. Rattle.std.proofs.Common.cond t x (changed cs k x')) (Rattle.std.proofs.Common.ne_eqb k to (λ e. absurd (omega arith))) ∙ all.before k x' less;
    past = λ k x' le. changed_push cs (to, x) k x' ∙ ap (λ t. Rattle.std.proofs.Common.cond t x (changed cs k x')) (Rattle.std.proofs.Common.ne_eqb k to (λ e. absurd (omega arith))) ∙ all.past k x' (omega arith);
    rising = subst (AreBetween i (to + 1)) (sym (places_push cs (to, x))) (between_append i to (to + 1) (places_in cs) (to ∷ []) within (omega arith) all.rising (omega arith, omega arith, tt));
    stale = λ n less. told n (Rattle.std.proofs.lemmas.Bool.cases_lt (i + n) to) less;
  })
    where
      told : (n : ℕ) → (i + n < to) ⊎ (to ≤ i + n) → i + n < to + 1 → (Contains (places_in (cs ++ (to, x) ∷ [])) (i + n) → IsStale old new (entry_at new (j + n))) × (IsStale old new (entry_at new (j + n)) → Contains (places_in (cs ++ (to, x) ∷ [])) (i + n))
      told n (inl before) less = (
        λ c. elim (Contains-append_cases (places_in cs) (to ∷ []) (i + n) (subst (λ ps. Contains ps (i + n)) (places_push cs (to, x)) c)) [
          | inl front ↦ (all.stale n before).0 front
          | inr last ↦ absurd (let is : i + n ≡ to = is_one to (i + n) last in omega arith)
        ],
        λ is. subst (λ ps. Contains ps (i + n)) (sym (places_push cs (to, x))) (Contains-append_left (places_in cs) (to ∷ []) (i + n) ((all.stale n before).1 is)),
      )
      told n (inr past) less = let there : j + (to - i) ≡ j + n = omega arith in let here : to ≡ i + n = omega arith in (
        λ c. subst (λ k. IsStale old new (entry_at new k)) there stale,
        λ is. subst (λ ps. Contains ps (i + n)) (sym (places_push cs (to, x))) (Contains-append_right (places_in cs) (to ∷ []) (i + n) (subst (Contains (to ∷ [])) here (first_of to []))),
      )

      more : (n : ℕ) → (i + n < to) ⊎ (to ≤ i + n) → i + n < to + 1 → changed (cs ++ (to, x) ∷ []) (i + n) (record_at old.world (entry_at old (i + n))) ≡ record_at new.world (entry_at new (j + n))
      more n (inl before) less =
          changed_push cs (to, x) (i + n) (record_at old.world (entry_at old (i + n)))
          ∙ ap (λ t. Rattle.std.proofs.Common.cond t x (changed cs (i + n) (record_at old.world (entry_at old (i + n))))) (Rattle.std.proofs.Common.ne_eqb (i + n) to (λ e. absurd (omega arith))) ∙ all.now n before
      more n (inr past) less =
          let here : i + n ≡ to = omega arith in let there : j + (to - i) ≡ j + n = omega arith in
          changed_push cs (to, x) (i + n) (record_at old.world (entry_at old (i + n)))
          ∙ ap (λ t. Rattle.std.proofs.Common.cond t x (changed cs (i + n) (record_at old.world (entry_at old (i + n))))) (Rattle.std.proofs.Common.eq-eqb (i + n) to here) ∙ is ∙ ap (λ k. record_at new.world (entry_at new k)) there

-- the record that is kept of a cell
pub record_there : {X : Type 0} (view : X → Record) (b : Book) (xs : List X) (x : X) (k : ℕ) → map view xs ≡ records_of b → k < length b.cells → x ≡ get_or xs k x
    → view x ≡ record_at b.world (entry_at b k)
record_there view b xs x k all lt is =
    let many : length xs ≡ length b.cells = sym (Rattle.std.proofs.lemmas.List.length-map xs view) ∙ ap length all ∙ Rattle.std.proofs.lemmas.List.length-map (entries_of b) (record_at b.world) ∙ length-entries b.cells b.world Rattle.nd_model.specs.Cells.Session.no_session in
    ap view is ∙ sym (Rattle.std.proofs.lemmas.List.get_or-map view xs k x (view x) (omega arith)) ∙ ap (λ rs. get_or rs k (view x)) all ∙ get_or-records_of b k (view x) lt

-- nothing is changed yet
pub changed_none : (old new : Book) (i j : ℕ) → AreChanged old new i j i []
changed_none old new i j = record { now = λ n less. absurd (omega arith); before = λ k x less. refl; past = λ k x le. refl; rising = tt; stale = λ n less. absurd (omega arith) }
