-- The cells of another notebook, one after the other.
use Rattle.std.proofs.Common.{◌≡◌, ℕ, ◌+◌, ◌-◌, ◌^◌, ◌<◌, ◌≤◌, min, false, true, List, length, get_or, Option, Some, None, IfSome, OnOk, Result, Ok, Err, refl, sym, ap, subst, ◌∙◌, arith}
use Rattle.std.specs.Prelude.{MatchOption, bytes_eq}
use Rattle.nd_model.specs.Cells.Session.{Session}
use Rattle.nd_model.specs.Cells.Running.{World}
use Rattle.nd_model.specs.Grammar.Reading.{reading}
use Rattle.nd_model.specs.Cells.Cell.{cell, session_after}
use Rattle.nd_model.specs.Cells.Footprint.{HasNone}
use Rattle.nd_model.specs.Book.Records.{Record, record_of, StillHolds}
use Rattle.nd_model.specs.Book.Sessions.{IsOnce}
use Rattle.nd_model.specs.Book.Book.{Book, Cell, no_cell, is_label}
use Rattle.nd_model.specs.Book.Entries.{entry_at, record_at, session_before}
use Rattle.nd_model.specs.Book.Stale.{IsStale, kept_of}
use Rattle.nd_model.proofs.EditKept.{kept_changed, kept_new}
use Rattle.nd_model.proofs.Entries.{fresh_at}
use Rattle.nd_model.proofs.Lists.{same_bytes}
use Rattle.nd_model.proofs.Sessions.{names_stand_once}
use Rattle.nd_model.proofs.Tracks.{effects_are_all}
use Rattle.nd_change.specs.Change.{Change, IsOver, did_by}
use Rattle.nd_change.specs.Snapshots.{IsAlike}
use Rattle.nd_change.specs.Steps.{Comes, Follows}
use Rattle.nd_change.proofs.Changes.{run_over}
use Rattle.nd_change.proofs.Snapshots.{alike_runs, over_alike}
use Rattle.nd_schedule.specs.Schedule.Merge.{IsNext, IsPlaced, IsUnknown, Stood}
use Rattle.nd_schedule.specs.Schedule.Sweep.{CountsFront, IsAt, IsAtHand, IsComing, IsFrame, IsPlace}
use Rattle.nd_schedule.proofs.schedule.Sweeping.{alike_self, alike_turned, counts_more, next_alike, past_swap, runs_over, stale_there}
use Rattle.nd_schedule.proofs.schedule.Turning.{at_hand}

-- what holds anyway, of a result that is one
pub on_any : {X E P : Type 0} (res : Result X E) → P → OnOk res P
on_any (Ok x) p = p
on_any (Err e) p = tt

-- a later place before, and the same now
pub place_on : (old new : Book) (i j k : ℕ) → IsPlace old new i j → k ≤ length old.cells → IsPlace old new k j
place_on old new i j k place le = record { before = le; now = place.now; distinct = place.distinct }

-- a cell under another label, or of another text
pub unknown_new : (cs : List Cell) (c : Cell) → is_label c.label cs ≡ false → IsUnknown cs c
unknown_new cs c none b cells d = kept_new b c (ap (is_label c.label) cells ∙ none)

pub unknown_other : (cs : List Cell) (c : Cell) (k : ℕ) → k < length cs → (get_or cs k no_cell).label ≡ c.label → bytes_eq c.source (get_or cs k no_cell).source ≡ false → IsUnknown cs c
unknown_other cs c k lt label other b cells d =
    let named : (get_or b.cells k no_cell).label ≡ c.label = ap (λ cs. (get_or cs k no_cell).label) cells ∙ label in
    let is : ◌≡◌ {A = Cell} c (record { label = (get_or b.cells k no_cell).label; source = c.source }) = λ i. record { label = sym named i; source = c.source } in
    ap (kept_of b) is ∙ kept_changed b k c.source d (omega (arith, lt, ap length cells)) (ap (λ cs. bytes_eq c.source (get_or cs k no_cell).source) cells ∙ other)

pub stood : (cs : List Cell) (c : Cell) (k : ℕ) → k < length cs → (get_or cs k no_cell).label ≡ c.label → bytes_eq c.source (get_or cs k no_cell).source ≡ true → Stood cs k c
stood cs c k lt label same = record {
  within = lt;
  same = let text : (get_or cs k no_cell).source ≡ c.source = sym (same_bytes c.source (get_or cs k no_cell).source same) in λ i. record { label = label i; source = text i };
}

-- the record of the run before is kept
pub settled : {X : Type 0} (view : X → Record) (old new : Book) (k j : ℕ) (r : Record) (o : Option X) → o ≡ None → r ≡ record_at old.world (entry_at old k) → MatchOption o (record_at old.world (entry_at old k) ≡ record_at new.world (entry_at new j)) (λ n. view n ≡ record_at new.world (entry_at new j))
    → MatchOption o (¬ IsStale old new (entry_at new j)) (λ _. IsStale old new (entry_at new j)) → IsPlaced old new j r false
settled view old new k j r None none is made stale = record { made = is ∙ made; stale = (λ f. absurd (cc), λ s. absurd (stale s)) }
settled view old new k j r (Some x) none is made stale = absurd (cc)

module _ (old new : Book) (i j : ℕ) (rs : List Record) (c : Cell) (given : World) (next : IsNext old new i j rs c given) where
  abbrev pub t : Session
  t = session_before new j

  abbrev pub q : Record
  q = record_at new.world (entry_at new j)

  pub next_counts : (before mid after : ℕ) → IsStale old new (entry_at new j) → CountsFront old new j before mid → after ≡ min (mid + 1) (2 ^ 64 - 1) → CountsFront old new (j + 1) before after
  next_counts before mid after stale h more = counts_more old new j before mid after next.there stale h more

  -- in front of a later cell of those before
  pub next_on : (k : ℕ) → k ≤ length old.cells → IsNext old new k j rs c given
  next_on k le = record { run = next.run; place = place_on old new i j k next.place le; there = next.there; cell = next.cell; world = next.world }

  -- it stood elsewhere before
  pub next_coming : (cs : List Cell) (k : ℕ) (r : Record) → old.cells ≡ cs → Stood cs k c → r ≡ record_at old.world (entry_at old k) → IsComing old new k i j rs c r given
  next_coming cs k r cells there made = record {
    run = next.run;
    place = next.place;
    stood = omega (arith, there.within, ap length cells);
    was = ap (λ cs. get_or cs k no_cell) cells ∙ there.same;
    made = made;
    there = next.there;
    cell = next.cell;
    world = next.world;
  }

  -- the cell before, where it is the same
  pub next_frame : i < length old.cells → (entry_at old i).cell ≡ c → IsFrame old new i j (i + 1) old.cells rs given
  next_frame lt same = record {
    cells = refl;
    run = next.run;
    order = omega arith;
    beside = record {
      within = omega (arith, lt);
      fits = omega (arith, next.there);
      same = λ n less. let e : i + n ≡ i = omega arith in let f : j ≡ j + n = omega arith in
          ap (λ m. get_or old.cells m no_cell) e ∙ same ∙ sym next.cell ∙ ap (λ m. get_or new.cells m no_cell) f;
      distinct = next.place.distinct;
    };
    world = next.world;
  }

  -- a cell of which no record of the run before is kept
  pub stale_unknown : (cs : List Cell) → old.cells ≡ cs → IsUnknown cs c → IsStale old new (entry_at new j)
  stale_unknown cs cells unknown =
      stale_there old new j next.there next.run.distinct next.place.distinct
      (subst (λ o. IfSome o (λ r. ¬ StillHolds r t new.world)) (sym (ap (kept_of old) next.cell ∙ unknown old cells next.run.distinct)) tt)

  -- over a session that is alike to the one there
  module _ (h : Session) (hand : IsAtHand old new i j h i) where
    here : IsAlike h t
    here = at_hand new i j h hand.session

    none_now : HasNone c.label t
    none_now = subst (λ (c : Cell). HasNone c.label t) next.cell (fresh_at new j next.there next.place.distinct)

    same_run : HasNone c.label h × (record_of c.label (reading c.source) new.world h ≡ record_of c.label (reading c.source) new.world t) × IsAlike (session_after (cell c.label (reading c.source) new.world h)) (session_after (cell c.label (reading c.source) new.world t))
    same_run = alike_runs c.label (reading c.source) h t new.world here hand.once (names_stand_once new j next.place.distinct (omega (arith, next.there))) none_now

    pub next_none : HasNone c.label h
    next_none = same_run.0

    pub next_record : record_of c.label (reading c.source) given h ≡ q
    next_record = ap (λ g. record_of c.label (reading c.source) g h) (sym next.world) ∙ same_run.1 ∙ ap (λ (c : Cell). record_of c.label (reading c.source) new.world t) (sym next.cell)

    next_after : session_after (cell c.label (reading c.source) given h) ≡ did_by (Some q) h
    next_after = effects_are_all c.label (reading c.source) h given next_none ∙ ap (λ (q : Record). did_by (Some q) h) next_record

    -- behind the cell that is run where another run stood
    pub there_at : i < length old.cells → (d e : Change) (x r : Record) (after : Session) (upto : ℕ) → IsOver d (session_before old i) old.world t new.world → x ≡ record_at old.world (entry_at old i) → r ≡ record_of c.label (reading c.source) given h
        → after ≡ session_after (cell c.label (reading c.source) given h) → Follows d e x r after given → upto ≡ i + 1 → IsAt old new (i + 1) (j + 1) e after upto
    there_at lt d e x r after upto over was is then follows upto_is =
        subst (IsAt old new (i + 1) (j + 1) e after) (sym upto_is)
        (past_swap old new i j lt next.run.distinct next.there next.place.distinct d over e h after here hand.once (then ∙ next_after)
        (subst (λ g. Follows d e (record_at old.world (entry_at old i)) q after g) (sym next.world)
        (subst (λ r. Follows d e (record_at old.world (entry_at old i)) r after given) (is ∙ next_record) (subst (λ x. Follows d e x r after given) was follows))))

    -- behind the cell that is run where none stood
    pub here_at : (d e : Change) (r : Record) (after : Session) (upto : ℕ) → IsOver d (session_before old i) old.world t new.world → r ≡ record_of c.label (reading c.source) given h → after ≡ session_after (cell c.label (reading c.source) given h) → Comes d e r after → upto ≡ i
        → IsAt old new i (j + 1) e after upto
    here_at d e r after upto over is then comes upto_is =
        let s : Session = session_before old i in
        let t' : Session = session_before new (j + 1) in
        let then' : after ≡ did_by (Some q) h = then ∙ next_after in
        let behind : StillHolds q h new.world × IsAlike (did_by (Some q) h) t' × IsOnce (did_by (Some q) h).names = next_alike new j next.there next.place.distinct h here hand.once in
        let then_alike : IsAlike after t' = subst (λ u. IsAlike u t') (sym then') behind.1 in
        let over_here : IsOver d s old.world h new.world = over_alike d s t s h old.world new.world over (alike_self s s refl) here in
        let over_there : IsOver e s old.world after new.world =
        subst (λ r. Comes d e r after) (is ∙ next_record) comes s h old.world new.world over_here (run_over q t h new.world new.world (runs_over new j next.there next.place.distinct) behind.0) then' in
        subst (IsAt old new i (j + 1) e after) (sym upto_is) (record {
          over = over_alike e s after s t' old.world new.world over_there (alike_self s s refl) (alike_turned after t' then_alike);
          hand = record {
            behind = omega arith;
            enough = omega arith;
            session = subst (λ n. IsAlike after (session_before new n)) (stays j i) then_alike;
            once = subst (λ u. IsOnce u.names) (sym then') behind.2;
            kept = λ n lt. absurd (omega arith);
          };
        })
      where
        stays : (j i : ℕ) → j + 1 ≡ j + 1 - (i - i)
        stays j i = omega arith
