-- One cell of a sweep, as the code goes past it.
use Rattle.std.proofs.Common.{◌≡◌, ℕ, ◌+◌, ◌-◌, ◌^◌, ◌<◌, ◌≤◌, min, IsTrue, Bool, List, [], ◌∷◌, ◌++◌, length, map, get_or, Some, IfSome, Result, Ok, Err, OnOk, sym, ap, subst, ◌∙◌, arith, Global}
use Rattle.std.proofs.lemmas.List.{get_or-map, length-map}
use Rattle.std.specs.declared.rc.Rc.{Rc}
use Rattle.nd_model.specs.Cells.Session.{Session, no_session}
use Rattle.nd_model.specs.Cells.Running.{Key, World}
use Rattle.nd_model.specs.Grammar.Reading.{reading}
use Rattle.nd_model.specs.Cells.Cell.{cell, session_after}
use Rattle.nd_model.specs.Cells.Footprint.{HasNone}
use Rattle.nd_model.specs.Book.Records.{Record, record_of, StillHolds}
use Rattle.nd_model.specs.Book.Book.{Book, Cell, no_cell}
use Rattle.nd_model.specs.Book.Entries.{entry_at, entries_of, record_at, session_before}
use Rattle.nd_model.specs.Book.Stale.{IsStale, kept_of}
use Rattle.nd_model.proofs.Entries.{fresh_at, get_or-records_of}
use Rattle.nd_model.proofs.Lazy.{length-entries}
use Rattle.nd_schedule.specs.declared.cells.source.KeptCell.{KeptCell}
use Rattle.nd_schedule.specs.Cells.Source.{cell_of, cells_of}
use Rattle.nd_model.proofs.Tracks.{effects_are_all}
use Rattle.nd_model.proofs.Sessions.{names_stand_once}
use Rattle.nd_change.specs.Snapshots.{IsAlike}
use Rattle.nd_change.proofs.Snapshots.{alike_runs}
use Rattle.nd_change.specs.Change.{Change, Fits, IsDisjoint, did_by}
use Rattle.nd_change.specs.Steps.{IsWordOf, IsWordOfChange, Keeps, Follows}
use Rattle.nd_schedule.specs.Schedule.Sweep.{AreWords, IsBeside, IsPlace, IsAtHand, IsAt, IsFrame, IsOpen, IsRun, CountsFront, Changes, AreChanged, AreFit}
use Rattle.nd_schedule.proofs.schedule.Sweeping

pub on_ok : {X E : Type 0} {P Q : Type 0} (res : Result X E) → OnOk res P → (P → Q) → OnOk res Q
on_ok (Ok x) p f = f p
on_ok (Err e) p f = tt

pub on_both : {X E : Type 0} {P Q R : Type 0} (res : Result X E) → OnOk res P → OnOk res Q → (P → Q → R) → OnOk res R
on_both (Ok x) p q f = f p q
on_both (Err e) p q f = tt

pub on_three : {X E : Type 0} {P Q R S : Type 0} (res : Result X E) → OnOk res P → OnOk res Q → OnOk res R → (P → Q → R → S) → OnOk res S
on_three (Ok x) p q r f = f p q r
on_three (Err e) p q r f = tt

pub cell_there : (cells : List (Rc KeptCell Global)) (k : ℕ) (x : Rc KeptCell Global) (src : KeptCell) → k < length cells → x ≡ get_or cells k x → src ≡ x.value → cell_of src ≡ get_or (cells_of cells) k no_cell
cell_there cells k x src lt is value = ap cell_of (value ∙ ap (λ (y : Rc KeptCell Global). y.value) is) ∙ sym (get_or-map (λ (s : Rc KeptCell Global). cell_of s.value) cells k x no_cell lt)

module _ (old new : Book) (i j : ℕ) (cs : List Cell) (rs : List Record) (given : World) (frame : IsFrame old new i j (i + 1) cs rs given) (c : Change) (s : Session) (since : ℕ) (at : IsAt old new i j c s since) where
  pub lt : i < length old.cells
  lt = omega (arith, frame.beside.within)

  abbrev pub was : Record
  was = record_at old.world (entry_at old i)

  pub place : IsPlace old new i j
  place = record { before = omega (arith, frame.beside.within); now = omega (arith, frame.beside.fits); distinct = frame.beside.distinct }

  pub less : j < length new.cells
  less = Sweeping.lt_new old new i j lt frame.run.distinct frame.beside

  word_there : {W : Type 0} (covers : W → Key → Bool) (ws : List W) (w : W) → AreWords covers ws rs → IsWordOf covers (get_or ws i w) was
  word_there covers ws w words =
      let long : length rs ≡ length old.cells = ap length frame.run.records ∙ length-map (entries_of old) (record_at old.world) ∙ length-entries old.cells old.world no_session in
      subst (IsWordOf covers (get_or ws i w)) (ap (λ xs. get_or xs i was) frame.run.records ∙ get_or-records_of old i was lt) (words i w was (omega (arith, lt)))

  pub is_apart : {W : Type 0} (covers : W → Key → Bool) (ws : List W) (w v : W) → AreWords covers ws rs → IsWordOfChange covers v c → ((k : Key) → IsTrue (covers (get_or ws i w) k) → ¬ IsTrue (covers v k)) → IsDisjoint c was
  is_apart covers ws w v words over apart = Sweeping.words_apart covers (get_or ws i w) v c was (word_there covers ws w words) over apart

  pub apart_at : IsDisjoint c was → IsAt old new (i + 1) (j + 1) c s since
  apart_at apart = Sweeping.past_apart old new i j lt frame.run.distinct frame.beside c s since at apart

  pub apart_holds : IsDisjoint c was → StillHolds was (session_before new j) new.world
  apart_holds apart = Sweeping.holds_apart old new i j lt frame.run.distinct frame.beside c s since at apart

  pub no_more : (before meter : ℕ) → CountsFront old new j before meter → CountsFront old new (j + 1) before meter
  no_more before meter h = Sweeping.counts_same old new j before meter less h

  pub same_more : (from first : ℕ) (ds : Changes) → from ≤ i → j ≡ first + (i - from) → StillHolds was (session_before new j) new.world → AreChanged old new from first i ds → AreChanged old new from first (i + 1) ds
  same_more from first ds le is h all =
      Sweeping.changed_same old new from first i ds all le (Sweeping.same_record old new i j lt frame.run.distinct frame.beside h ∙ ap (λ k. record_at new.world (entry_at new k)) is)
      (subst (λ k. ¬ IsStale old new (entry_at new k)) is (Sweeping.fresh_now old new i j lt frame.run.distinct frame.beside h))

  pub fits_holds : (x : Record) → x ≡ was → Fits c x → StillHolds was (session_before new j) new.world
  fits_holds x is fits = Sweeping.fits_now old new i j lt frame.run.distinct frame.beside c s since at (subst (Fits c) is fits)

  pub fits_at : (x : Record) (e : Change) → x ≡ was → Fits c x → Keeps c e x → IsAt old new (i + 1) (j + 1) e s since
  fits_at x e is fits keeps = Sweeping.past_kept old new i j lt frame.run.distinct frame.beside c s since at e (subst (Keeps c e) is keeps) (fits_holds x is fits)

  fails_now : (x : Record) → x ≡ was → ¬ Fits c x → IfSome (kept_of old (entry_at new j).cell) (λ r. ¬ StillHolds r (session_before new j) new.world)
  fails_now x is out = Sweeping.fails_now old new i j lt frame.run.distinct frame.beside
      (Sweeping.not_fits old new i j lt frame.run.distinct frame.beside c s since at (λ f. out (subst (Fits c) (sym is) f)))

  pub stale_now : (x : Record) → x ≡ was → ¬ Fits c x → IsStale old new (entry_at new j)
  stale_now x is out = Sweeping.stale_there old new j less frame.run.distinct frame.beside.distinct (fails_now x is out)

  -- the cell is run
  module _ (h : Session) (hand : IsAtHand old new i j h i) (src : Cell) (of : src ≡ get_or cs i no_cell) where
    here : IsAlike h (session_before new j)
    here = let e : j - (i - i) ≡ j = omega arith in subst (λ n. IsAlike h (session_before new n)) e hand.session

    is_cell : src ≡ (entry_at new j).cell
    is_cell = of ∙ ap (λ cs. get_or cs i no_cell) (sym frame.cells) ∙ Sweeping.cell_is old new i j lt frame.run.distinct frame.beside

    none_now : HasNone src.label (session_before new j)
    none_now = subst (λ (c : Cell). HasNone c.label (session_before new j)) (sym is_cell) (fresh_at new j less frame.beside.distinct)

    same_run : HasNone src.label h × (record_of src.label (reading src.source) new.world h ≡ record_of src.label (reading src.source) new.world (session_before new j)) × IsAlike (session_after (cell src.label (reading src.source) new.world h)) (session_after (cell src.label (reading src.source) new.world (session_before new j)))
    same_run = alike_runs src.label (reading src.source) h (session_before new j) new.world here hand.once (names_stand_once new j frame.beside.distinct (omega (arith, less))) none_now

    pub none_here : HasNone src.label h
    none_here = same_run.0

    pub run_record : record_of src.label (reading src.source) given h ≡ record_at new.world (entry_at new j)
    run_record = ap (λ g. record_of src.label (reading src.source) g h) (sym frame.world) ∙ same_run.1 ∙ ap (λ (c : Cell). record_of c.label (reading c.source) new.world (session_before new j)) is_cell

    pub run_after : session_after (cell src.label (reading src.source) given h) ≡ did_by (Some (record_at new.world (entry_at new j))) h
    run_after = effects_are_all src.label (reading src.source) h given none_here ∙ ap (λ (q : Record). did_by (Some q) h) run_record

    pub run_at : (x : Record) (e : Change) (after : Session) (upto : ℕ) → x ≡ was → after ≡ session_after (cell src.label (reading src.source) given h) → Follows c e x (record_of src.label (reading src.source) given h) after given → upto ≡ i + 1
        → IsAt old new (i + 1) (j + 1) e after upto
    run_at x e after upto is then follows since_is =
        subst (IsAt old new (i + 1) (j + 1) e after) (sym since_is)
        (Sweeping.past_run old new i j lt frame.run.distinct frame.beside c s since at e h after here hand.once (then ∙ run_after)
        (subst (λ g. Follows c e was (record_at new.world (entry_at new j)) after g) (sym frame.world) (subst (λ q. Follows c e was q after given) run_record (subst (λ x. Follows c e x (record_of src.label (reading src.source) given h) after given) is follows))))

    pub run_changed : (x : Record) → x ≡ was → ¬ Fits c x → (from first : ℕ) (ds es : Changes) → from ≤ i → j ≡ first + (i - from) → es ≡ ds ++ (i, record_of src.label (reading src.source) given h) ∷ [] → AreChanged old new from first i ds → AreChanged old new from first (i + 1) es
    run_changed x x_is out from first ds es le is grown all =
        Sweeping.changed_more old new from first i ds all le es (record_of src.label (reading src.source) given h) grown (run_record ∙ ap (λ k. record_at new.world (entry_at new k)) is)
        (subst (λ k. IsStale old new (entry_at new k)) is (stale_now x x_is out))

  pub one_more : (x : Record) (before mid after : ℕ) → x ≡ was → ¬ Fits c x → CountsFront old new j before mid → after ≡ min (mid + 1) (2 ^ 64 - 1) → CountsFront old new (j + 1) before after
  one_more x before mid after is out h more = Sweeping.counts_run old new j before mid after less frame.run.distinct frame.beside.distinct (fails_now x is out) h more

-- ---- the sweep

pub frame_at : (old new : Book) (i j to : ℕ) (cs : List Cell) (rs : List Record) (given : World) → IsFrame old new i j to cs rs given → (k : ℕ) → i ≤ k → k < to → IsFrame old new k (j + (k - i)) (k + 1) cs rs given
frame_at old new i j to cs rs given frame k le below = record {
  cells = frame.cells;
  run = frame.run;
  order = omega arith;
  beside = record {
    within = omega (arith, frame.beside.within);
    fits = omega (arith, frame.beside.fits);
    same = λ n less.
        let e : k + n ≡ i + (k - i + n) = omega arith in let f : j + (k - i + n) ≡ j + (k - i) + n = omega arith in
        ap (λ m. get_or old.cells m no_cell) e ∙ frame.beside.same (k - i + n) (omega arith) ∙ ap (λ m. get_or new.cells m no_cell) f;
    distinct = frame.beside.distinct;
  };
  world = frame.world;
}

-- a part of it
pub frame_part : (old new : Book) (i j to : ℕ) (cs : List Cell) (rs : List Record) (given : World) → IsFrame old new i j to cs rs given → (k n : ℕ) → i ≤ k → k ≤ n → n ≤ to → IsFrame old new k (j + (k - i)) n cs rs given
frame_part old new i j to cs rs given frame k n le order below = record {
  cells = frame.cells;
  run = frame.run;
  order = order;
  beside = record {
    within = omega (arith, frame.beside.within);
    fits = omega (arith, frame.beside.fits);
    same = λ m less.
        let e : k + m ≡ i + (k - i + m) = omega arith in let f : j + (k - i + m) ≡ j + (k - i) + m = omega arith in
        ap (λ p. get_or old.cells p no_cell) e ∙ frame.beside.same (k - i + m) (omega arith) ∙ ap (λ p. get_or new.cells p no_cell) f;
    distinct = frame.beside.distinct;
  };
  world = frame.world;
}

-- up to the end
pub frame_open : (old new : Book) (i j n : ℕ) (cs : List Cell) (rs : List Record) (given : World) → IsOpen old new i j given → old.cells ≡ cs → IsRun old rs → n ≡ length old.cells → IsFrame old new i j n cs rs given
frame_open old new i j n cs rs given ahead cells run whole = record {
  cells = cells;
  run = run;
  order = subst (λ m. i ≤ m) (sym whole) ahead.order;
  beside = subst (IsBeside old new i j) (sym whole) ahead.beside;
  world = ahead.world;
}

pub open_frame : (old new : Book) (i j : ℕ) (cs : List Cell) (rs : List Record) (given now : World) → IsFrame old new i j (length old.cells) cs rs given → new.world ≡ now → IsOpen old new i j now
open_frame old new i j cs rs given now frame world = record { order = frame.order; beside = frame.beside; world = world }

-- two parts behind one another
pub both_parts : (i j k n : ℕ) → i ≤ k → k ≤ n → j + (k - i) + (n - k) ≡ j + (n - i)
both_parts i j k n le order = omega arith

nothing_more : (i j : ℕ) → j ≡ j + (i - i)
nothing_more i j = omega arith

one_further : (i j k : ℕ) → i ≤ k → j + (k - i) + 1 ≡ j + (k + 1 - i)
one_further i j k le = omega arith

pub start_at : (old new : Book) (i j : ℕ) (c : Change) (s : Session) (since : ℕ) → IsAt old new i j c s since → IsAt old new i (j + (i - i)) c s since
start_at old new i j c s since at = subst (λ k. IsAt old new i k c s since) (nothing_more i j) at

pub start_counts : (old new : Book) (i j before after : ℕ) → CountsFront old new j before after → CountsFront old new (j + (i - i)) before after
start_counts old new i j before after h = subst (λ k. CountsFront old new k before after) (nothing_more i j) h

pub next_at : (old new : Book) (i j k : ℕ) (c : Change) (s : Session) (since : ℕ) → i ≤ k → IsAt old new (k + 1) (j + (k - i) + 1) c s since → IsAt old new (k + 1) (j + (k + 1 - i)) c s since
next_at old new i j k c s since le at = subst (λ m. IsAt old new (k + 1) m c s since) (one_further i j k le) at

pub next_counts : (old new : Book) (i j k before after : ℕ) → i ≤ k → CountsFront old new (j + (k - i) + 1) before after → CountsFront old new (j + (k + 1 - i)) before after
next_counts old new i j k before after le h = subst (λ m. CountsFront old new m before after) (one_further i j k le) h

pub next_changed : (i j k from first : ℕ) → from ≤ i → i ≤ k → j ≡ first + (i - from) → j + (k - i) ≡ first + (k - from)
next_changed i j k from first le le' is = omega arith

pub changed_to : (old new : Book) (from first k to : ℕ) (cs : Changes) → k ≡ to → AreChanged old new from first k cs → AreChanged old new from first to cs
changed_to old new from first k to cs e h = subst (λ k. AreChanged old new from first k cs) e h

-- ---- places and words of what is changed

fit_push : {W : Type 0} (covers : W → Key → Bool) (n : ℕ) (cs : List (ℕ × Record × W)) (c : ℕ × Record × W) → AreFit covers n cs → c.0 < n → IsWordOf covers c.2 c.1 → AreFit covers n (cs ++ c ∷ [])
fit_push covers n [] c h lt word = (lt, word, tt)
fit_push covers n (b ∷ cs) c h lt word = (h.0, h.1, fit_push covers n cs c h.2 lt word)

pub fit_more : {X : Type 0} {W : Type 0} (covers : W → Key → Bool) (view : X → ℕ × Record × W) (n : ℕ) (xs ys : List X) (x : X) → ys ≡ xs ++ x ∷ [] → AreFit covers n (map view xs) → (view x).0 < n → IsWordOf covers (view x).2 (view x).1 → AreFit covers n (map view ys)
fit_more covers view n xs ys x grown h lt word =
    subst (AreFit covers n) (sym (ap (map view) grown ∙ Rattle.std.proofs.lemmas.List.map-append view xs (x ∷ []))) (fit_push covers n (map view xs) (view x) h lt word)

pub changed_more : {X : Type 0} (view : X → ℕ × Record) (xs ys : List X) (x : X) (c : ℕ × Record) → ys ≡ xs ++ x ∷ [] → view x ≡ c → map view ys ≡ map view xs ++ c ∷ []
changed_more view xs ys x c grown is = ap (map view) grown ∙ Rattle.std.proofs.lemmas.List.map-append view xs (x ∷ []) ∙ ap (λ v. map view xs ++ v ∷ []) is
