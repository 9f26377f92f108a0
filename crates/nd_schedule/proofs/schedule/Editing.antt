-- Another text for one cell, and the sweep behind it.
use Rattle.std.proofs.Common.{◌≡◌, ℕ, zero, suc, ◌+◌, ◌-◌, ◌^◌, ◌<◌, ◌≤◌, min, Bool, true, false, List, [], ◌∷◌, ◌++◌, length, length-set, take, get_or, set, Some, None, IfSome, refl, sym, ap, ap₂, subst, ◌∙◌, arith, Global, string_bytes}
use Rattle.std.specs.Prelude.{bytes_eq, slice_index_or}
use Rattle.std.specs.declared.rc.Rc.{Rc}
use Rattle.nd_schedule.specs.declared.cells.source.KeptCell.{KeptCell}
use Rattle.std.proofs.lemmas.List.{get_or-set_same, get_or-set_other, get_or-map, length-map}
use Rattle.nd_model.specs.Cells.Session.{Session, no_session}
use Rattle.nd_model.specs.Cells.Running.{Key, World}
use Rattle.nd_model.specs.Grammar.Reading.{reading}
use Rattle.nd_model.specs.Cells.Cell.{cell, session_after}
use Rattle.nd_model.specs.Cells.Footprint.{Found, HasNone, found}
use Rattle.nd_model.specs.Book.Records.{Record, record_of, StillHolds}
use Rattle.nd_model.specs.Book.Renaming.{AreDistinct}
use Rattle.nd_model.specs.Book.Book.{Book, Cell, no_cell, labels_of}
use Rattle.nd_model.specs.Book.Book as book
use Rattle.nd_model.specs.Book.Entries.{entry_at, record_at, session_before, records_of, SharesFront}
use Rattle.nd_model.specs.Book.Notebook.{Setting, Sheet, book_of, edited_sheet}
use Rattle.nd_model.specs.Book.Stale.{IsStale, kept_of}
use Rattle.nd_model.proofs.Entries.{fresh_at}
use Rattle.nd_model.proofs.EditKept.{kept_changed, same_change, map-slice_set}
use Rattle.nd_model.proofs.EditLabels.{change_distinct}
use Rattle.nd_model.proofs.Lazy.{same_front}
use Rattle.nd_model.proofs.Lists.{same_bytes}
use Rattle.nd_schedule.specs.Cells.Source.{sheet, cell_of, cells_of}
use Rattle.nd_model.specs.Book.Sessions.{IsOnce}
use Rattle.nd_model.proofs.Tracks.{effects_are_all}
use Rattle.nd_model.proofs.Sessions.{names_stand_once}
use Rattle.nd_change.specs.Change.{Change, IsOver, did_by}
use Rattle.nd_change.specs.Snapshots.{IsAlike}
use Rattle.nd_change.specs.Steps.{Follows}
use Rattle.nd_change.proofs.Snapshots.{alike_runs}
use Rattle.nd_schedule.specs.Schedule.Snapshot.{IsBehind, StandsBefore}
use Rattle.nd_schedule.specs.Schedule.Sweep.{IsRun, IsBeside, IsAt, IsFrame, CountsFront, Changes, AreChanged, AreWords, IsKept, changed}
use Rattle.nd_schedule.proofs.schedule.Sweeping.{none_yet, alike_self, counts_run, past_swap, changed_none, changed_more, stale_there}
use Rattle.nd_schedule.proofs.schedule.Kept.{records_now}

module _ (s : Sheet) (at : ℕ) (c : Cell) (lt : at < length s.cells) (d : AreDistinct (labels_of s.cells)) (label : c.label ≡ (get_or s.cells at no_cell).label) (other : bytes_eq c.source (get_or s.cells at no_cell).source ≡ false) where
  abbrev pub old : Book
  old = book_of s

  abbrev pub new : Book
  new = book_of (sheet (set s.cells at c) s.given)

  is_cell : ◌≡◌ {A = Cell} c (record { label = (get_or s.cells at no_cell).label; source = c.source })
  is_cell = λ i. record { label = label i; source = c.source }

  pub distinct_now : AreDistinct (labels_of new.cells)
  distinct_now = let P : Cell → Type 0 = λ c. AreDistinct (labels_of (set s.cells at c)) in subst P (sym is_cell) (change_distinct s.cells at c.source d)

  pub many : length new.cells ≡ length old.cells
  many = length-set s.cells at c

  pub less : at < length new.cells
  less = omega (arith, many)

  entry_is : (entry_at new at).cell ≡ c
  entry_is = get_or-set_same s.cells at c no_cell lt

  pub take_set : (cs : List Cell) (k : ℕ) → take k cs ≡ take k (set cs k c)
  take_set cs zero = refl
  take_set [] (suc k) = refl
  take_set (x ∷ cs) (suc k) = ap (λ ys. x ∷ ys) (take_set cs k)

  pub front : SharesFront at old new
  front = same_front at old new refl (take_set s.cells at)

  pub starts : (e : Change) → ((k : Key) → e k ≡ None) → IsOver e (session_before old at) old.world (session_before new at) new.world
  starts e none = record {
    now = λ k f is there. absurd (none_some f (sym (none k) ∙ is));
    same = λ k out in_s in_t. ap (λ t. found t old.world k) (front.1 at (omega arith));
  }
    where
      none_some : (f : Found) → None ≡ Some f → ⊥
      none_some f e = cc

  fails : (t : Session) → IfSome (kept_of old (entry_at new at).cell) (λ r. ¬ StillHolds r t new.world)
  fails t = subst (λ o. IfSome o (λ r. ¬ StillHolds r t new.world)) (sym (ap (kept_of old) (entry_is ∙ is_cell) ∙ kept_changed old at c.source d lt other)) tt

  pub stale_at : IsStale old new (entry_at new at)
  stale_at = stale_there old new at less d distinct_now (fails (session_before new at))

  module _ (h : Session) (here : StandsBefore old at h) where
    now_here : IsAlike h (session_before new at)
    now_here = subst (IsAlike h) (front.1 at (omega arith)) here.alike

    none_now : HasNone c.label (session_before new at)
    none_now = let P : Cell → Type 0 = λ c. HasNone c.label (session_before new at) in subst P entry_is (fresh_at new at less distinct_now)

    same_run : HasNone c.label h × (record_of c.label (reading c.source) new.world h ≡ record_of c.label (reading c.source) new.world (session_before new at)) × IsAlike (session_after (cell c.label (reading c.source) new.world h)) (session_after (cell c.label (reading c.source) new.world (session_before new at)))
    same_run = alike_runs c.label (reading c.source) h (session_before new at) new.world now_here here.once (names_stand_once new at distinct_now (omega (arith, less))) none_now

    pub none_here : HasNone c.label h
    none_here = same_run.0

    pub run_record : record_of c.label (reading c.source) new.world h ≡ record_at new.world (entry_at new at)
    run_record = same_run.1 ∙ ap (λ (x : Cell). record_of x.label (reading x.source) new.world (session_before new at)) (sym entry_is)

    pub run_after : session_after (cell c.label (reading c.source) new.world h) ≡ did_by (Some (record_at new.world (entry_at new at))) h
    run_after = effects_are_all c.label (reading c.source) h new.world none_here ∙ ap (λ (q : Record). did_by (Some q) h) run_record

    -- behind the cell that is run
    pub first_at : (e f : Change) (x : Record) (after : Session) (given : World) (upto : ℕ) → ((k : Key) → e k ≡ None) → x ≡ record_at old.world (entry_at old at) → given ≡ new.world → after ≡ session_after (cell c.label (reading c.source) given h)
        → Follows e f x (record_of c.label (reading c.source) given h) after given → upto ≡ at + 1 → IsAt old new (at + 1) (at + 1) f after upto
    first_at e f x after given upto none is same then follows upto_is =
        let then' : after ≡ did_by (Some (record_at new.world (entry_at new at))) h = then ∙ ap (λ g. session_after (cell c.label (reading c.source) g h)) same ∙ run_after in
        subst (IsAt old new (at + 1) (at + 1) f after) (sym upto_is)
        (past_swap old new at at lt d less distinct_now e (starts e none) f h after now_here here.once then'
        (subst (λ x. Follows e f x (record_at new.world (entry_at new at)) after new.world) is
        (subst (λ q. Follows e f x q after new.world) run_record
        (subst (λ g. Follows e f x (record_of c.label (reading c.source) g h) after g) same follows))))

    pub first_changed : (cs ds : Changes) (given : World) → given ≡ new.world → cs ≡ [] → ds ≡ cs ++ (at, record_of c.label (reading c.source) given h) ∷ [] → AreChanged old new at at (at + 1) ds
    first_changed cs ds given same none grown =
        let e : at ≡ at + (at - at) = omega arith in
        changed_more old new at at at cs (subst (AreChanged old new at at at) (sym none) (changed_none old new at at)) (omega arith) ds (record_of c.label (reading c.source) given h) grown
        (ap (λ g. record_of c.label (reading c.source) g h) same ∙ run_record ∙ ap (λ k. record_at new.world (entry_at new k)) e)
        (subst (λ k. IsStale old new (entry_at new k)) e stale_at)

  pub first_counts : (before after : ℕ) → after ≡ min (before + 1) (2 ^ 64 - 1) → CountsFront old new (at + 1) before after
  first_counts before after more = counts_run old new at before before after less d distinct_now (fails (session_before new at)) (none_yet old new at before) more

  pub frame_behind : (cs : List Cell) (rs : List Record) (given : World) (n : ℕ) → s.cells ≡ cs → rs ≡ records_of old → new.world ≡ given → n ≡ length s.cells → IsFrame old new (at + 1) (at + 1) n cs rs given
  frame_behind cs rs given n cells records world whole = record {
    cells = cells;
    run = record { records = records; distinct = d };
    order = omega arith;
    beside = record {
      within = omega arith;
      fits = omega (arith, many);
      same = λ n less. sym (get_or-set_other s.cells at (at + 1 + n) c no_cell (λ e. absurd (omega arith)));
      distinct = distinct_now;
    };
    world = world;
  }

  pub all_records : (cs : Changes) (rs ss : List Record) → rs ≡ records_of old → AreChanged old new at at (length s.cells) cs → length ss ≡ length rs → ((k : ℕ) (r : Record) → get_or ss k r ≡ Rattle.nd_schedule.specs.Schedule.Sweep.changed cs k (get_or rs k r)) → ss ≡ records_of new
  all_records cs rs ss all changes long put = records_now old new at cs rs ss all many front changes long put

-- ---- the cells as the code keeps them

abbrev view_of : Rc KeptCell Global → Cell
view_of x = cell_of x.value

pub label_at : (old : List Cell) (xs : List (Rc KeptCell Global)) (x : Rc KeptCell Global) (at : ℕ) → cells_of xs ≡ old → at < length old → x ≡ slice_index_or xs at x → cell_of x.value ≡ slice_index_or old at no_cell
label_at old xs x at all lt is =
    let long : length xs ≡ length old = sym (length-map xs view_of) ∙ ap length all in
    ap view_of is ∙ sym (get_or-map view_of xs at x no_cell (omega arith)) ∙ ap (λ cs. slice_index_or cs at no_cell) all

pub unchanged : (text there : List ℕ) (s : Sheet) (at : ℕ) → at < length s.cells → bytes_eq text there ≡ true → there ≡ (slice_index_or s.cells at no_cell).source → s ≡ edited_sheet (book.Change at text) s
unchanged text there s at lt same is = ap (λ cs. sheet cs s.given) (sym (same_change s.cells at text lt (same_bytes text there same ∙ is)))

pub cell_now : (x : Rc KeptCell Global) (src : KeptCell) (n : ℕ) (text : List ℕ) → x.value ≡ src → src.label ≡ n → string_bytes src.text ≡ text → ◌≡◌ {A = Cell} (cell_of x.value) (record { label = n; source = text })
cell_now x src n text value label same = ap cell_of value ∙ (λ i. record { label = label i; source = same i })

pub cells_now : (xs : List (Rc KeptCell Global)) (cells : List Cell) (at : ℕ) (x : Rc KeptCell Global) (c : Cell) → cells_of xs ≡ cells → cell_of x.value ≡ c → cells_of (set xs at x) ≡ set cells at c
cells_now xs cells at x c all is = map-slice_set view_of xs at x ∙ ap₂ (λ (cs : List Cell) (c : Cell). set cs at c) all is

-- all that is kept, once the changes are in their places
pub kept_now : {W : Type 0} (covers : W → Key → Bool) (s : Sheet) (at : ℕ) (c : Cell) (cs : Changes) (rs ss : List Record) (ws vs : List W) → at < length s.cells → c.label ≡ (get_or s.cells at no_cell).label → IsKept covers (book_of s) rs ws
    → AreChanged (book_of s) (book_of (sheet (set s.cells at c) s.given)) at at (length s.cells) cs → length ss ≡ length rs → length vs ≡ length ws → ((k : ℕ) (r : Record) → get_or ss k r ≡ changed cs k (get_or rs k r))
    → (AreWords covers ws rs → AreWords covers vs ss) → IsKept covers (book_of (sheet (set s.cells at c) s.given)) ss vs
kept_now covers s at c cs rs ss ws vs lt label kept changes long many put words = record {
  run = record {
    records = records_now (book_of s) (book_of (sheet (set s.cells at c) s.given)) at cs rs ss kept.run.records (length-set s.cells at c)
        (same_front at (book_of s) (book_of (sheet (set s.cells at c) s.given)) refl (take_set s.cells at)) changes long put;
    distinct = let P : Cell → Type 0 = λ c. AreDistinct (labels_of (set s.cells at c)) in subst P (sym is_cell) (change_distinct s.cells at c.source kept.run.distinct);
  };
  words = words kept.words;
  many = many ∙ kept.many ∙ sym long;
}
  where
    is_cell : ◌≡◌ {A = Cell} c (record { label = (get_or s.cells at no_cell).label; source = c.source })
    is_cell = λ i. record { label = label i; source = c.source }

    take_set : (cs : List Cell) (k : ℕ) → take k cs ≡ take k (set cs k c)
    take_set cs zero = refl
    take_set [] (suc k) = refl
    take_set (x ∷ cs) (suc k) = ap (λ ys. x ∷ ys) (take_set cs k)

pub behind_set : (s : Sheet) (at : ℕ) (c : Cell) → at < length s.cells → AreDistinct (labels_of s.cells) → c.label ≡ (get_or s.cells at no_cell).label → IsBehind (book_of s) (book_of (sheet (set s.cells at c) s.given)) at
behind_set s at c lt d label = record {
  same = same_front at (book_of s) (book_of (sheet (set s.cells at c) s.given)) refl (take_set s.cells at);
  within = omega (arith, length-set s.cells at c);
  before = d;
  distinct = let P : Cell → Type 0 = λ c. AreDistinct (labels_of (set s.cells at c)) in subst P (sym is_cell) (change_distinct s.cells at c.source d);
}
  where
    is_cell : ◌≡◌ {A = Cell} c (record { label = (get_or s.cells at no_cell).label; source = c.source })
    is_cell = λ i. record { label = label i; source = c.source }

    take_set : (cs : List Cell) (k : ℕ) → take k cs ≡ take k (set cs k c)
    take_set cs zero = refl
    take_set [] (suc k) = refl
    take_set (x ∷ cs) (suc k) = ap (λ ys. x ∷ ys) (take_set cs k)

-- ---- other inputs, and another rule

module _ (s : Sheet) (given : Setting) (d : AreDistinct (labels_of s.cells)) where
  abbrev pub before : Book
  before = book_of s

  abbrev pub after : Book
  after = book_of (sheet s.cells given)

  pub inputs_at : (e : Change) (h : Session) → ((t : Session) → IsOver e t before.world t after.world) → h ≡ no_session → IsAt before after 0 0 e h 0
  inputs_at e h over empty = record {
    over = over no_session;
    hand = record { behind = omega arith; enough = omega arith; session = alike_self h no_session empty; once = subst (λ u. IsOnce u.names) (sym empty) tt; kept = λ n lt. absurd (omega arith) };
  }

  pub frame_whole : (cs : List Cell) (rs : List Record) (i : World) (n : ℕ) → s.cells ≡ cs → rs ≡ records_of before → after.world ≡ i → n ≡ length s.cells → IsFrame before after 0 0 n cs rs i
  frame_whole cs rs i n cells records world whole = record {
    cells = cells;
    run = record { records = records; distinct = d };
    order = omega arith;
    beside = record { within = omega arith; fits = omega arith; same = λ n less. refl; distinct = d };
    world = world;
  }

pub behind_none : (s : Sheet) (given : Setting) → AreDistinct (labels_of s.cells) → IsBehind (book_of s) (book_of (sheet s.cells given)) 0
behind_none s given d = record { same = (refl, first); within = omega arith; before = d; distinct = d }
  where
    first : (k : ℕ) → k ≤ 0 → session_before (book_of s) k ≡ session_before (book_of (sheet s.cells given)) k
    first k le = let e : k ≡ 0 = omega arith in ap (session_before (book_of s)) e ∙ sym (ap (session_before (book_of (sheet s.cells given))) e)

-- all that is kept, by other inputs and another rule
pub kept_over : {W : Type 0} (covers : W → Key → Bool) (s : Sheet) (given : Setting) (cs : Changes) (rs ss : List Record) (ws vs : List W) → IsKept covers (book_of s) rs ws
    → AreChanged (book_of s) (book_of (sheet s.cells given)) 0 0 (length s.cells) cs → length ss ≡ length rs → length vs ≡ length ws → ((k : ℕ) (r : Record) → get_or ss k r ≡ changed cs k (get_or rs k r))
    → (AreWords covers ws rs → AreWords covers vs ss) → IsKept covers (book_of (sheet s.cells given)) ss vs
kept_over covers s given cs rs ss ws vs kept changes long many put words = record {
  run = record {
    records = records_now (book_of s) (book_of (sheet s.cells given)) 0 cs rs ss kept.run.records refl (refl, first) changes long put;
    distinct = kept.run.distinct;
  };
  words = words kept.words;
  many = many ∙ kept.many ∙ sym long;
}
  where
    first : (k : ℕ) → k ≤ 0 → session_before (book_of s) k ≡ session_before (book_of (sheet s.cells given)) k
    first k le = let e : k ≡ 0 = omega arith in ap (session_before (book_of s)) e ∙ sym (ap (session_before (book_of (sheet s.cells given))) e)
