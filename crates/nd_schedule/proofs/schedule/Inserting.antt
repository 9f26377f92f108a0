-- A cell that comes in, and the sweep behind it.
use Rattle.std.proofs.Common.{◌≡◌, ℕ, Bool, ◌+◌, ◌-◌, ◌^◌, ◌<◌, ◌≤◌, ◌⊎◌, min, List, [], length, take, get_or, Some, None, IfSome, refl, sym, ap, subst, ◌∙◌, inl, inr, arith}
use Rattle.std.specs.Prelude.{insert}
use Rattle.std.specs.List.{All}
use Rattle.std.proofs.lemmas.Bool.{cases_lt}
use Rattle.std.proofs.lemmas.List.{ext_get_or, get_or-take, length-map}
use Rattle.std.proofs.lemmas.List.Edits.{length-insert, get_or-insert_at, get_or-insert_below, get_or-insert_above}
use Rattle.nd_model.specs.Cells.Session.{Session, no_session}
use Rattle.nd_model.specs.Cells.Running.{Key, World}
use Rattle.nd_model.specs.Grammar.Reading.{reading}
use Rattle.nd_model.specs.Cells.Cell.{cell, session_after}
use Rattle.nd_model.specs.Cells.Footprint.{Found, HasNone}
use Rattle.nd_model.specs.Book.Records.{Record, record_of, StillHolds}
use Rattle.nd_model.specs.Book.Renaming.{AreDistinct}
use Rattle.nd_model.specs.Book.Sessions.{IsOnce}
use Rattle.nd_model.specs.Book.Book.{Book, Cell, no_cell, labels_of, fresh_label}
use Rattle.nd_model.specs.Book.Entries.{entry_at, entries_of, record_at, records_of, session_before, SharesFront}
use Rattle.nd_model.specs.Book.Notebook.{Sheet, book_of}
use Rattle.nd_model.specs.Book.Stale.{IsStale, kept_of}
use Rattle.nd_model.proofs.EditKept.{front_insert, kept_new}
use Rattle.nd_model.proofs.EditLabels.{insert_distinct, fresh}
use Rattle.nd_model.proofs.Entries.{fresh_at, get_or-records_of}
use Rattle.nd_model.proofs.Lazy.{same_front, length-entries}
use Rattle.nd_model.proofs.Sessions.{names_stand_once}
use Rattle.nd_schedule.specs.Cells.Source.{sheet}
use Rattle.nd_model.proofs.Tracks.{effects_are_all}
use Rattle.nd_change.specs.Change.{Change, IsOver, did_by}
use Rattle.nd_change.specs.Snapshots.{IsAlike}
use Rattle.nd_change.specs.Steps.{Comes, IsWordOf}
use Rattle.nd_change.proofs.Changes.{run_over}
use Rattle.nd_change.proofs.Snapshots.{alike_runs, over_alike}
use Rattle.nd_schedule.specs.Schedule.Snapshot.{IsBehind, IsSnapshot, StandsBefore}
use Rattle.nd_schedule.specs.Schedule.Sweep.{IsAt, IsFrame, CountsFront, Changes, changed, AreChanged, AreWords, IsKept}
use Rattle.nd_schedule.proofs.schedule.Standing.{kept_in_front, kept_lists}
use Rattle.nd_schedule.proofs.schedule.Sweeping.{alike_self, alike_turned, changed_none, counts_run, next_alike, none_yet, runs_over, stale_there}

module _ (s : Sheet) (at : ℕ) (c : Cell) (le : at ≤ length s.cells) (d : AreDistinct (labels_of s.cells)) (label : c.label ≡ fresh_label s.cells) where
  abbrev pub old : Book
  old = book_of s

  abbrev pub new : Book
  new = book_of (sheet (insert s.cells at c) s.given)

  is_cell : ◌≡◌ {A = Cell} c (record { label = fresh_label s.cells; source = c.source })
  is_cell = λ i. record { label = label i; source = c.source }

  pub distinct_now : AreDistinct (labels_of new.cells)
  distinct_now = let P : Cell → Type 0 = λ c. AreDistinct (labels_of (insert s.cells at c)) in subst P (sym is_cell) (insert_distinct s.cells at c.source d)

  pub many : length new.cells ≡ length old.cells + 1
  many = length-insert s.cells at c le

  pub less : at < length new.cells
  less = omega (arith, many)

  pub same_cells : take at old.cells ≡ take at new.cells
  same_cells = let P : Cell → Type 0 = λ c. take at s.cells ≡ take at (insert s.cells at c) in subst P (sym is_cell) (front_insert s.cells at c.source le)

  pub front : SharesFront at old new
  front = same_front at old new refl same_cells

  entry_is : (entry_at new at).cell ≡ c
  entry_is = get_or-insert_at s.cells at c no_cell le

  pub is_behind : IsBehind old new at
  is_behind = record { same = front; within = omega (arith, less); before = d; distinct = distinct_now }

  module _ (h : Session) (here : StandsBefore old at h) where
    now_here : IsAlike h (session_before new at)
    now_here = subst (IsAlike h) (front.1 at (omega arith)) here.alike

    none_now : HasNone c.label (session_before new at)
    none_now = let P : Cell → Type 0 = λ c. HasNone c.label (session_before new at) in subst P entry_is (fresh_at new at less distinct_now)

    same_run : HasNone c.label h × (record_of c.label (reading c.source) new.world h ≡ record_of c.label (reading c.source) new.world (session_before new at)) × IsAlike (session_after (cell c.label (reading c.source) new.world h)) (session_after (cell c.label (reading c.source) new.world (session_before new at)))
    same_run = alike_runs c.label (reading c.source) h (session_before new at) new.world now_here here.once (names_stand_once new at distinct_now (omega (arith, less))) none_now

    pub none_here : HasNone c.label h
    none_here = same_run.0

    pub run_record : (given : World) → given ≡ new.world → record_of c.label (reading c.source) given h ≡ record_at new.world (entry_at new at)
    run_record given same = ap (λ g. record_of c.label (reading c.source) g h) same ∙ same_run.1 ∙ ap (λ (x : Cell). record_of x.label (reading x.source) new.world (session_before new at)) (sym entry_is)

    abbrev now : Record
    now = record_at new.world (entry_at new at)

    run_after : (given : World) → given ≡ new.world → session_after (cell c.label (reading c.source) given h) ≡ did_by (Some now) h
    run_after given same = effects_are_all c.label (reading c.source) h given none_here ∙ ap (λ (q : Record). did_by (Some q) h) (run_record given same)

    next : StillHolds now h new.world × IsAlike (did_by (Some now) h) (session_before new (at + 1)) × IsOnce (did_by (Some now) h).names
    next = next_alike new at less distinct_now h now_here here.once

    -- behind the new cell
    pub came_at : (e f : Change) (q : Record) (after : Session) (given : World) → ((k : Key) → e k ≡ None) → given ≡ new.world → q ≡ record_of c.label (reading c.source) given h → after ≡ session_after (cell c.label (reading c.source) given h)
        → Comes e f q after → IsAt old new at (at + 1) f after at
    came_at e f q after given none same is then comes =
        let q_is : q ≡ now = is ∙ run_record given same in
        let then' : after ≡ did_by (Some now) h = then ∙ run_after given same in
        let then_alike : IsAlike after (session_before new (at + 1)) = subst (λ u. IsAlike u (session_before new (at + 1))) (sym then') next.1 in
        let s : Session = session_before old at in
        record {
          over = over_alike f s after s (session_before new (at + 1)) old.world new.world
              (subst (λ q. Comes e f q after) q_is comes s h old.world new.world nothing_yet (run_over now (session_before new at) h new.world new.world (runs_over new at less distinct_now) next.0) then')
              (alike_self s s refl) (alike_turned after (session_before new (at + 1)) then_alike);
          hand = record {
            behind = omega arith;
            enough = omega arith;
            session = subst (λ n. IsAlike after (session_before new n)) (stays at) then_alike;
            once = subst (λ u. IsOnce u.names) (sym then') next.2;
            kept = λ n lt. absurd (omega arith);
          };
        }
      where
        stays : (at : ℕ) → at + 1 ≡ at + 1 - (at - at)
        stays at = omega arith

        none_some : (f : Found) → None ≡ Some f → ⊥
        none_some f e = cc

        nothing_yet : IsOver e (session_before old at) old.world h new.world
        nothing_yet = over_alike e (session_before old at) (session_before old at) (session_before old at) h old.world new.world
            (record { now = λ k f is there. absurd (none_some f (sym (none k) ∙ is)); same = λ k out in_s in_t. refl }) (alike_self (session_before old at) (session_before old at) refl) here.alike

    -- the session there
    pub stands_behind : (after : Session) (given : World) → given ≡ new.world → after ≡ session_after (cell c.label (reading c.source) given h) → StandsBefore new (at + 1) after
    stands_behind after given same then =
        let done : after ≡ did_by (Some now) h = then ∙ run_after given same in
        record { alike = subst (λ u. IsAlike u (session_before new (at + 1))) (sym done) next.1; once = subst (λ u. IsOnce u.names) (sym done) next.2 }

  fails : (t : Session) → IfSome (kept_of old (entry_at new at).cell) (λ r. ¬ StillHolds r t new.world)
  fails t = subst (λ o. IfSome o (λ r. ¬ StillHolds r t new.world)) (sym (ap (kept_of old) (entry_is ∙ is_cell) ∙ kept_new old (record { label = fresh_label s.cells; source = c.source }) (fresh s.cells))) tt

  pub stale_at : IsStale old new (entry_at new at)
  stale_at = stale_there old new at less d distinct_now (fails (session_before new at))

  pub first_counts : (before after : ℕ) → after ≡ min (before + 1) (2 ^ 64 - 1) → CountsFront old new (at + 1) before after
  first_counts before after more = counts_run old new at before before after less d distinct_now (fails (session_before new at)) (none_yet old new at before) more

  pub frame_behind : (cs : List Cell) (rs : List Record) (given : World) (n : ℕ) → s.cells ≡ cs → rs ≡ records_of old → new.world ≡ given → n ≡ length s.cells → IsFrame old new at (at + 1) n cs rs given
  frame_behind cs rs given n cells records world whole = record {
    cells = cells;
    run = record { records = records; distinct = d };
    order = omega arith;
    beside = record {
      within = omega arith;
      fits = omega (arith, many);
      same = λ n less. let e : at + n + 1 ≡ at + 1 + n = omega arith in
          sym (ap (λ k. get_or (insert s.cells at c) k no_cell) (sym e) ∙ get_or-insert_above s.cells at c no_cell (at + n) (omega arith) le);
      distinct = distinct_now;
    };
    world = world;
  }

  length-records : (b : Book) → length (records_of b) ≡ length b.cells
  length-records b = length-map (entries_of b) (record_at b.world) ∙ length-entries b.cells b.world no_session

  module _ (cs : Changes) (rs ss : List Record) (x : Record) (all : rs ≡ records_of old) (changes : AreChanged old new at (at + 1) (length s.cells) cs) (long : length ss ≡ length rs)
      (put : (k : ℕ) (r : Record) → get_or ss k r ≡ changed cs k (get_or rs k r)) (x_is : x ≡ record_at new.world (entry_at new at)) where
    y : Record
    y = record_at new.world (entry_at new 0)

    pub whole : length ss ≡ length s.cells
    whole = long ∙ ap length all ∙ length-records old

    same_length : length (insert ss at x) ≡ length (records_of new)
    same_length = let e : length (insert ss at x) ≡ length ss + 1 = length-insert ss at x (omega (arith, whole)) in omega (arith, whole, many, length-records new)

    behind : (m : ℕ) → at ≤ m → m < length s.cells → get_or (insert ss at x) (m + 1) y ≡ get_or (records_of new) (m + 1) y
    behind m past lt =
        let e : at + (m - at) ≡ m = omega arith in let f : at + 1 + (m - at) ≡ m + 1 = omega arith in
        get_or-insert_above ss at x y m past (omega (arith, whole)) ∙ put m y ∙ ap (changed cs m) (ap (λ rs. get_or rs m y) all ∙ get_or-records_of old m y lt)
        ∙ ap (λ k. changed cs k (record_at old.world (entry_at old k))) (sym e) ∙ changes.now (m - at) (omega arith) ∙ ap (λ k. record_at new.world (entry_at new k)) f ∙ sym (get_or-records_of new (m + 1) y (omega (arith, many)))

    each : (k : ℕ) → (k < at) ⊎ (at ≤ k) → (at < k) ⊎ (k ≤ at) → k < length new.cells → get_or (insert ss at x) k y ≡ get_or (records_of new) k y
    each k (inl front_of) later lt =
        get_or-insert_below ss at x y k front_of (omega (arith, whole)) ∙ put k y ∙ changes.before k (get_or rs k y) front_of ∙ ap (λ rs. get_or rs k y) all ∙ sym (get_or-take at (records_of old) k y front_of) ∙ ap (λ rs. get_or rs k y) front.0
        ∙ get_or-take at (records_of new) k y front_of
    each k (inr past) (inl more) lt = let e : k - 1 + 1 ≡ k = omega arith in
        ap (λ m. get_or (insert ss at x) m y) (sym e) ∙ behind (k - 1) (omega arith) (omega (arith, many)) ∙ ap (λ m. get_or (records_of new) m y) e
    each k (inr past) (inr same) lt = let e : k ≡ at = omega arith in
        ap (λ m. get_or (insert ss at x) m y) e ∙ get_or-insert_at ss at x y (omega (arith, whole)) ∙ x_is ∙ sym (get_or-records_of new at y less) ∙ ap (λ m. get_or (records_of new) m y) (sym e)

    pub records_with : insert ss at x ≡ records_of new
    records_with = ext_get_or y (insert ss at x) (records_of new) same_length (λ k lt. each k (cases_lt k at) (cases_lt at k) (omega (arith, same_length, length-records new)))

    module _ {W : Type 0} (covers : W → Key → Bool) (vs : List W) (w : W) (as_many : length vs ≡ length ss) (words : AreWords covers vs ss) (word : IsWordOf covers w x) where
      word_at : (k : ℕ) (u : W) (r : Record) → (k < at) ⊎ (at ≤ k) → (at < k) ⊎ (k ≤ at) → k < length (insert ss at x) → IsWordOf covers (get_or (insert vs at w) k u) (get_or (insert ss at x) k r)
      word_at k u r (inl front_of) later lt =
          subst (λ v. IsWordOf covers v (get_or (insert ss at x) k r)) (sym (get_or-insert_below vs at w u k front_of (omega (arith, whole, as_many))))
          (subst (IsWordOf covers (get_or vs k u)) (sym (get_or-insert_below ss at x r k front_of (omega (arith, whole)))) (words k u r (omega (arith, whole))))
      word_at k u r (inr past) (inl more) lt =
          let e : k - 1 + 1 ≡ k = omega arith in
          let grown : length (insert ss at x) ≡ length ss + 1 = length-insert ss at x (omega (arith, whole)) in
          let v_is : get_or (insert vs at w) k u ≡ get_or vs (k - 1) u = ap (λ m. get_or (insert vs at w) m u) (sym e) ∙ get_or-insert_above vs at w u (k - 1) (omega arith) (omega (arith, whole, as_many)) in
          let r_is : get_or (insert ss at x) k r ≡ get_or ss (k - 1) r = ap (λ m. get_or (insert ss at x) m r) (sym e) ∙ get_or-insert_above ss at x r (k - 1) (omega arith) (omega (arith, whole)) in
          subst (λ v. IsWordOf covers v (get_or (insert ss at x) k r)) (sym v_is) (subst (IsWordOf covers (get_or vs (k - 1) u)) (sym r_is) (words (k - 1) u r (omega arith)))
      word_at k u r (inr past) (inr same) lt =
          let e : k ≡ at = omega arith in
          let v_is : get_or (insert vs at w) k u ≡ w = ap (λ m. get_or (insert vs at w) m u) e ∙ get_or-insert_at vs at w u (omega (arith, whole, as_many)) in
          let r_is : get_or (insert ss at x) k r ≡ x = ap (λ m. get_or (insert ss at x) m r) e ∙ get_or-insert_at ss at x r (omega (arith, whole)) in
          subst (λ v. IsWordOf covers v (get_or (insert ss at x) k r)) (sym v_is) (subst (IsWordOf covers w) (sym r_is) word)

      pub kept_with : IsKept covers new (insert ss at x) (insert vs at w)
      kept_with = record {
        run = record { records = records_with; distinct = distinct_now };
        words = λ k u r lt. word_at k u r (cases_lt k at) (cases_lt at k) lt;
        many = length-insert vs at w (omega (arith, whole, as_many)) ∙ ap (λ n. n + 1) as_many ∙ sym (length-insert ss at x (omega (arith, whole)));
      }

-- ---- a cell that comes in behind the last one

pub kept_last : {W : Type 0} (covers : W → Key → Bool) (u s t : Sheet) (n : ℕ) (c : Cell) (rs ss : List Record) (ws vs : List W) (x : Record) (w : W) → u ≡ s → n ≡ length s.cells → t ≡ sheet (insert s.cells (length s.cells) c) s.given → IsKept covers (book_of u) rs ws → c.label ≡ fresh_label s.cells
    → ss ≡ insert rs n x → vs ≡ insert ws n w → x ≡ record_at (book_of s).world (entry_at (book_of (sheet (insert s.cells (length s.cells) c) s.given)) (length s.cells)) → IsWordOf covers w x → IsKept covers (book_of t) ss vs
kept_last covers u s t n c rs ss ws vs x w view n_is t_is before label records words made word =
    let kept : IsKept covers (book_of s) rs ws = subst (λ (u : Sheet). IsKept covers (book_of u) rs ws) view before in
    let le : length s.cells ≤ length s.cells = omega arith in
    let b : Book = book_of (sheet (insert s.cells (length s.cells) c) s.given) in
    subst (λ (t : Sheet). IsKept covers (book_of t) ss vs) (sym t_is)
    (subst (λ ss. IsKept covers b ss vs) (sym (records ∙ ap (λ n. insert rs n x) n_is))
    (subst (λ vs. IsKept covers b (insert rs (length s.cells) x) vs) (sym (words ∙ ap (λ n. insert ws n w) n_is))
    (kept_with s (length s.cells) c le kept.run.distinct label [] rs rs x kept.run.records (changed_none (book_of s) b (length s.cells) (length s.cells + 1)) refl (λ k r. refl) made covers ws w kept.many kept.words word)))

pub snapshots_last : {X : Type 0} (place : X → ℕ) (session : X → Session) (pending : X → List Change) (u s t : Sheet) (c : Cell) → u ≡ s → t ≡ sheet (insert s.cells (length s.cells) c) s.given → AreDistinct (labels_of u.cells) → c.label ≡ fresh_label s.cells
    → (xs : List X) → All (λ x. IsSnapshot (book_of u) (place x) (session x) (pending x)) xs → All (λ x. IsSnapshot (book_of t) (place x) (session x) (pending x)) xs
snapshots_last {X} place session pending u s t c view t_is d label xs all =
    let P : Sheet → X → Type 0 = λ u x. IsSnapshot (book_of u) (place x) (session x) (pending x) in
    let le : length s.cells ≤ length s.cells = omega arith in
    let behind : IsBehind (book_of s) (book_of (sheet (insert s.cells (length s.cells) c) s.given)) (length s.cells) = is_behind s (length s.cells) c le (subst (λ (u : Sheet). AreDistinct (labels_of u.cells)) view d) label in
    subst (λ t. All (P t) xs) (sym t_is)
    (kept_lists (P s) (P (sheet (insert s.cells (length s.cells) c) s.given)) xs xs refl (λ x one. kept_in_front (book_of s) (book_of (sheet (insert s.cells (length s.cells) c) s.given)) (length s.cells) (place x) (session x) (pending x) behind one.within one)
    (subst (λ u. All (P u) xs) view all))

pub stands_last : (s t : Sheet) (c : Cell) (n : ℕ) (h : Session) → t ≡ sheet (insert s.cells (length s.cells) c) s.given → n ≡ length t.cells → StandsBefore (book_of (sheet (insert s.cells (length s.cells) c) s.given)) (length s.cells + 1) h → StandsBefore (book_of t) n h
stands_last s t c n h t_is n_is stands =
    let le : length s.cells ≤ length s.cells = omega arith in
    let long : n ≡ length s.cells + 1 = n_is ∙ ap (λ (t : Sheet). length t.cells) t_is ∙ length-insert s.cells (length s.cells) c le in
    subst (λ (t : Sheet). StandsBefore (book_of t) n h) (sym t_is) (subst (λ n. StandsBefore (book_of (sheet (insert s.cells (length s.cells) c) s.given)) n h) (sym long) stands)
