-- A sweep whose change meets none of some cells: it goes past all of them.
use Rattle.std.proofs.Common.{◌≡◌, ℕ, zero, suc, ◌+◌, ◌-◌, ◌<◌, ◌≤◌, Bool, List, length, get_or, None, ◌⊎◌, inl, inr, ap, subst, ◌∙◌, arith}
use Rattle.std.proofs.lemmas.List.{length-map}
use Rattle.nd_model.specs.Cells.Session.{Session, no_session}
use Rattle.nd_model.specs.Cells.Running.{Key, World}
use Rattle.nd_model.specs.Book.Records.{Record}
use Rattle.nd_model.specs.Book.Book.{Book, Cell}
use Rattle.nd_model.specs.Book.Entries.{entries_of, entry_at, record_at}
use Rattle.nd_model.proofs.Entries.{get_or-records_of}
use Rattle.nd_model.proofs.Lazy.{length-entries}
use Rattle.nd_change.specs.Change.{Change, IsDisjoint}
use Rattle.nd_change.specs.Steps.{IsWordOf, IsWordOfChange}
use Rattle.nd_schedule.specs.Schedule.Apart.{AreApart}
use Rattle.nd_schedule.specs.Schedule.Sweep.{AreWords, IsAt, IsFrame, IsRun, CountsFront, Changes, AreChanged}
use Rattle.nd_schedule.proofs.schedule.Sweeping.{words_apart}
use Rattle.nd_schedule.proofs.schedule.Visiting.{apart_at, apart_holds, frame_at, next_at, next_changed, next_counts, no_more, same_more}

-- a change meets none of the cells from a place up to another
abbrev pub MeetsNone : Book → Change → (from to : ℕ) → Type 0
MeetsNone old c from to = (k : ℕ) → from ≤ k → k < to → IsDisjoint c (record_at old.world (entry_at old k))

-- it has nothing in it, or their words are apart from its word
pub meets_none : {W : Type 0} (covers : W → Key → Bool) (old : Book) (rs : List Record) (ws : List W) (v : W) (c : Change) (from to : ℕ) → IsRun old rs → AreWords covers ws rs → IsWordOfChange covers v c → to ≤ length old.cells
    → ((key : Key) → c key ≡ None) ⊎ AreApart covers ws v from to → MeetsNone old c from to
meets_none covers old rs ws v c from to run words over within (inl none) k le less = record { reads = λ key read. none key; does = λ key. inr (none key) }
meets_none covers old rs ws v c from to run words over within (inr apart) k le less =
    let was : Record = record_at old.world (entry_at old k) in
    let long : length rs ≡ length old.cells = ap length run.records ∙ length-map (entries_of old) (record_at old.world) ∙ length-entries old.cells old.world no_session in
    let is : get_or rs k was ≡ was = ap (λ xs. get_or xs k was) run.records ∙ get_or-records_of old k was (omega arith) in
    words_apart covers (get_or ws k v) v c was (subst (IsWordOf covers (get_or ws k v)) is (words k v was (omega arith))) over (λ key. apart k v key le less)

module _ (old new : Book) (i j to : ℕ) (cs : List Cell) (rs : List Record) (given : World) (frame : IsFrame old new i j to cs rs given) (c : Change) (s : Session) (since : ℕ) where
  -- the frame of one cell
  frame_of : (k n : ℕ) → i ≤ k → k + suc n ≤ to → IsFrame old new (k + n) (j + (k + n - i)) (k + n + 1) cs rs given
  frame_of k n le within = frame_at old new i j to cs rs given frame (k + n) (omega arith) (omega arith)

  fewer : (k n : ℕ) → MeetsNone old c k (k + suc n) → MeetsNone old c k (k + n)
  fewer k n apart m le less = apart m le (omega arith)

  last : (k n : ℕ) → MeetsNone old c k (k + suc n) → IsDisjoint c (record_at old.world (entry_at old (k + n)))
  last k n apart = apart (k + n) (omega arith) (omega arith)

  past_at : (k n : ℕ) → MeetsNone old c k (k + n) → i ≤ k → k + n ≤ to → IsAt old new k (j + (k - i)) c s since → IsAt old new (k + n) (j + (k + n - i)) c s since
  past_at k zero apart le within at = let e : k ≡ k + 0 = omega arith in subst (λ m. IsAt old new m (j + (m - i)) c s since) e at
  past_at k (suc n) apart le within at =
      let before : IsAt old new (k + n) (j + (k + n - i)) c s since = past_at k n (fewer k n apart) le (omega arith) at in
      let e : k + n + 1 ≡ k + suc n = omega arith in
      subst (λ m. IsAt old new m (j + (m - i)) c s since) e
      (next_at old new i j (k + n) c s since (omega arith)
      (apart_at old new (k + n) (j + (k + n - i)) cs rs given (frame_of k n le within) c s since before (last k n apart)))

  past_counts : (k n before after : ℕ) → MeetsNone old c k (k + n) → i ≤ k → k + n ≤ to → IsAt old new k (j + (k - i)) c s since → CountsFront old new (j + (k - i)) before after → CountsFront old new (j + (k + n - i)) before after
  past_counts k zero before after apart le within at h = let e : k ≡ k + 0 = omega arith in subst (λ m. CountsFront old new (j + (m - i)) before after) e h
  past_counts k (suc n) before after apart le within at h =
      let e : k + n + 1 ≡ k + suc n = omega arith in
      subst (λ m. CountsFront old new (j + (m - i)) before after) e
      (next_counts old new i j (k + n) before after (omega arith)
      (no_more old new (k + n) (j + (k + n - i)) cs rs given (frame_of k n le within) c s since (past_at k n (fewer k n apart) le (omega arith) at) before after
      (past_counts k n before after (fewer k n apart) le (omega arith) at h)))

  past_changed : (k n from first : ℕ) (ds : Changes) → MeetsNone old c k (k + n) → i ≤ k → k + n ≤ to → from ≤ i → j ≡ first + (i - from) → IsAt old new k (j + (k - i)) c s since
      → AreChanged old new from first k ds → AreChanged old new from first (k + n) ds
  past_changed k zero from first ds apart le within behind is at all = let e : k ≡ k + 0 = omega arith in subst (λ m. AreChanged old new from first m ds) e all
  past_changed k (suc n) from first ds apart le within behind is at all =
      let before : IsAt old new (k + n) (j + (k + n - i)) c s since = past_at k n (fewer k n apart) le (omega arith) at in
      let here : IsFrame old new (k + n) (j + (k + n - i)) (k + n + 1) cs rs given = frame_of k n le within in
      let e : k + n + 1 ≡ k + suc n = omega arith in
      subst (λ m. AreChanged old new from first m ds) e
      (same_more old new (k + n) (j + (k + n - i)) cs rs given here c s since before from first ds (omega arith) (next_changed i j (k + n) from first behind (omega arith) is)
      (apart_holds old new (k + n) (j + (k + n - i)) cs rs given here c s since before (last k n apart))
      (past_changed k n from first ds (fewer k n apart) le (omega arith) behind is at all))

  -- up to a place
  pub skips_at : (k n : ℕ) → i ≤ k → k ≤ n → n ≤ to → MeetsNone old c k n → IsAt old new k (j + (k - i)) c s since → IsAt old new n (j + (n - i)) c s since
  skips_at k n le order within apart at =
      let e : k + (n - k) ≡ n = omega arith in
      subst (λ m. IsAt old new m (j + (m - i)) c s since) e (past_at k (n - k) (λ m behind less. apart m behind (omega arith)) le (omega arith) at)

  pub skips_counts : (k n before after : ℕ) → i ≤ k → k ≤ n → n ≤ to → MeetsNone old c k n → IsAt old new k (j + (k - i)) c s since → CountsFront old new (j + (k - i)) before after → CountsFront old new (j + (n - i)) before after
  skips_counts k n before after le order within apart at h =
      let e : k + (n - k) ≡ n = omega arith in
      subst (λ m. CountsFront old new (j + (m - i)) before after) e (past_counts k (n - k) before after (λ m behind less. apart m behind (omega arith)) le (omega arith) at h)

  pub skips_changed : (k n from first : ℕ) (ds : Changes) → i ≤ k → k ≤ n → n ≤ to → MeetsNone old c k n → from ≤ i → j ≡ first + (i - from) → IsAt old new k (j + (k - i)) c s since
      → AreChanged old new from first k ds → AreChanged old new from first n ds
  skips_changed k n from first ds le order within apart behind is at all =
      let e : k + (n - k) ≡ n = omega arith in
      subst (λ m. AreChanged old new from first m ds) e (past_changed k (n - k) from first ds (λ m behind less. apart m behind (omega arith)) le (omega arith) behind is at all)
