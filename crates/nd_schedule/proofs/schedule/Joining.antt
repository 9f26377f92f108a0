-- The records of a merge, one cell after the other.
use Rattle.std.proofs.Common.{◌≡◌, ℕ, suc, ◌+◌, ◌<◌, ◌≤◌, ◌⊎◌, Bool, true, false, List, [], ◌∷◌, ◌++◌, length, map, take, get_or, refl, sym, ap, subst, ◌∙◌, inl, inr, arith, length-append, length-take-le}
use Rattle.std.specs.Prelude.{Contains}
use Rattle.std.proofs.lemmas.Bool.{cases_lt}
use Rattle.std.proofs.lemmas.List.{get_or_append_left, get_or_at, length-map, map-append, take_all}
use Rattle.std.proofs.Math.Seq.{take-suc}
use Rattle.nd_model.specs.Cells.Session.{Session, no_session}
use Rattle.nd_model.specs.Cells.Running.{Key, World}
use Rattle.nd_model.specs.Book.Records.{Record}
use Rattle.nd_model.specs.Book.Renaming.{AreDistinct}
use Rattle.nd_model.specs.Book.Book.{Book, Cell, no_cell, labels_of}
use Rattle.nd_model.specs.Book.Entries.{entries_of, record_at, records_of, session_before}
use Rattle.nd_model.proofs.Entries.{get_or-records_of}
use Rattle.nd_model.proofs.Lazy.{length-entries, same_front}
use Rattle.nd_model.specs.Book.Sessions.{IsOnce}
use Rattle.nd_change.specs.Change.{Change, IsOver}
use Rattle.nd_change.specs.Steps.{IsWordOf}
use Rattle.nd_schedule.specs.Schedule.Merge.{AreMerged, IsFront, IsMerge, IsNext, IsPlaced}
use Rattle.nd_schedule.specs.Schedule.Ran.{AreStaleIn}
use Rattle.nd_schedule.specs.Schedule.Snapshot.{IsBehind}
use Rattle.nd_schedule.specs.Schedule.Sweep.{IsAt, IsKept, IsPlace}
use Rattle.nd_schedule.proofs.schedule.Stretches.{stale_append, stale_front, stale_none, stale_one}
use Rattle.nd_schedule.proofs.schedule.Sweeping.{alike_self}
use Rattle.nd_schedule.proofs.schedule.Turning.{same_in_front}

nothing_behind : (ps : List ℕ) → ps ++ [] ≡ ps
nothing_behind [] = refl
nothing_behind (p ∷ ps) = ap (λ qs. p ∷ qs) (nothing_behind ps)

pub length-records : (b : Book) → length (records_of b) ≡ length b.cells
length-records b = length-map (entries_of b) (record_at b.world) ∙ length-entries b.cells b.world no_session

-- the places to which a merge has come
pub place_of : (old new : Book) (cs ds : List Cell) (rs : List Record) (given : World) → IsMerge old new cs ds rs given → (i j : ℕ) → i ≤ length cs → j ≤ length ds → IsPlace old new i j
place_of old new cs ds rs given merge i j le le' = record { before = omega (arith, le, ap length merge.cells); now = omega (arith, le', ap length merge.now); distinct = merge.distinct }

-- the cell that comes next in a merge
pub next_of : (old new : Book) (cs ds : List Cell) (rs : List Record) (given : World) → IsMerge old new cs ds rs given → (i j : ℕ) → i ≤ length cs → j < length ds → (c : Cell) → c ≡ get_or ds j no_cell → IsNext old new i j rs c given
next_of old new cs ds rs given merge i j le lt c is = record {
  run = merge.run;
  place = record { before = omega (arith, le, ap length merge.cells); now = omega (arith, lt, ap length merge.now); distinct = merge.distinct };
  there = omega (arith, lt, ap length merge.now);
  cell = ap (λ cs. get_or cs j no_cell) merge.now ∙ sym is;
  world = merge.world;
}

module _ {X W : Type 0} (covers : W → Key → Bool) (view : X → Record) (old new : Book) (j : ℕ) (lt : j < length new.cells) (rs ss : List X) (ws vs : List W) (x : X) (w : W) (grown : ss ≡ rs ++ x ∷ []) (worded : vs ≡ ws ++ w ∷ [])
    (word : IsWordOf covers w (view x)) (b : Bool) (placed : IsPlaced old new j (view x) b) (ran : List ℕ) (all : AreMerged covers old new j (map view rs) ws ran) where
  long : length (map view rs) ≡ j
  long = ap length all.records ∙ length-take-le j (records_of new) (omega (arith, lt, length-records new))

  mapped : map view ss ≡ map view rs ++ view x ∷ []
  mapped = ap (map view) grown ∙ map-append view rs (x ∷ [])

  many_records : length (map view ss) ≡ length (map view rs) + 1
  many_records = ap length mapped ∙ length-append (map view rs) (view x ∷ [])

  many_words : length vs ≡ length ws + 1
  many_words = ap length worded ∙ length-append ws (w ∷ [])

  one_more : take (j + 1) (records_of new) ≡ take j (records_of new) ++ view x ∷ []
  one_more =
      let e : suc j ≡ j + 1 = omega arith in
      ap (λ n. take n (records_of new)) (sym e) ∙ take-suc (records_of new) j (view x) (omega (arith, lt, length-records new))
      ∙ ap (λ y. take j (records_of new) ++ y ∷ []) (get_or-records_of new j (view x) lt ∙ sym placed.made)

  each : (k : ℕ) (u : W) (r : Record) → (k < j) ⊎ (j ≤ k) → k < length (map view ss) → IsWordOf covers (get_or vs k u) (get_or (map view ss) k r)
  each k u r (inl before) less =
      let word_is : get_or vs k u ≡ get_or ws k u = ap (λ vs. get_or vs k u) worded ∙ get_or_append_left ws (w ∷ []) u k (omega (arith, before, long, all.many)) in
      let record_is : get_or (map view ss) k r ≡ get_or (map view rs) k r = ap (λ us. get_or us k r) mapped ∙ get_or_append_left (map view rs) (view x ∷ []) r k (omega (arith, before, long)) in
      subst (λ v. IsWordOf covers v (get_or (map view ss) k r)) (sym word_is) (subst (IsWordOf covers (get_or ws k u)) (sym record_is) (all.words k u r (omega (arith, before, long))))
  each k u r (inr past) less =
      let word_is : get_or vs k u ≡ w = ap (λ vs. get_or vs k u) worded ∙ get_or_at ws w [] u k (omega (arith, past, less, many_records, long, all.many)) in
      let record_is : get_or (map view ss) k r ≡ view x = ap (λ us. get_or us k r) mapped ∙ get_or_at (map view rs) (view x) [] r k (omega (arith, past, less, many_records, long)) in
      subst (λ v. IsWordOf covers v (get_or (map view ss) k r)) (sym word_is) (subst (IsWordOf covers w) (sym record_is) word)

  merged_with : (qs now : List ℕ) → now ≡ ran ++ qs → AreStaleIn old new j (j + 1) qs → AreMerged covers old new (j + 1) (map view ss) vs now
  merged_with qs now is stale = record {
    records = mapped ∙ ap (λ us. us ++ view x ∷ []) all.records ∙ sym one_more;
    words = λ k u r less. each k u r (cases_lt k j) less;
    many = omega (arith, many_words, many_records, all.many);
    stale = subst (AreStaleIn old new 0 (j + 1)) (sym is) (stale_append old new 0 j (j + 1) ran qs (omega arith) (omega arith) all.stale stale);
  }

  pub merged_run : (now : List ℕ) → b ≡ true → now ≡ ran ++ j ∷ [] → AreMerged covers old new (j + 1) (map view ss) vs now
  merged_run now run is = merged_with (j ∷ []) now is (stale_one old new j (j + 1) refl (placed.stale.0 run))

  pub merged_kept : b ≡ false → AreMerged covers old new (j + 1) (map view ss) vs ran
  merged_kept kept = merged_with [] ran (sym (nothing_behind ran)) (stale_none old new j (j + 1) (λ p above below is.
      let here : p ≡ j = omega (arith, above, below) in let run : b ≡ true = placed.stale.1 (subst (λ k. Rattle.nd_model.specs.Book.Stale.IsStale old new (Rattle.nd_model.specs.Book.Entries.entry_at new k)) here is) in absurd (false_true (sym kept ∙ run))))
    where
      false_true : false ≡ true → ⊥
      false_true e = cc

-- of no cell yet
pub merged_none : {X W : Type 0} (covers : W → Key → Bool) (view : X → Record) (old new : Book) (rs : List X) (ws : List W) (ran : List ℕ) → rs ≡ [] → ws ≡ [] → ran ≡ [] → AreMerged covers old new 0 (map view rs) ws ran
merged_none covers view old new rs ws ran no_records no_words none = record {
  records = ap (map view) no_records;
  words = λ k w r less. absurd (omega (arith, less, ap (λ rs. length (map view rs)) no_records));
  many = ap length no_words ∙ sym (ap (λ rs. length (map view rs)) no_records);
  stale = subst (AreStaleIn old new 0 0) (sym none) (stale_none old new 0 0 (λ p above below. absurd (omega (arith, below))));
}

-- one cell more in front that is the same in both
pub take_more : {X : Type 0} (xs ys : List X) (k : ℕ) (d : X) → take k xs ≡ take k ys → k < length xs → k < length ys → get_or xs k d ≡ get_or ys k d → take (k + 1) xs ≡ take (k + 1) ys
take_more xs ys k d before lt less same =
    let e : suc k ≡ k + 1 = omega arith in
    ap (λ n. take n xs) (sym e) ∙ take-suc xs k d lt ∙ ap (λ y. take k xs ++ y ∷ []) same ∙ ap (λ zs. zs ++ get_or ys k d ∷ []) before ∙ sym (take-suc ys k d less) ∙ ap (λ n. take n ys) e

-- the first cells, where they are the same
pub front_is : (old new : Book) (count : ℕ) → AreDistinct (labels_of old.cells) → old.world ≡ new.world → count ≤ length old.cells → count ≤ length new.cells → take count old.cells ≡ take count new.cells → IsFront old new count
front_is old new count d same le within cells = record {
  within = within;
  same = λ k lt. same_in_front old new count (same_front count old new same cells) k lt (omega arith) (omega arith);
  fresh = λ k lt is. let c : Contains [] k = ((stale_front old new count d same le cells).stale k (omega arith) lt).1 is in absurd (omega (arith, c.1));
}

pub front_none : (old new : Book) → IsFront old new 0
front_none old new = record { within = omega arith; same = λ k lt. absurd (omega (arith, lt)); fresh = λ k lt. absurd (omega (arith, lt)) }

-- where other inputs and another rule begin
pub begins_over : (old new : Book) (e : Change) (h : Session) → ((t : Session) → IsOver e t old.world t new.world) → h ≡ no_session → IsAt old new 0 0 e h 0
begins_over old new e h over empty = record {
  over = over no_session;
  hand = record { behind = omega arith; enough = omega arith; session = alike_self h no_session empty; once = subst (λ u. IsOnce u.names) (sym empty) tt; kept = λ n lt. absurd (omega arith) };
}

-- any edit is one behind no cell
pub behind_any : (old new : Book) → AreDistinct (labels_of old.cells) → AreDistinct (labels_of new.cells) → IsBehind old new 0
behind_any old new before distinct = record { same = (refl, first); within = omega arith; before = before; distinct = distinct }
  where
    first : (k : ℕ) → k ≤ 0 → session_before old k ≡ session_before new k
    first k le = let e : k ≡ 0 = omega arith in ap (session_before old) e ∙ sym (ap (session_before new) e)

-- what is kept of all cells, once a merge came to its end
pub kept_merged : {W : Type 0} (covers : W → Key → Bool) (old new : Book) (rs : List Record) (ws : List W) (ran : List ℕ) → AreDistinct (labels_of new.cells) → AreMerged covers old new (length new.cells) rs ws ran → IsKept covers new rs ws
kept_merged covers old new rs ws ran d all = record {
  run = record { records = all.records ∙ take_all (length new.cells) (records_of new) (omega (arith, length-records new)); distinct = d };
  words = all.words;
  many = all.many;
}

-- two lists that are the same as far as both go
pub same_whole : {X : Type 0} (xs ys : List X) (k : ℕ) → take k xs ≡ take k ys → length xs ≤ k → length ys ≤ k → xs ≡ ys
same_whole xs ys k same le le' = sym (take_all k xs le) ∙ same ∙ take_all k ys le'
