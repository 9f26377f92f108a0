-- The cells that each edit runs.
use Rattle.std.proofs.Common.{◌≡◌, ℕ, false, ◌+◌, ◌-◌, ◌<◌, ◌≤◌, List, [], ◌∷◌, ◌++◌, length, map, take, get_or, set, Option, refl, sym, ap, subst, ◌∙◌, arith}
use Rattle.std.specs.Prelude.{MatchOption, bytes_eq, insert, remove}
use Rattle.nd_model.specs.Book.Records.{Record}
use Rattle.nd_model.specs.Book.Renaming.{AreDistinct}
use Rattle.nd_model.specs.Cells.Running.{World}
use Rattle.nd_model.specs.Book.Book.{Book, Cell, no_cell, labels_of, fresh_label}
use Rattle.nd_model.specs.Book.Entries.{entry_at}
use Rattle.nd_model.specs.Book.Notebook.{Setting, Sheet, book_of}
use Rattle.nd_model.specs.Book.Stale.{IsStale}
use Rattle.nd_model.proofs.EditKept.{front_move, front_remove}
use Rattle.nd_schedule.specs.Cells.Source.{sheet}
use Rattle.nd_schedule.specs.Schedule.Ran.{AreStale, AreStaleIn, place_made, shifted}
use Rattle.nd_schedule.specs.declared.schedule.ran.Shift.TheVariants as shifts
use Rattle.nd_schedule.specs.Schedule.Sweep.{AreChanged, AreMoved, IsMoving, places_in}
use Rattle.nd_schedule.proofs.schedule.Stretches.{stale_append, stale_changed, stale_front, stale_made, stale_one}
use Rattle.nd_schedule.proofs.schedule.Editing
use Rattle.nd_schedule.proofs.schedule.Inserting
use Rattle.nd_schedule.proofs.schedule.Removing
use Rattle.nd_schedule.proofs.schedule.Turning

-- the places now of a list of changes
pub shifted_in : {X : Type 0} (f : ℕ → ℕ) (view : X → ℕ × Record) (xs : List X) → map (λ x. f (view x).0) xs ≡ map f (places_in (map view xs))
shifted_in f view [] = refl
shifted_in f view (x ∷ xs) = ap (λ ps. f (view x).0 ∷ ps) (shifted_in f view xs)

-- where nothing is edited nothing is stale
pub ran_nothing : (b : Book) → AreDistinct (labels_of b.cells) → AreStale b b []
ran_nothing b d = stale_front b b (length b.cells) d refl (omega arith) refl

-- behind the last cell none is changed
pub no_changes : {X : Type 0} (view : X → ℕ × Record) (old new : Book) (i j to : ℕ) (xs : List X) → to ≤ i → AreChanged old new i j to (map view xs) → xs ≡ []
no_changes view old new i j to [] le all = refl
no_changes view old new i j to (x ∷ xs) le all = absurd (omega (arith, (all.rising).0, (all.rising).1))

module _ {X : Type 0} (view : X → ℕ × Record) (xs : List X) where
  pub ran_edited : (s : Sheet) (at : ℕ) (c : Cell) (lt : at < length s.cells) (d : AreDistinct (labels_of s.cells)) (label : c.label ≡ (get_or s.cells at no_cell).label) (other : bytes_eq c.source (get_or s.cells at no_cell).source ≡ false)
      → AreChanged (book_of s) (book_of (sheet (set s.cells at c) s.given)) at at (length s.cells) (map view xs) → AreStale (book_of s) (book_of (sheet (set s.cells at c) s.given)) (map (λ x. shifted shifts.Stays (view x).0) xs)
  ran_edited s at c lt d label other all =
      let old : Book = book_of s in
      let new : Book = book_of (sheet (set s.cells at c) s.given) in
      let high : at + (length s.cells - at) ≡ length new.cells = omega (arith, Editing.many s at c lt d label other) in
      subst (λ n. AreStaleIn old new 0 n (map (λ x. shifted shifts.Stays (view x).0) xs)) high
      (stale_append old new 0 at (at + (length s.cells - at)) [] _ (omega arith) (omega arith)
      (stale_front old new at d refl (omega arith) (Editing.take_set s at c lt d label other s.cells at))
      (stale_changed old new at at (length s.cells) (omega arith) (shifted shifts.Stays) (λ n less. refl) (map view xs) _ (shifted_in (shifted shifts.Stays) view xs) all))

  pub ran_over : (s : Sheet) (given : Setting) → AreChanged (book_of s) (book_of (sheet s.cells given)) 0 0 (length s.cells) (map view xs) → AreStale (book_of s) (book_of (sheet s.cells given)) (map (λ x. shifted shifts.Stays (view x).0) xs)
  ran_over s given all =
      let high : 0 + (length s.cells - 0) ≡ length s.cells = omega arith in
      subst (λ n. AreStaleIn (book_of s) (book_of (sheet s.cells given)) 0 n (map (λ x. shifted shifts.Stays (view x).0) xs)) high
      (stale_changed (book_of s) (book_of (sheet s.cells given)) 0 0 (length s.cells) (omega arith) (shifted shifts.Stays) (λ n less. refl) (map view xs) _ (shifted_in (shifted shifts.Stays) view xs) all)

  pub ran_removed : (s : Sheet) (at : ℕ) (lt : at < length s.cells) (d : AreDistinct (labels_of s.cells))
      → AreChanged (book_of s) (book_of (sheet (remove s.cells at) s.given)) (at + 1) at (length s.cells) (map view xs) → AreStale (book_of s) (book_of (sheet (remove s.cells at) s.given)) (map (λ x. shifted shifts.Earlier (view x).0) xs)
  ran_removed s at lt d all =
      let old : Book = book_of s in
      let new : Book = book_of (sheet (remove s.cells at) s.given) in
      let high : at + (length s.cells - (at + 1)) ≡ length new.cells = omega (arith, Removing.many s at lt d) in
      subst (λ n. AreStaleIn old new 0 n (map (λ x. shifted shifts.Earlier (view x).0) xs)) high
      (stale_append old new 0 at (at + (length s.cells - (at + 1))) [] _ (omega arith) (omega arith)
      (stale_front old new at d refl (omega arith) (front_remove s.cells at))
      (stale_changed old new (at + 1) at (length s.cells) (omega arith) (shifted shifts.Earlier) (λ n less. omega arith) (map view xs) _ (shifted_in (shifted shifts.Earlier) view xs) all))

  pub ran_inserted : (s : Sheet) (at : ℕ) (c : Cell) (le : at ≤ length s.cells) (d : AreDistinct (labels_of s.cells)) (label : c.label ≡ fresh_label s.cells)
      → AreChanged (book_of s) (book_of (sheet (insert s.cells at c) s.given)) at (at + 1) (length s.cells) (map view xs)
      → AreStale (book_of s) (book_of (sheet (insert s.cells at c) s.given)) ((at ∷ []) ++ map (λ x. shifted shifts.Later (view x).0) xs)
  ran_inserted s at c le d label all =
      let old : Book = book_of s in
      let new : Book = book_of (sheet (insert s.cells at c) s.given) in
      let high : at + 1 + (length s.cells - at) ≡ length new.cells = omega (arith, Inserting.many s at c le d label) in
      subst (λ n. AreStaleIn old new 0 n ((at ∷ []) ++ map (λ x. shifted shifts.Later (view x).0) xs)) high
      (stale_append old new 0 at (at + 1 + (length s.cells - at)) [] _ (omega arith) (omega arith)
      (stale_front old new at d refl (omega arith) (Inserting.same_cells s at c le d label))
      (stale_append old new at (at + 1) (at + 1 + (length s.cells - at)) (at ∷ []) _ (omega arith) (omega arith)
      (stale_one old new at (at + 1) refl (Inserting.stale_at s at c le d label))
      (stale_changed old new at (at + 1) (length s.cells) le (shifted shifts.Later) (λ n less. omega arith) (map view xs) _ (shifted_in (shifted shifts.Later) view xs) all)))

pub ran_appended : (s : Sheet) (c : Cell) (d : AreDistinct (labels_of s.cells)) (label : c.label ≡ fresh_label s.cells) → AreStale (book_of s) (book_of (sheet (insert s.cells (length s.cells) c) s.given)) (length s.cells ∷ [])
ran_appended s c d label =
    let at : ℕ = length s.cells in
    let old : Book = book_of s in
    let new : Book = book_of (sheet (insert s.cells (length s.cells) c) s.given) in
    let high : length s.cells + 1 ≡ length new.cells = omega (arith, Inserting.many s (length s.cells) c (omega arith) d label) in
    subst (λ n. AreStaleIn old new 0 n (length s.cells ∷ [])) high
    (stale_append old new 0 (length s.cells) (length s.cells + 1) [] (length s.cells ∷ []) (omega arith) (omega arith)
    (stale_front old new (length s.cells) d refl (omega arith) (Inserting.same_cells s (length s.cells) c (omega arith) d label))
    (stale_one old new (length s.cells) (length s.cells + 1) refl (Inserting.stale_at s (length s.cells) c (omega arith) d label)))

-- a cell that moves
module _ {X Y : Type 0} (view : X → ℕ × Record) (xs ys : List X) (made : Option Y) (old new : Book) (from to : ℕ) (cs : List Cell) (rs : List Record) (given : World) (m : IsMoving old new from to cs rs given)
    (moved : AreMoved old new from to (map view xs) (map view ys)) (is_stale : MatchOption made (¬ IsStale old new (entry_at new to)) (λ _. IsStale old new (entry_at new to))) where
  front : (at : ℕ) → at ≤ from → at ≤ to → AreStaleIn old new 0 at []
  front at a b = stale_front old new at m.run.distinct (m.before ∙ sym m.world) (omega (arith, m.stood)) (front_move old.cells from to at a b m.stood m.goes ∙ ap (take at) (sym m.now))

  pub ran_down : from < to → AreStale old new ((([] ++ map (λ x. shifted shifts.Earlier (view x).0) xs) ++ place_made made to) ++ map (λ x. shifted shifts.Stays (view x).0) ys)
  ran_down down =
      let many : length new.cells ≡ length old.cells = Turning.many old new from to cs rs given m in
      let mid : from + (to + 1 - (from + 1)) ≡ to = omega arith in
      let high : to + 1 + (length old.cells - (to + 1)) ≡ length new.cells = omega (arith, many, m.goes) in
      stale_append old new 0 (to + 1) (length new.cells) _ _ (omega arith) (omega (arith, many, m.goes))
      (stale_append old new 0 to (to + 1) _ _ (omega arith) (omega arith)
      (stale_append old new 0 from to [] _ (omega arith) (omega arith) (front from (omega arith) (omega arith))
      (subst (λ n. AreStaleIn old new from n (map (λ x. shifted shifts.Earlier (view x).0) xs)) mid
      (stale_changed old new (from + 1) from (to + 1) (omega arith) (shifted shifts.Earlier) (λ n less. omega arith) (map view xs) _ (shifted_in (shifted shifts.Earlier) view xs) (moved.between_down down))))
      (stale_made old new made to (to + 1) refl is_stale))
      (subst (λ n. AreStaleIn old new (to + 1) n (map (λ x. shifted shifts.Stays (view x).0) ys)) high
      (stale_changed old new (to + 1) (to + 1) (length old.cells) (omega (arith, m.goes)) (shifted shifts.Stays) (λ n less. refl) (map view ys) _ (shifted_in (shifted shifts.Stays) view ys) (moved.behind_down down)))

  pub ran_up : to < from → AreStale old new ((([] ++ place_made made to) ++ map (λ x. shifted shifts.Later (view x).0) xs) ++ map (λ x. shifted shifts.Stays (view x).0) ys)
  ran_up up =
      let many : length new.cells ≡ length old.cells = Turning.many old new from to cs rs given m in
      let mid : to + 1 + (from - to) ≡ from + 1 = omega arith in
      let high : from + 1 + (length old.cells - (from + 1)) ≡ length new.cells = omega (arith, many, m.stood) in
      stale_append old new 0 (from + 1) (length new.cells) _ _ (omega arith) (omega (arith, many, m.stood))
      (stale_append old new 0 (to + 1) (from + 1) _ _ (omega arith) (omega arith)
      (stale_append old new 0 to (to + 1) [] _ (omega arith) (omega arith) (front to (omega arith) (omega arith)) (stale_made old new made to (to + 1) refl is_stale))
      (subst (λ n. AreStaleIn old new (to + 1) n (map (λ x. shifted shifts.Later (view x).0) xs)) mid
      (stale_changed old new to (to + 1) from (omega arith) (shifted shifts.Later) (λ n less. omega arith) (map view xs) _ (shifted_in (shifted shifts.Later) view xs) (moved.between_up up))))
      (subst (λ n. AreStaleIn old new (from + 1) n (map (λ x. shifted shifts.Stays (view x).0) ys)) high
      (stale_changed old new (from + 1) (from + 1) (length old.cells) (omega (arith, m.stood)) (shifted shifts.Stays) (λ n less. refl) (map view ys) _ (shifted_in (shifted shifts.Stays) view ys) (moved.behind_up up)))
