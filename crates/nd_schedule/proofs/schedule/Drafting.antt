-- What a draft keeps under edits: its labels are distinct, each cell has its hint, and all numbers below one are labels.
use Rattle.std.proofs.Common.{◌≡◌, ℕ, ◌<◌, ◌≤◌, ◌||◌, eqb, List, [], ◌∷◌, length, length-set, get_or, set, refl, sym, ap, ap₂, subst, ◌∙◌, arith, Global}
use Rattle.std.specs.Prelude.{IsTrue, insert, remove}
use Rattle.std.specs.List.{AllZip}
use Rattle.std.specs.declared.rc.Rc.{Rc}
use Rattle.std.proofs.lemmas.List.{length-map}
use Rattle.std.proofs.lemmas.List.Edits.{length-insert, length-remove}
use Rattle.nd_model.specs.Book.Renaming.{AreDistinct}
use Rattle.nd_model.specs.Book.Book.{Cell, Change, Insert, Move, Remove, edited_cells, fresh_label, is_label, labels_of, no_cell}
use Rattle.nd_model.proofs.EditKept.{map-insert, map-remove}
use Rattle.nd_model.proofs.EditLabels.{change_distinct, insert_distinct, move_distinct, remove_distinct}
use Rattle.nd_schedule.specs.declared.cells.source.KeptCell.{KeptCell}
use Rattle.nd_schedule.specs.Cells.Labels.{AreUsed}
use Rattle.nd_schedule.specs.Cells.Source.{cell_of, cells_of}
use Rattle.nd_schedule.proofs.cells.Used.{used_insert, used_moved, used_remove, used_set}
use Rattle.nd_schedule.proofs.schedule.Editing.{cells_now}
use Rattle.nd_schedule.proofs.schedule.Turning.{turned_map}

abbrev pub Kept : Type 0
Kept = Rc KeptCell Global

abbrev pub IsDraft : {X : Type 0} → List Kept → List X → ℕ → Type 0
IsDraft xs hs least = AreDistinct (labels_of (cells_of xs)) × (length hs ≡ length xs) × AreUsed least (cells_of xs)

-- the same, where the cells are those of an edit
drafted : {X : Type 0} (xs : List Kept) (hs : List X) (least : ℕ) (cs : List Cell) → cells_of xs ≡ cs → AreDistinct (labels_of cs) → length hs ≡ length xs → AreUsed least cs → IsDraft xs hs least
drafted xs hs least cs is distinct many used = (subst (λ cs. AreDistinct (labels_of cs)) (sym is) distinct, many, subst (AreUsed least) (sym is) used)

-- a value that moves leaves as many
turned_long : {X : Type 0} (xs ys : List X) (from to : ℕ) → from < length xs → to < length xs → ((x : X) → ys ≡ insert (remove xs from) to (get_or xs from x)) → length ys ≡ length xs
turned_long [] ys from to from_lt to_lt turns = absurd (omega arith)
turned_long (x ∷ xs) ys from to from_lt to_lt turns =
    let shorter = length-remove (x ∷ xs) from from_lt in
    let longer = length-insert (remove (x ∷ xs) from) to (get_or (x ∷ xs) from x) (omega (arith, shorter, to_lt)) in
    ap length (turns x) ∙ longer ∙ shorter

-- copies stand for the same cells
pub copied : (xs ys : List Kept) → AllZip (λ x y. y.value ≡ x.value) xs ys → cells_of ys ≡ cells_of xs
copied [] [] h = refl
copied [] (y ∷ ys) h = absurd h
copied (x ∷ xs) [] h = absurd h
copied (x ∷ xs) (y ∷ ys) h = ap₂ (λ (c : Cell) (cs : List Cell). c ∷ cs) (ap cell_of h.0) (copied xs ys h.1)

module _ (xs : List Kept) where
  pub long : length (cells_of xs) ≡ length xs
  long = length-map xs (λ x. cell_of x.value)

  pub cells_inserted : (at : ℕ) (x : Kept) (text : List ℕ) → cell_of x.value ≡ record { label = fresh_label (cells_of xs); source = text } → cells_of (insert xs at x) ≡ edited_cells (Insert at text) (cells_of xs)
  cells_inserted at x text is = map-insert (λ x. cell_of x.value) xs at x ∙ ap (insert (cells_of xs) at) is

  pub cells_changed : (at : ℕ) (x : Kept) (text : List ℕ) → cell_of x.value ≡ record { label = (get_or (cells_of xs) at no_cell).label; source = text } → cells_of (set xs at x) ≡ edited_cells (Change at text) (cells_of xs)
  cells_changed at x text is = cells_now xs (cells_of xs) at x _ refl is

  pub cells_without : (at : ℕ) → cells_of (remove xs at) ≡ edited_cells (Remove at) (cells_of xs)
  cells_without at = map-remove (λ x. cell_of x.value) xs at

  pub cells_moved : (ys : List Kept) (from to : ℕ) → from < length xs → ((x : Kept) → ys ≡ insert (remove xs from) to (get_or xs from x)) → cells_of ys ≡ edited_cells (Move from to) (cells_of xs)
  cells_moved ys from to lt turns = turned_map (λ x. cell_of x.value) xs ys from to no_cell lt turns

  module _ {X : Type 0} (hs : List X) (least : ℕ) (d : IsDraft xs hs least) where
    pub inserted : (at : ℕ) (x : Kept) (h : X) (text : List ℕ) (next : ℕ) → at ≤ length xs → cell_of x.value ≡ record { label = fresh_label (cells_of xs); source = text }
        → ((n : ℕ) → n < next → IsTrue (is_label n (cells_of xs) || eqb n (fresh_label (cells_of xs)))) → IsDraft (insert xs at x) (insert hs at h) next
    inserted at x h text next le is all =
        drafted (insert xs at x) (insert hs at h) next _ (cells_inserted at x text is) (insert_distinct (cells_of xs) at text d.0)
        (let cells = length-insert xs at x le in let hints = length-insert hs at h (omega (arith, le, d.1)) in omega (arith, cells, hints, d.1))
        (used_insert next (cells_of xs) at _ all)

    pub changed : (at : ℕ) (x : Kept) (text : List ℕ) → cell_of x.value ≡ record { label = (get_or (cells_of xs) at no_cell).label; source = text } → IsDraft (set xs at x) hs least
    changed at x text is =
        drafted (set xs at x) hs least _ (cells_changed at x text is) (change_distinct (cells_of xs) at text d.0) (d.1 ∙ sym (length-set xs at x)) (used_set least (cells_of xs) at _ refl d.2)

    pub without : (at now : ℕ) → at < length xs → now ≤ least → now ≤ (get_or (cells_of xs) at no_cell).label → IsDraft (remove xs at) (remove hs at) now
    without at now lt low below =
        drafted (remove xs at) (remove hs at) now _ (cells_without at) (remove_distinct (cells_of xs) at d.0)
        (let cells = length-remove xs at lt in let hints = length-remove hs at (omega (arith, lt, d.1)) in omega (arith, cells, hints, d.1))
        (used_remove least now (cells_of xs) at low below d.2)

    pub moved : (ys : List Kept) (gs : List X) (from to : ℕ) → from < length xs → to < length xs → ((x : Kept) → ys ≡ insert (remove xs from) to (get_or xs from x)) → ((x : X) → gs ≡ insert (remove hs from) to (get_or hs from x)) → IsDraft ys gs least
    moved ys gs from to from_lt to_lt turns turned =
        drafted ys gs least _ (cells_moved ys from to from_lt turns) (move_distinct (cells_of xs) from to d.0 (omega (arith, from_lt, long)))
        (turned_long hs gs from to (omega (arith, from_lt, d.1)) (omega (arith, to_lt, d.1)) turned ∙ d.1 ∙ sym (turned_long xs ys from to from_lt to_lt turns))
        (used_moved least (cells_of xs) from to d.2)
