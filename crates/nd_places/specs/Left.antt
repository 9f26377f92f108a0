-- The places that a walk has before it.
use Rattle.std.specs.Prelude.{◌≡◌, ℕ, ◌<◌, ◌≤◌, List, ◌++◌, drop, length}
use Rattle.nd_places.specs.Forms.{trues_on}
use Rattle.nd_places.specs.Near.{rows_places}
use Rattle.nd_places.specs.declared.form.Form.{Form}
use Rattle.nd_places.specs.declared.form.Form.TheVariants as form
use Rattle.nd_places.specs.declared.form.Rows.{Rows}
use Rattle.nd_places.specs.declared.form.Trues.{Trues}
use Rattle.nd_places.specs.declared.walk.PlaceWalk.TheInside.{Inside}

abbrev pub rows_left : Rows → (done within : ℕ) → List ℕ
rows_left rows done within = drop within (rows_places (drop done rows.starts.items) rows.ways.items)

abbrev pub trues_left : Trues → (done : ℕ) → List ℕ
trues_left trues done = trues_on trues.line done (drop done trues.mask)

-- the places that are left where `done` places, rows or bytes of a mask are done, and `within` elements of the next row
abbrev pub left_in : Form → (done within : ℕ) → List ℕ
left_in (form.Each places) done within = drop done places.items
left_in (form.Rows rows) done within = rows_left rows done within
left_in (form.Trues trues) done within = trues_left trues done

abbrev pub left_of : Inside → List ℕ
left_of w = left_in w.form.now w.done w.within

-- only of a row some elements may be done, and not all
abbrev pub is_within : Form → ℕ → Type 0
is_within (form.Each places) within = Unit {0}
is_within (form.Rows rows) within = within < length rows.ways.items
is_within (form.Trues trues) within = Unit {0}

pub record IsWalk (w : Inside) : Type 0 where
  pub within : is_within w.form.now w.within

-- the next of the places that were left, as many as there is room for
pub record IsNext (most : ℕ) (old part new : List ℕ) : Type 0 where
  pub split : old ≡ part ++ new
  pub some : 0 < length part
  pub few : length part ≤ most
