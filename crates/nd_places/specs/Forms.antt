-- Lists of places, in the forms in which they are kept.
use Rattle.std.specs.Prelude.{ℕ, List, map}
use Rattle.nd_places.specs.Near.{place_on_line, rows_places, trues_in}
use Rattle.nd_places.specs.declared.line.StridedLine.{StridedLine}
use Rattle.nd_places.specs.declared.form.Form.{Form}
use Rattle.nd_places.specs.declared.form.Form.TheVariants.{Each, Rows, Trues}
use Rattle.nd_places.specs.declared.list.PlaceList.TheInside.{Inside}

-- the places of the elements of a line whose bytes of a mask are true, where the mask begins at this element
abbrev pub trues_on : StridedLine → ℕ → List ℕ → List ℕ
trues_on line first mask = map (place_on_line line.start line.step) (trues_in first mask)

abbrev pub places_in : Form → List ℕ
places_in (Each places) = places.items
places_in (Rows rows) = rows_places rows.starts.items rows.ways.items
places_in (Trues trues) = trues_on trues.line 0 trues.mask

abbrev pub places_of : Inside → List ℕ
places_of p = places_in p.form
