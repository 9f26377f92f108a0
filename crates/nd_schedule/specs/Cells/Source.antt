-- The cells of a notebook as the definitions have them.
use Rattle.std.specs.Prelude.{List, map, string_bytes}
use Rattle.std.proofs.Common.{Global}
use Rattle.std.specs.declared.rc.Rc.{Rc}
use Rattle.nd_model.specs.Book.Book as model
use Rattle.nd_model.specs.Book.Notebook.{Setting, Sheet}
use Rattle.nd_schedule.specs.declared.cells.source.KeptCell.{KeptCell}

abbrev pub cell_of : KeptCell → model.Cell
cell_of s = record { label = s.label; source = string_bytes s.text }

abbrev pub cells_of : List (Rc KeptCell Global) → List model.Cell
cells_of ss = map (λ s. cell_of s.value) ss

-- a notebook of these cells, and what they are run by
abbrev pub sheet : List model.Cell → Setting → Sheet
sheet cells given = record { cells = cells; given = given }
