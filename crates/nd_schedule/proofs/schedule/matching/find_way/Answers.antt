use Rattle.std.proofs.Common.{◌≡◌, ◌<◌, false, true, length, string_bytes, refl, sym, ap, ◌∙◌, arith}
use Rattle.std.specs.Prelude.{bytes_eq, slice_index_or}
use Rattle.std.proofs.lemmas.List.{length-map}
use Rattle.nd_model.specs.Book.Book.{Cell, no_cell}
use Rattle.nd_schedule.specs.Cells.Source.{cell_of, cells_of}
use Rattle.nd_schedule.proofs.schedule.Coming.{stood, unknown_new, unknown_other}
use Rattle.nd_schedule.proofs.schedule.Visiting.{cell_there}
use Rattle.nd_schedule.proofs.schedule.matching.find_way.Goals as goal

pub returns-in_default : goal.returns-in_default
returns-in_default c = unknown_new (cells_of c.args.cells.now) (cell_of c.args.cell.now) c.in_default.ensures

pub returns-in-true-true : goal.returns-in-true-true
returns-in-true-true c =
    let lt : c.in-Some.k < length (cells_of c.args.cells.now) = omega (arith, length-map c.args.cells.now (λ s. cell_of s.value), (c.in-Some.ensures).0) in
    let there : cell_of c.deref.result.now ≡ slice_index_or (cells_of c.args.cells.now) c.in-Some.k no_cell = cell_there c.args.cells.now c.in-Some.k c.index-cells-k.result c.deref.result.now (c.in-Some.ensures).0 c.index-cells-k.is c.deref.ensures in
    let text : bytes_eq (string_bytes c.args.cell.now.text) (slice_index_or (cells_of c.args.cells.now) c.in-Some.k no_cell).source ≡ true = ap (λ (x : Cell). bytes_eq (string_bytes c.args.cell.now.text) x.source) (sym there) ∙ sym c.in-true-true.ensures in
    (c.in-true-true.ensures' refl, stood (cells_of c.args.cells.now) (cell_of c.args.cell.now) c.in-Some.k lt (c.in-Some.ensures).1 text)

pub returns-in-true-false : goal.returns-in-true-false
returns-in-true-false c =
    let lt : c.in-Some.k < length (cells_of c.args.cells.now) = omega (arith, length-map c.args.cells.now (λ s. cell_of s.value), (c.in-Some.ensures).0) in
    let there : cell_of c.deref.result.now ≡ slice_index_or (cells_of c.args.cells.now) c.in-Some.k no_cell = cell_there c.args.cells.now c.in-Some.k c.index-cells-k.result c.deref.result.now (c.in-Some.ensures).0 c.index-cells-k.is c.deref.ensures in
    let text : bytes_eq (string_bytes c.args.cell.now.text) (slice_index_or (cells_of c.args.cells.now) c.in-Some.k no_cell).source ≡ true = ap (λ (x : Cell). bytes_eq (string_bytes c.args.cell.now.text) x.source) (sym there) ∙ sym c.in-true-false.ensures in
    stood (cells_of c.args.cells.now) (cell_of c.args.cell.now) c.in-Some.k lt (c.in-Some.ensures).1 text

pub returns-in-false-true : goal.returns-in-false-true
returns-in-false-true c =
    let lt : c.in-Some.k < length (cells_of c.args.cells.now) = omega (arith, length-map c.args.cells.now (λ s. cell_of s.value), (c.in-Some.ensures).0) in
    let there : cell_of c.deref.result.now ≡ slice_index_or (cells_of c.args.cells.now) c.in-Some.k no_cell = cell_there c.args.cells.now c.in-Some.k c.index-cells-k.result c.deref.result.now (c.in-Some.ensures).0 c.index-cells-k.is c.deref.ensures in
    let text : bytes_eq (string_bytes c.args.cell.now.text) (slice_index_or (cells_of c.args.cells.now) c.in-Some.k no_cell).source ≡ false = ap (λ (x : Cell). bytes_eq (string_bytes c.args.cell.now.text) x.source) (sym there) ∙ sym c.in-false-true.ensures in
    (c.in-false-true.ensures' refl, lt, unknown_other (cells_of c.args.cells.now) (cell_of c.args.cell.now) c.in-Some.k lt (c.in-Some.ensures).1 text)

pub returns-in-false-false : goal.returns-in-false-false
returns-in-false-false c =
    let lt : c.in-Some.k < length (cells_of c.args.cells.now) = omega (arith, length-map c.args.cells.now (λ s. cell_of s.value), (c.in-Some.ensures).0) in
    let there : cell_of c.deref.result.now ≡ slice_index_or (cells_of c.args.cells.now) c.in-Some.k no_cell = cell_there c.args.cells.now c.in-Some.k c.index-cells-k.result c.deref.result.now (c.in-Some.ensures).0 c.index-cells-k.is c.deref.ensures in
    let text : bytes_eq (string_bytes c.args.cell.now.text) (slice_index_or (cells_of c.args.cells.now) c.in-Some.k no_cell).source ≡ false = ap (λ (x : Cell). bytes_eq (string_bytes c.args.cell.now.text) x.source) (sym there) ∙ sym c.in-false-false.ensures in
    unknown_other (cells_of c.args.cells.now) (cell_of c.args.cell.now) c.in-Some.k lt (c.in-Some.ensures).1 text
