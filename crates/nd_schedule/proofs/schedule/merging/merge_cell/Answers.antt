use Rattle.std.proofs.Common.{◌<◌, length, ap, ◌∙◌, arith}
use Rattle.std.proofs.lemmas.List.{length-map}
use Rattle.std.specs.Prelude.{slice_index_or}
use Rattle.nd_model.specs.Book.Book.{no_cell}
use Rattle.nd_schedule.specs.Cells.Source.{cell_of, cells_of}
use Rattle.nd_schedule.proofs.schedule.Coming.{stale_unknown}
use Rattle.nd_schedule.proofs.schedule.Turning.{if_ok_more}
use Rattle.nd_schedule.proofs.schedule.merging.merge_cell.Goals as goal

pub come_to_kept-requires-clause-order : goal.come_to_kept-requires-clause-order
come_to_kept-requires-clause-order g c = (c.in-Kept.ensures).0

pub come_to_kept-requires-clause-record : goal.come_to_kept-requires-clause-record
come_to_kept-requires-clause-record g c =
    let within : c.in-Kept.k < length c.args.cells.now = omega (arith, length-map c.args.cells.now (λ s. cell_of s.value), (c.in-Kept.ensures).1.within) in
    omega (arith, within, c.requires.cells)

pub come_to_kept-requires-clause-word : goal.come_to_kept-requires-clause-word
come_to_kept-requires-clause-word g c =
    let within : c.in-Kept.k < length c.args.cells.now = omega (arith, length-map c.args.cells.now (λ s. cell_of s.value), (c.in-Kept.ensures).1.within) in
    omega (arith, within, c.requires.places)

pub come_to_kept-requires-clause-at : goal.come_to_kept-requires-clause-at
come_to_kept-requires-clause-at g c = (c.requires.at.0, c.requires.at.1, c.requires.at.2, ap (λ cs. slice_index_or cs c.in-Kept.k no_cell) c.requires.at.3 ∙ (c.in-Kept.ensures).1.same, c.requires.at.4)

pub come_to_kept-requires-clause-words : goal.come_to_kept-requires-clause-words
come_to_kept-requires-clause-words g c = c.requires.words

pub come_to_kept-requires-clause-covered : goal.come_to_kept-requires-clause-covered
come_to_kept-requires-clause-covered g c = c.requires.covered

pub returns-in-Kept-clause-at : goal.returns-in-Kept-clause-at
returns-in-Kept-clause-at g c = if_ok_more c.come_to_kept.result c.come_to_kept.ensures.at (λ p h old new next cells at. h old new next (ap (λ cs. slice_index_or cs c.in-Kept.k no_cell) cells ∙ (c.in-Kept.ensures).1.same) at)

pub returns-in-Kept-clause-placed : goal.returns-in-Kept-clause-placed
returns-in-Kept-clause-placed g c = if_ok_more c.come_to_kept.result c.come_to_kept.ensures.placed (λ p h old new next cells at. h old new next (ap (λ cs. slice_index_or cs c.in-Kept.k no_cell) cells ∙ (c.in-Kept.ensures).1.same) at)

pub returns-in-Kept-clause-worded : goal.returns-in-Kept-clause-worded
returns-in-Kept-clause-worded g c = c.come_to_kept.ensures.worded

pub returns-in-Kept-clause-behind : goal.returns-in-Kept-clause-behind
returns-in-Kept-clause-behind g c =
    let within : c.in-Kept.k < length c.args.cells.now = omega (arith, length-map c.args.cells.now (λ s. cell_of s.value), (c.in-Kept.ensures).1.within) in
    if_ok_more c.come_to_kept.result c.come_to_kept.ensures.behind (λ p is. omega (arith, is, within))

pub returns-in-Kept-clause-covered : goal.returns-in-Kept-clause-covered
returns-in-Kept-clause-covered g c = c.come_to_kept.ensures.covered

pub returns-in-Kept-clause-counts : goal.returns-in-Kept-clause-counts
returns-in-Kept-clause-counts g c = λ old new before next cells at so_far. c.come_to_kept.ensures.counts old new before next (ap (λ cs. slice_index_or cs c.in-Kept.k no_cell) cells ∙ (c.in-Kept.ensures).1.same) at so_far

pub come_to_edited-requires-clause-order : goal.come_to_edited-requires-clause-order
come_to_edited-requires-clause-order g c = (c.in-Edited.ensures).0

pub come_to_edited-requires-clause-record : goal.come_to_edited-requires-clause-record
come_to_edited-requires-clause-record g c =
    let within : c.in-Edited.k < length c.args.cells.now = omega (arith, length-map c.args.cells.now (λ s. cell_of s.value), (c.in-Edited.ensures).1) in
    omega (arith, within, c.requires.cells)

pub come_to_edited-requires-clause-at : goal.come_to_edited-requires-clause-at
come_to_edited-requires-clause-at g c = (c.requires.at.0, c.requires.at.1, c.requires.at.2, stale_unknown c.requires.at.0 c.requires.at.1 c.args.i c.args.now _ (cell_of c.args.cell.now) _ c.requires.at.2 (cells_of c.args.cells.now) c.requires.at.3 (c.in-Edited.ensures).2, c.requires.at.4)

pub come_to_edited-requires-clause-covered : goal.come_to_edited-requires-clause-covered
come_to_edited-requires-clause-covered g c = c.requires.covered

pub returns-in-Edited-clause-at : goal.returns-in-Edited-clause-at
returns-in-Edited-clause-at g c = if_ok_more c.come_to_edited.result c.come_to_edited.ensures.at (λ p h old new next cells at. h old new next (stale_unknown old new c.args.i c.args.now _ (cell_of c.args.cell.now) _ next (cells_of c.args.cells.now) cells (c.in-Edited.ensures).2) at)

pub returns-in-Edited-clause-placed : goal.returns-in-Edited-clause-placed
returns-in-Edited-clause-placed g c = if_ok_more c.come_to_edited.result c.come_to_edited.ensures.placed (λ p h old new next cells at. h old new next (stale_unknown old new c.args.i c.args.now _ (cell_of c.args.cell.now) _ next (cells_of c.args.cells.now) cells (c.in-Edited.ensures).2) at)

pub returns-in-Edited-clause-worded : goal.returns-in-Edited-clause-worded
returns-in-Edited-clause-worded g c = c.come_to_edited.ensures.worded

pub returns-in-Edited-clause-behind : goal.returns-in-Edited-clause-behind
returns-in-Edited-clause-behind g c =
    let within : c.in-Edited.k < length c.args.cells.now = omega (arith, length-map c.args.cells.now (λ s. cell_of s.value), (c.in-Edited.ensures).1) in
    if_ok_more c.come_to_edited.result c.come_to_edited.ensures.behind (λ p is. omega (arith, is, within))

pub returns-in-Edited-clause-covered : goal.returns-in-Edited-clause-covered
returns-in-Edited-clause-covered g c = c.come_to_edited.ensures.covered

pub returns-in-Edited-clause-counts : goal.returns-in-Edited-clause-counts
returns-in-Edited-clause-counts g c = λ old new before next cells at so_far. c.come_to_edited.ensures.counts old new before next (stale_unknown old new c.args.i c.args.now _ (cell_of c.args.cell.now) _ next (cells_of c.args.cells.now) cells (c.in-Edited.ensures).2) at so_far

pub come_to_moved-requires-clause-within : goal.come_to_moved-requires-clause-within
come_to_moved-requires-clause-within g c = omega (arith, c.requires.within, c.requires.cells)

pub come_to_moved-requires-clause-record : goal.come_to_moved-requires-clause-record
come_to_moved-requires-clause-record g c =
    let within : c.in-Moved.k < length c.args.cells.now = omega (arith, length-map c.args.cells.now (λ s. cell_of s.value), (c.in-Moved.ensures).within) in
    omega (arith, within, c.requires.cells)

pub come_to_moved-requires-clause-at : goal.come_to_moved-requires-clause-at
come_to_moved-requires-clause-at g c = (c.requires.at.0, c.requires.at.1, c.requires.at.2, ap (λ cs. slice_index_or cs c.in-Moved.k no_cell) c.requires.at.3 ∙ (c.in-Moved.ensures).same, c.requires.at.4)

pub returns-in-Moved-clause-at : goal.returns-in-Moved-clause-at
returns-in-Moved-clause-at g c = if_ok_more c.come_to_moved.result c.come_to_moved.ensures.at (λ p h old new next cells at. h old new next (ap (λ cs. slice_index_or cs c.in-Moved.k no_cell) cells ∙ (c.in-Moved.ensures).same) at)

pub returns-in-Moved-clause-placed : goal.returns-in-Moved-clause-placed
returns-in-Moved-clause-placed g c = if_ok_more c.come_to_moved.result c.come_to_moved.ensures.placed (λ p h old new next cells at. h old new next (ap (λ cs. slice_index_or cs c.in-Moved.k no_cell) cells ∙ (c.in-Moved.ensures).same) at)

pub returns-in-Moved-clause-worded : goal.returns-in-Moved-clause-worded
returns-in-Moved-clause-worded g c = c.come_to_moved.ensures.worded

pub returns-in-Moved-clause-behind : goal.returns-in-Moved-clause-behind
returns-in-Moved-clause-behind g c = if_ok_more c.come_to_moved.result c.come_to_moved.ensures.behind (λ p is. omega (arith, is, c.requires.within))

pub returns-in-Moved-clause-covered : goal.returns-in-Moved-clause-covered
returns-in-Moved-clause-covered g c = c.come_to_moved.ensures.covered

pub returns-in-Moved-clause-counts : goal.returns-in-Moved-clause-counts
returns-in-Moved-clause-counts g c = λ old new before next cells at so_far. c.come_to_moved.ensures.counts old new before next (ap (λ cs. slice_index_or cs c.in-Moved.k no_cell) cells ∙ (c.in-Moved.ensures).same) at so_far

pub come_to_new-requires-clause-record : goal.come_to_new-requires-clause-record
come_to_new-requires-clause-record g c = omega (arith, c.requires.within, c.requires.cells)

pub come_to_new-requires-clause-at : goal.come_to_new-requires-clause-at
come_to_new-requires-clause-at g c = (c.requires.at.0, c.requires.at.1, c.requires.at.2, c.requires.at.4)

pub returns-in-New-clause-at : goal.returns-in-New-clause-at
returns-in-New-clause-at g c = if_ok_more c.come_to_new.result c.come_to_new.ensures.at (λ p h old new next cells at. h old new next at)

pub returns-in-New-clause-placed : goal.returns-in-New-clause-placed
returns-in-New-clause-placed g c = if_ok_more c.come_to_new.result c.come_to_new.ensures.placed (λ p h old new next cells at. h old new next (stale_unknown old new c.args.i c.args.now _ (cell_of c.args.cell.now) _ next (cells_of c.args.cells.now) cells c.in-New.ensures) at)

pub returns-in-New-clause-worded : goal.returns-in-New-clause-worded
returns-in-New-clause-worded g c = c.come_to_new.ensures.worded

pub returns-in-New-clause-behind : goal.returns-in-New-clause-behind
returns-in-New-clause-behind g c = if_ok_more c.come_to_new.result c.come_to_new.ensures.behind (λ p is. omega (arith, is, c.requires.within))

pub returns-in-New-clause-covered : goal.returns-in-New-clause-covered
returns-in-New-clause-covered g c = c.come_to_new.ensures.covered

pub returns-in-New-clause-counts : goal.returns-in-New-clause-counts
returns-in-New-clause-counts g c = λ old new before next cells at so_far. c.come_to_new.ensures.counts old new before next (stale_unknown old new c.args.i c.args.now _ (cell_of c.args.cell.now) _ next (cells_of c.args.cells.now) cells c.in-New.ensures) so_far
