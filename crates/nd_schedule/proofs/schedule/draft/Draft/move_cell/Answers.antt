use Rattle.std.proofs.lemmas.Grind.{common_steps}
use Rattle.std.proofs.Common.{◌≡◌, get_or, length, length-set, set, sym, ap, ◌∙◌, arith}
use Rattle.std.specs.Prelude.{insert, remove}
use Rattle.nd_model.specs.Book.Book.{Move, edited_cells, no_cell}
use Rattle.nd_schedule.proofs.schedule.Drafting.{cells_moved, long, moved}
use Rattle.nd_schedule.proofs.schedule.Turning.{turned_same}
use Rattle.nd_schedule.proofs.schedule.draft.Draft.move_cell.Goals as goal

pub returns-then-from-to : goal.returns-then-from-to
returns-then-from-to c =
    let cells = c.args.self.now in
    turned_same cells c.args.from no_cell c.requires.from ∙ ap (λ n. insert (remove cells c.args.from) n (get_or cells c.args.from no_cell)) c.if-from-to.true

pub invariant_of-self : goal.invariant_of-self
invariant_of-self c =
    let inside : length c.self.inside.cells.items ≡ length c.args.self.now = sym (long c.self.inside.cells.items) ∙ ap length c.self.view_is in
    let d = c.self.invariant in
    moved c.self.inside.cells.items (set c.self.inside.hints.items c.args.from c.as_moved.result) c.self.inside.least (d.0, length-set c.self.inside.hints.items c.args.from c.as_moved.result ∙ d.1, d.2)
    c.move_item-2.new.list.items c.move_item.new.list.items c.args.from c.args.to (omega (arith, inside, c.requires.from)) (omega (arith, inside, c.requires.to)) c.move_item-2.ensures c.move_item.ensures

pub returns : goal.returns
returns c =
    let inside : length c.self.inside.cells.items ≡ length c.args.self.now = sym (long c.self.inside.cells.items) ∙ ap length c.self.view_is in
    cells_moved c.self.inside.cells.items c.move_item-2.new.list.items c.args.from c.args.to (omega (arith, inside, c.requires.from)) c.move_item-2.ensures ∙ ap (edited_cells (Move c.args.from c.args.to)) c.self.view_is

pub index-requires : goal.index-requires
index-requires c = grind (arith, common_steps)

pub index_mut-requires : goal.index_mut-requires
index_mut-requires c = grind (arith, common_steps)

pub move_item-requires-clause-from : goal.move_item-requires-clause-from
move_item-requires-clause-from c = grind (arith, common_steps)

pub move_item-requires-clause-to : goal.move_item-requires-clause-to
move_item-requires-clause-to c = grind (arith, common_steps)

pub move_item-requires-2-clause-from : goal.move_item-requires-2-clause-from
move_item-requires-2-clause-from c = grind (arith, common_steps)

pub move_item-requires-2-clause-to : goal.move_item-requires-2-clause-to
move_item-requires-2-clause-to c = grind (arith, common_steps)
