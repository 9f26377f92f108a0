use Rattle.std.proofs.Common.{length, ap, ◌∙◌, arith}
use Rattle.std.specs.Prelude.{insert}
use Rattle.nd_schedule.proofs.schedule.ending.put_new.Goals as goal

pub put_one-requires-clause-at_cell : goal.put_one-requires-clause-at_cell
put_one-requires-clause-at_cell g c = omega (arith, c.requires.cells, ap length c.make_rooms.ensures.same_cells)

pub put_one-requires-clause-cells : goal.put_one-requires-clause-cells
put_one-requires-clause-cells g c = omega (arith, c.in_ok-make_rooms.ensures.cells, ap length c.make_rooms.ensures.same_cells)

pub put_one-requires-clause-at_record : goal.put_one-requires-clause-at_record
put_one-requires-clause-at_record g c = omega (arith, c.requires.records, ap length c.make_rooms.ensures.same_records)

pub put_one-requires-clause-records : goal.put_one-requires-clause-records
put_one-requires-clause-records g c = omega (arith, c.in_ok-make_rooms.ensures.records, ap length c.make_rooms.ensures.same_records)

pub put_one-requires-clause-at_word : goal.put_one-requires-clause-at_word
put_one-requires-clause-at_word g c = omega (arith, c.requires.words, ap length c.make_rooms.ensures.same_words)

pub put_one-requires-clause-words : goal.put_one-requires-clause-words
put_one-requires-clause-words g c = omega (arith, c.in_ok-make_rooms.ensures.words, ap length c.make_rooms.ensures.same_words)

pub returns-clause-cells : goal.returns-clause-cells
returns-clause-cells g c = c.put_one.ensures.cells ∙ ap (λ xs. insert xs c.args.at c.args.cell) c.make_rooms.ensures.same_cells

pub returns-clause-records : goal.returns-clause-records
returns-clause-records g c = c.put_one.ensures.records ∙ ap (λ xs. insert xs c.args.at c.args.new.record) c.make_rooms.ensures.same_records

pub returns-clause-words : goal.returns-clause-words
returns-clause-words g c = c.put_one.ensures.words ∙ ap (λ xs. insert xs c.args.at c.args.new.word) c.make_rooms.ensures.same_words
