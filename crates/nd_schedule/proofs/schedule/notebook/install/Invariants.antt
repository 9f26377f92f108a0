use Rattle.std.proofs.Common.{◌≡◌, ℕ, length, map, get_or}
use Rattle.std.specs.Vec.{vec_capacity}
use Rattle.nd_model.specs.Book.Records.{Record}
use Rattle.nd_schedule.specs.Cells.Shared.{each_of}
use Rattle.nd_schedule.specs.Schedule.Sweep.{AreWords, changed, change_at}
use Rattle.nd_schedule.proofs.schedule.notebook.install.Given as goal

abbrev pub invariant-loop-change : goal.invariant-loop-change
invariant-loop-change g l = record {
  records : (k : ℕ) (r : Record) → get_or (each_of g.C.CellRunner.recorded l.records.items) k r ≡ changed (map (λ c. change_at c.place (g.C.CellRunner.recorded c.record.value)) l.yielded) k (get_or (each_of g.C.CellRunner.recorded l.fn.records.items) k r);
  words : AreWords g.C.CellRunner.covers l.fn.words.items (each_of g.C.CellRunner.recorded l.fn.records.items) → AreWords g.C.CellRunner.covers l.words.items (each_of g.C.CellRunner.recorded l.records.items);
  records_room : vec_capacity l.records ≡ vec_capacity l.fn.records;
  words_room : vec_capacity l.words ≡ vec_capacity l.fn.words;
  count : length l.records.items ≡ length l.fn.records.items;
  many : length l.words.items ≡ length l.fn.words.items;
}
