use Rattle.std.proofs.Common.{◌≤◌, ℕ, length}
use Rattle.std.specs.List.{All}
use Rattle.nd_model.specs.Book.Book.{Book}
use Rattle.nd_model.specs.Book.Notebook.{world_in}
use Rattle.nd_change.specs.Steps.{IsWordOfChange}
use Rattle.nd_schedule.specs.Cells.Source.{cells_of}
use Rattle.nd_schedule.specs.Cells.Shared.{each_of}
use Rattle.nd_schedule.specs.Schedule.Merge.{AreMerged, IsMerge}
use Rattle.nd_schedule.specs.Schedule.Snapshot.{IsNoted}
use Rattle.nd_schedule.specs.Schedule.Sweep.{CountsFront, IsAt}
use Rattle.nd_schedule.proofs.schedule.gathering.merge_from.Given as goal

abbrev pub invariant-loop-j : goal.invariant-loop-j
invariant-loop-j g l = record {
  within : l.i ≤ length l.cells;
  next : l.next ≤ length l.snapshots;
  at : (old new : Book) → IsMerge old new (cells_of l.cells) (cells_of l.drafted) (each_of g.C.CellRunner.recorded l.records) (world_in (g.C.CellRunner.given l.world))
      → IsAt old new l.from l.from (g.C.CellRunner.change_of l.fn.state.change) (g.C.CellRunner.session_of l.fn.state.session) l.fn.state.since
      → IsAt old new l.i l.j (g.C.CellRunner.change_of l.state.change) (g.C.CellRunner.session_of l.state.session) l.state.since;
  covered : IsWordOfChange g.C.CellRunner.covers l.state.word (g.C.CellRunner.change_of l.state.change);
  merged : (old new : Book) → IsMerge old new (cells_of l.cells) (cells_of l.drafted) (each_of g.C.CellRunner.recorded l.records) (world_in (g.C.CellRunner.given l.world))
      → IsAt old new l.from l.from (g.C.CellRunner.change_of l.fn.state.change) (g.C.CellRunner.session_of l.fn.state.session) l.fn.state.since
      → AreMerged g.C.CellRunner.covers old new l.from (each_of g.C.CellRunner.recorded l.fn.merged.records.items) l.fn.merged.words.items l.fn.merged.ran.items
      → AreMerged g.C.CellRunner.covers old new l.j (each_of g.C.CellRunner.recorded l.merged.records.items) l.merged.words.items l.merged.ran.items;
  noted : (old new : Book) → IsMerge old new (cells_of l.cells) (cells_of l.drafted) (each_of g.C.CellRunner.recorded l.records) (world_in (g.C.CellRunner.given l.world))
      → IsAt old new l.from l.from (g.C.CellRunner.change_of l.fn.state.change) (g.C.CellRunner.session_of l.fn.state.session) l.fn.state.since
      → All (λ n. IsNoted g.C.CellRunner.change_of g.C.CellRunner.kept_session old new n.place n.now n.memo) l.fn.noted.items
      → All (λ n. IsNoted g.C.CellRunner.change_of g.C.CellRunner.kept_session old new n.place n.now n.memo) l.noted.items;
  counts : (old new : Book) (before : ℕ) → IsMerge old new (cells_of l.cells) (cells_of l.drafted) (each_of g.C.CellRunner.recorded l.records) (world_in (g.C.CellRunner.given l.world))
      → IsAt old new l.from l.from (g.C.CellRunner.change_of l.fn.state.change) (g.C.CellRunner.session_of l.fn.state.session) l.fn.state.since
      → CountsFront old new l.from before l.fn.meter → CountsFront old new l.j before l.meter;
}
