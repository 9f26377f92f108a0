use Rattle.std.proofs.Common.{◌≡◌, ◌≤◌, ◌+◌, ◌-◌, ℕ, map}
use Rattle.nd_model.specs.Book.Book.{Book}
use Rattle.nd_model.specs.Book.Notebook.{world_in}
use Rattle.nd_schedule.specs.Cells.Source.{cells_of}
use Rattle.nd_schedule.specs.Cells.Shared.{each_of}
use Rattle.nd_change.specs.Steps.{IsWordOfChange}
use Rattle.std.specs.List.{All}
use Rattle.nd_schedule.specs.Schedule.Snapshot.{IsNoted}
use Rattle.nd_schedule.specs.Schedule.Sweep.{AreChanged, AreFit, CountsFront, IsAt, IsFrame, change_at, fit_at}
use Rattle.nd_schedule.proofs.schedule.sweep.sweep.Given as goal

abbrev pub invariant-loop-snapshot : goal.invariant-loop-snapshot
invariant-loop-snapshot g l = record {
  behind : l.i ≤ l.at;
  upto : l.at ≤ l.to;
  at : (old new : Book) (j : ℕ) → IsFrame old new l.i j l.to (cells_of l.cells) (each_of g.C.CellRunner.recorded l.records) (world_in (g.C.CellRunner.given l.world))
      → IsAt old new l.i j (g.C.CellRunner.change_of l.fn.state.change) (g.C.CellRunner.session_of l.fn.state.session) l.fn.state.since
      → IsAt old new l.at (j + (l.at - l.i)) (g.C.CellRunner.change_of l.state.change) (g.C.CellRunner.session_of l.state.session) l.state.since;
  covered : IsWordOfChange g.C.CellRunner.covers l.state.word (g.C.CellRunner.change_of l.state.change);
  changed : (old new : Book) (j from first : ℕ) → IsFrame old new l.i j l.to (cells_of l.cells) (each_of g.C.CellRunner.recorded l.records) (world_in (g.C.CellRunner.given l.world))
      → IsAt old new l.i j (g.C.CellRunner.change_of l.fn.state.change) (g.C.CellRunner.session_of l.fn.state.session) l.fn.state.since → from ≤ l.i → j ≡ first + (l.i - from)
      → AreChanged old new from first l.i (map (λ c. change_at c.place (g.C.CellRunner.recorded c.record.value)) l.fn.state.changed.items)
      → AreChanged old new from first l.at (map (λ c. change_at c.place (g.C.CellRunner.recorded c.record.value)) l.state.changed.items);
  fit : (n : ℕ) → l.to ≤ n → AreFit g.C.CellRunner.covers n (map (λ c. fit_at c.place (g.C.CellRunner.recorded c.record.value) c.word) l.fn.state.changed.items)
      → AreFit g.C.CellRunner.covers n (map (λ c. fit_at c.place (g.C.CellRunner.recorded c.record.value) c.word) l.state.changed.items);
  counts : (old new : Book) (j before : ℕ) → IsFrame old new l.i j l.to (cells_of l.cells) (each_of g.C.CellRunner.recorded l.records) (world_in (g.C.CellRunner.given l.world))
      → IsAt old new l.i j (g.C.CellRunner.change_of l.fn.state.change) (g.C.CellRunner.session_of l.fn.state.session) l.fn.state.since → CountsFront old new j before l.fn.meter → CountsFront old new (j + (l.at - l.i)) before l.meter;
  noted : (old new : Book) → IsFrame old new l.i l.now l.to (cells_of l.cells) (each_of g.C.CellRunner.recorded l.records) (world_in (g.C.CellRunner.given l.world))
      → IsAt old new l.i l.now (g.C.CellRunner.change_of l.fn.state.change) (g.C.CellRunner.session_of l.fn.state.session) l.fn.state.since → All (λ n. IsNoted g.C.CellRunner.change_of g.C.CellRunner.kept_session old new n.place n.now n.memo) l.fn.noted.items → All (λ n. IsNoted g.C.CellRunner.change_of g.C.CellRunner.kept_session old new n.place n.now n.memo) l.noted.items;
}
