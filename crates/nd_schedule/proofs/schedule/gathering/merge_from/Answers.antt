use Rattle.std.proofs.Common.{◌≡◌, ◌+◌, length, sym, ap, subst, arith}
use Rattle.std.proofs.lemmas.List.{length-map}
use Rattle.nd_model.specs.Book.Book.{Book}
use Rattle.nd_change.specs.Steps.{IsWordOfChange}
use Rattle.nd_schedule.specs.Cells.Source.{cell_of, cells_of}
use Rattle.nd_schedule.specs.Cells.Shared.{each_of}
use Rattle.nd_schedule.specs.Schedule.Merge.{AreMerged}
use Rattle.nd_schedule.proofs.schedule.Joining.{next_of, place_of}
use Rattle.nd_schedule.proofs.schedule.Sweeping.{counts_stale}
use Rattle.nd_schedule.proofs.schedule.Visiting.{cell_there}
use Rattle.nd_schedule.proofs.schedule.gathering.merge_from.Goals as goal

pub loop-j-init : goal.loop-j-init
loop-j-init g c = record { within = c.requires.within; next = c.first_behind-next.ensures; at = λ old new merge at. at; covered = c.requires.covered; merged = λ old new merge at all. all; noted = λ old new merge at all. all; counts = λ old new before merge at so_far. so_far }

pub merge_cell-requires-clause-at : goal.merge_cell-requires-clause-at
merge_cell-requires-clause-at g c =
    let old : Book = c.requires.at.0 in
    let new : Book = c.requires.at.1 in (
      old,
      new,
      (next_of old new (cells_of c.args.cells.now) (cells_of c.args.drafted.now) _ _ c.requires.at.2 c.loop-j.i c.loop-j.j (omega (arith, c.loop-j.invariant.within, length-map c.args.cells.now (λ s. cell_of s.value))) (omega (arith, c.loop-j-test.true, length-map c.args.drafted.now (λ s. cell_of s.value))) (cell_of c.deref.result.now)
          (cell_there c.args.drafted.now c.loop-j.j c.index-drafted-j.result c.deref.result.now (omega (arith, c.loop-j-test.true)) c.index-drafted-j.is c.deref.ensures)),
      (c.requires.at.2).cells,
      c.loop-j.invariant.at old new c.requires.at.2 c.requires.at.3,
    )

pub merge_cell-requires-clause-within : goal.merge_cell-requires-clause-within
merge_cell-requires-clause-within g c = c.loop-j.invariant.within

pub merge_cell-requires-clause-covered : goal.merge_cell-requires-clause-covered
merge_cell-requires-clause-covered g c = c.loop-j.invariant.covered

pub merge_cell-requires-clause-words : goal.merge_cell-requires-clause-words
merge_cell-requires-clause-words g c = c.requires.words

pub merge_cell-requires-clause-cells : goal.merge_cell-requires-clause-cells
merge_cell-requires-clause-cells g c = c.requires.cells

pub merge_cell-requires-clause-places : goal.merge_cell-requires-clause-places
merge_cell-requires-clause-places g c = c.requires.places

pub returns-in_err-placed-clause-counts : goal.returns-in_err-placed-clause-counts
returns-in_err-placed-clause-counts g c = λ old new before merge at so_far.
    counts_stale old new (c.loop-j.j + 1) before _ (c.merge_cell.ensures.counts old new before (next_of old new (cells_of c.args.cells.now) (cells_of c.args.drafted.now) _ _ merge c.loop-j.i c.loop-j.j (omega (arith, c.loop-j.invariant.within, length-map c.args.cells.now (λ s. cell_of s.value))) (omega (arith, c.loop-j-test.true, length-map c.args.drafted.now (λ s. cell_of s.value))) (cell_of c.deref.result.now)
    (cell_there c.args.drafted.now c.loop-j.j c.index-drafted-j.result c.deref.result.now (omega (arith, c.loop-j-test.true)) c.index-drafted-j.is c.deref.ensures)) merge.cells (c.loop-j.invariant.at old new merge at) (c.loop-j.invariant.counts old new before merge at so_far))

pub returns-in_err-put_behind-clause-counts : goal.returns-in_err-put_behind-clause-counts
returns-in_err-put_behind-clause-counts g c = λ old new before merge at so_far.
    counts_stale old new (c.loop-j.j + 1) before _ (c.merge_cell.ensures.counts old new before (next_of old new (cells_of c.args.cells.now) (cells_of c.args.drafted.now) _ _ merge c.loop-j.i c.loop-j.j (omega (arith, c.loop-j.invariant.within, length-map c.args.cells.now (λ s. cell_of s.value))) (omega (arith, c.loop-j-test.true, length-map c.args.drafted.now (λ s. cell_of s.value))) (cell_of c.deref.result.now)
    (cell_there c.args.drafted.now c.loop-j.j c.index-drafted-j.result c.deref.result.now (omega (arith, c.loop-j-test.true)) c.index-drafted-j.is c.deref.ensures)) merge.cells (c.loop-j.invariant.at old new merge at) (c.loop-j.invariant.counts old new before merge at so_far))

pub stop_at-next-requires : goal.stop_at-next-requires
stop_at-next-requires g c = c.loop-j.invariant.next

pub loop-j-preserved : goal.loop-j-preserved
loop-j-preserved g c = record {
  within = c.in_ok-placed.ensures.behind;
  next = c.stop_at-next.ensures.next;
  at = λ old new merge at.
      c.stop_at-next.ensures.at old new
      (c.in_ok-placed.ensures.at old new (next_of old new (cells_of c.args.cells.now) (cells_of c.args.drafted.now) _ _ merge c.loop-j.i c.loop-j.j (omega (arith, c.loop-j.invariant.within, length-map c.args.cells.now (λ s. cell_of s.value))) (omega (arith, c.loop-j-test.true, length-map c.args.drafted.now (λ s. cell_of s.value))) (cell_of c.deref.result.now)
      (cell_there c.args.drafted.now c.loop-j.j c.index-drafted-j.result c.deref.result.now (omega (arith, c.loop-j-test.true)) c.index-drafted-j.is c.deref.ensures)) merge.cells (c.loop-j.invariant.at old new merge at));
  covered =
      subst (λ w. IsWordOfChange g.C.CellRunner.covers w (g.C.CellRunner.change_of c.stop_at-next.new.state.change)) (sym c.stop_at-next.ensures.word)
      (subst (λ d. IsWordOfChange g.C.CellRunner.covers c.merge_cell.new.state.word (g.C.CellRunner.change_of d)) (sym c.stop_at-next.ensures.change) c.in_ok-placed.ensures.covered);
  merged = λ old new merge at all.
      c.in_ok-put_behind.ensures old new (omega (arith, c.loop-j-test.true, length-map c.args.drafted.now (λ s. cell_of s.value), ap length merge.now)) (c.in_ok-placed.ensures.placed old new (next_of old new (cells_of c.args.cells.now) (cells_of c.args.drafted.now) _ _ merge c.loop-j.i c.loop-j.j (omega (arith, c.loop-j.invariant.within, length-map c.args.cells.now (λ s. cell_of s.value))) (omega (arith, c.loop-j-test.true, length-map c.args.drafted.now (λ s. cell_of s.value))) (cell_of c.deref.result.now)
      (cell_there c.args.drafted.now c.loop-j.j c.index-drafted-j.result c.deref.result.now (omega (arith, c.loop-j-test.true)) c.index-drafted-j.is c.deref.ensures)) merge.cells (c.loop-j.invariant.at old new merge at)) (c.loop-j.invariant.merged old new merge at all);
  noted = λ old new merge at all. c.stop_at-next.ensures.noted old new (place_of old new (cells_of c.args.cells.now) (cells_of c.args.drafted.now) _ _ merge _ (c.loop-j.j + 1) (omega (arith, c.in_ok-placed.ensures.behind, length-map c.args.cells.now (λ s. cell_of s.value))) (omega (arith, c.loop-j-test.true, length-map c.args.drafted.now (λ s. cell_of s.value)))) (c.in_ok-placed.ensures.at old new (next_of old new (cells_of c.args.cells.now) (cells_of c.args.drafted.now) _ _ merge c.loop-j.i c.loop-j.j (omega (arith, c.loop-j.invariant.within, length-map c.args.cells.now (λ s. cell_of s.value))) (omega (arith, c.loop-j-test.true, length-map c.args.drafted.now (λ s. cell_of s.value))) (cell_of c.deref.result.now)
      (cell_there c.args.drafted.now c.loop-j.j c.index-drafted-j.result c.deref.result.now (omega (arith, c.loop-j-test.true)) c.index-drafted-j.is c.deref.ensures)) merge.cells (c.loop-j.invariant.at old new merge at)) (c.loop-j.invariant.noted old new merge at all);
  counts = λ old new before merge at so_far. c.merge_cell.ensures.counts old new before (next_of old new (cells_of c.args.cells.now) (cells_of c.args.drafted.now) _ _ merge c.loop-j.i c.loop-j.j (omega (arith, c.loop-j.invariant.within, length-map c.args.cells.now (λ s. cell_of s.value))) (omega (arith, c.loop-j-test.true, length-map c.args.drafted.now (λ s. cell_of s.value))) (cell_of c.deref.result.now)
      (cell_there c.args.drafted.now c.loop-j.j c.index-drafted-j.result c.deref.result.now (omega (arith, c.loop-j-test.true)) c.index-drafted-j.is c.deref.ensures)) merge.cells (c.loop-j.invariant.at old new merge at) (c.loop-j.invariant.counts old new before merge at so_far);
}

pub returns-clause-merged : goal.returns-clause-merged
returns-clause-merged g c = λ old new merge at all.
    let whole : c.loop-j.j ≡ length new.cells = omega (arith, length-map c.args.drafted.now (λ s. cell_of s.value), ap length merge.now) in
    subst (λ n. AreMerged g.C.CellRunner.covers old new n (each_of g.C.CellRunner.recorded c.loop-j.merged.records.items) c.loop-j.merged.words.items c.loop-j.merged.ran.items) whole (c.loop-j.invariant.merged old new merge at all)

pub returns-clause-counts : goal.returns-clause-counts
returns-clause-counts g c = λ old new before merge at so_far. counts_stale old new c.loop-j.j before _ (c.loop-j.invariant.counts old new before merge at so_far)

pub returns-clause-noted : goal.returns-clause-noted
returns-clause-noted g c = λ old new merge at all. c.loop-j.invariant.noted old new merge at all
