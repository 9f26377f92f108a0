use Rattle.std.proofs.Common.{◌^◌, ◌≤◌, ap}
use Rattle.std.specs.List.{concat}
use Rattle.nd_view.proofs.ByRuns.{in_run, behind_run}
use Rattle.nd_index.proofs.advanced.SoleArrays.{piece_more, placed_run, positions_parts, positions_split}
use Rattle.nd_index.proofs.advanced.direct.push_array.Goals as goal

pub push_positions-requires : goal.push_positions-requires
push_positions-requires c = in_run (λ k. k ≤ 2 ^ 32) _ _ _ (positions_parts c.args.size c.args.array.now.elem.now c.args.array.now.bytes.now (concat c.loop-run.runs) c.in-Some.run' (concat c.next.new.self) (ap concat c.in-Some.ensures)) c.loop-run.invariant.near

pub loop-run-preserved : goal.loop-run-preserved
loop-run-preserved c =
    let a = c.args.array.now in let run = c.in-Some.run' in let rest = concat c.next.new.self in let row = c.args.row.now in let axes = c.args.axes.now in
    let placed = placed_run row axes a.elem.now a.bytes.now c.args.size in
    record {
      done = piece_more placed placed c.loop-run.places.items c.push_positions.new.places.items _ (concat c.loop-run.runs) run rest (ap concat c.in-Some.ensures)
          (positions_split row axes a.elem.now a.bytes.now c.args.size run rest) c.in_ok-push_positions.ensures c.loop-run.invariant.done;
      near = behind_run (λ k. k ≤ 2 ^ 32) _ _ _ (positions_parts c.args.size c.args.array.now.elem.now c.args.array.now.bytes.now (concat c.loop-run.runs) c.in-Some.run' (concat c.next.new.self) (ap concat c.in-Some.ensures)) c.loop-run.invariant.near;
    }
