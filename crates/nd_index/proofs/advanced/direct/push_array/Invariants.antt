use Rattle.std.proofs.Common.{◌≡◌, ◌≤◌, ◌^◌, ◌++◌, map, length}
use Rattle.std.specs.List.{All, concat}
use Rattle.nd_model.specs.Indexing.Selecting.{counted_from}
use Rattle.nd_element.specs.Elements.{numbers_at}
use Rattle.nd_index.proofs.advanced.SoleArrays.{placed_run}
use Rattle.nd_index.proofs.advanced.direct.push_array.Given as goal

abbrev pub invariant-loop-run : goal.invariant-loop-run
invariant-loop-run l = record {
  done : l.places.items ++ placed_run l.row l.axes l.array.elem.now l.array.bytes.now l.size (concat l.runs)
      ≡ l.initial.places.items ++ placed_run l.row l.axes l.array.elem.now l.array.bytes.now l.size l.array.view.now.places;
  near : All (λ k. k ≤ 2 ^ 32) (map (counted_from l.size) (numbers_at l.array.elem.now l.array.bytes.now (concat l.runs)));
}

abbrev pub decreases-loop-run : goal.decreases-loop-run
decreases-loop-run l = length l.runs
