use Rattle.std.proofs.Common.{◌≡◌, ◌+◌, ◌≤◌, ◌++◌, length, take, drop}
use Rattle.nd_index.proofs.advanced.Trues.{trues_of}
use Rattle.nd_index.proofs.advanced.masks.write_each_true.Given as goal

abbrev pub invariant-loop-at : goal.invariant-loop-at
invariant-loop-at l = record {
  room : length l.numbers ≡ length l.initial.numbers;
  few : l.count ≤ l.at;
  done : take l.count l.numbers ++ trues_of l.elem l.bytes (l.first + l.at) (drop l.at l.run) ≡ trues_of l.elem l.bytes l.first l.run;
}
