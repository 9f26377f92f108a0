use Rattle.std.proofs.Common.{◌≡◌, ◌*◌, ◌≤◌, length}
use Rattle.std.specs.List.{filter}
use Rattle.nd_model.specs.Arrays.Tuple.{count_up}
use Rattle.nd_marks.specs.Marks.{in_page}
use Rattle.nd_marks.proofs.walk.count_page.Given as goal

abbrev pub invariant-loop-at : goal.invariant-loop-at
invariant-loop-at l = record {
  is : l.count ≡ length (filter (in_page l.words) (count_up 0 (l.at * 64)));
  most : l.count ≤ l.at * 64;
}
