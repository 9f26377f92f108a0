use Rattle.std.proofs.Common.{◌≡◌, ◌*◌, length, min}
use Rattle.std.specs.List.{filter}
use Rattle.nd_model.specs.Arrays.Tuple.{count_up}
use Rattle.nd_marks.specs.Marks.{has_bit, pages_of}
use Rattle.nd_marks.proofs.walk.count_bits.Given as goal

abbrev pub invariant-loop-page : goal.invariant-loop-page
invariant-loop-page l = l.count ≡ min (length (filter (has_bit (pages_of l.pages)) (count_up 0 (l.page-index * 32768)))) l.most
