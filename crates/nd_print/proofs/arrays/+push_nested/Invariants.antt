use Rattle.std.proofs.Common.{◌≡◌, ◌+◌, ◌-◌, ◌*◌, ◌≤◌, ◌++◌, length, drop, string_bytes}
use Rattle.std.specs.List.{All, concat}
use Rattle.nd_model.specs.Arrays.Runs.{last_length}
use Rattle.nd_model.specs.Arrays.Tuple.{elements_of}
use Rattle.nd_print.specs.Texts.{text_at}
use Rattle.nd_print.proofs.Nested.{further}
use Rattle.nd_print.proofs.arrays.+push_nested.Given as goal

abbrev pub decreases-push_nested : goal.decreases-push_nested
decreases-push_nested l = length l.shape.now

abbrev pub invariant-loop : goal.invariant-loop
invariant-loop l = record {
  text : string_bytes l.line ++ further (text_at l.layout.is_structure l.layout.columns.items l.bytes) (l.depth + 1) l.below (l.end - l.counter) (concat l.rows)
      ≡ string_bytes l.initial.line ++ further (text_at l.layout.is_structure l.layout.columns.items l.bytes) (l.depth + 1) l.below (l.end - 1) (concat l.initial.rows);
  rest : drop ((l.end - l.counter) * elements_of l.below) (concat l.rows) ≡ drop ((l.end - 1) * elements_of l.below) (concat l.initial.rows);
  rows : All (λ row. length row ≡ last_length l.shape) l.rows;
  whole : (l.end - l.counter) * elements_of l.below ≤ length (concat l.rows);
}
