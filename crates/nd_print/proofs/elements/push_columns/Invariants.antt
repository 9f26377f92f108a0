use Rattle.std.proofs.Common.{◌≡◌, ◌++◌, take, string_bytes}
use Rattle.nd_print.specs.Texts.{columns_text}
use Rattle.nd_print.proofs.elements.push_columns.Given as goal

abbrev pub invariant-loop-index : goal.invariant-loop-index
invariant-loop-index l = string_bytes l.line ≡ string_bytes l.initial.line ++ columns_text (take l.index l.columns) l.element
