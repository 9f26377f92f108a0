use Rattle.std.proofs.Common.{◌≡◌, [], ◌∷◌, ◌++◌, map, take, string_bytes}
use Rattle.nd_model.specs.Text.Text.{joined}
use Rattle.nd_print.specs.Texts.{text_at}
use Rattle.nd_print.proofs.arrays.push_row.Given as goal

abbrev pub invariant-loop-number : goal.invariant-loop-number
invariant-loop-number l =
    string_bytes l.line ≡ string_bytes l.initial.line
    ++ joined (32 ∷ []) (map (text_at l.layout.is_structure l.layout.columns.items l.bytes) (take l.number l.run))
