-- The kind of `(` where it does not matter whether it has a comma of its own.
use Rattle.std.specs.Prelude.{ℕ, ◌==◌, ◌&&◌, not, Bool, List, if◌then◌else◌}
use Rattle.nd_model.specs.Grammar.Token.{Token}
use Rattle.nd_model.specs.Grammar.Kinds.{is_before}

abbrev pub kind_of_opening : Bool → ℕ → List Token → ℕ
kind_of_opening starts column rest = if starts && not (column == 1) then 127 else (if is_before 13 rest then 31 else 12)
