-- Whether a text was appended to a line that has a limit.
use Rattle.std.specs.Prelude.{◌≡◌, ℕ, ◌≤◌, ◌<◌, List, ◌++◌, length}
use Rattle.nd_print.specs.declared.arrays.Fit.{Fit}
use Rattle.nd_print.specs.declared.arrays.Fit.TheVariants.{Whole, TooLong}

-- the text stands behind the line, or there is no room for it and the line is as it was
abbrev pub Ends : ℕ → List ℕ → List ℕ → List ℕ → Fit → Type 0
Ends limit text old new Whole = (new ≡ old ++ text) × (length (old ++ text) ≤ limit)
Ends limit text old new TooLong = (new ≡ old) × (limit < length (old ++ text))
