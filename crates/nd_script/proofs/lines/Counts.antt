-- Counts that go on.
use Rattle.std.proofs.Common.{◌≡◌, ℕ, ◌+◌, arith}
use Rattle.nd_script.specs.Lines.Ends.{counted_on}

pub counted_none : (count : ℕ) → count ≡ counted_on count 0
counted_none count = omega arith

pub counted_more : (count more : ℕ) → counted_on (counted_on count more) 1 ≡ counted_on count (more + 1)
counted_more count more = omega arith
