use Rattle.std.proofs.Common.{◌≡◌, ℕ, ◌<◌, true}
use Rattle.nd_model.specs.Arrays.Element.{fits}
use Rattle.nd_model.specs.Making.Creation.{range_number}
use Rattle.nd_types.specs.Kinds.{kind_of}
use Rattle.nd_convert.specs.Creation.Ranges.{range_from}
use Rattle.nd_convert.proofs.creation.ranges.range_misfit.Given as goal

abbrev pub invariant-loop-place : goal.invariant-loop-place
invariant-loop-place l = (j : ℕ) → j < l.place → fits (kind_of l.kind) (range_number (range_from l.range) j) ≡ true
