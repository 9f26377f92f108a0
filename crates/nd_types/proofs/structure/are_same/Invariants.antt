use Rattle.std.proofs.Common.{◌≡◌, take}
use Rattle.nd_types.specs.Fields.{fields_of}
use Rattle.nd_types.proofs.structure.are_same.Given as goal

abbrev pub invariant-loop-index : goal.invariant-loop-index
invariant-loop-index l = fields_of (take l.index l.these) ≡ fields_of (take l.index l.those)
