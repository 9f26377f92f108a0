use Rattle.std.proofs.Common.{◌≡◌, drop}
use Rattle.nd_model.specs.Arrays.Structure as structure
use Rattle.nd_types.proofs.name.are_name_bytes.Given as goal

abbrev pub invariant-loop-byte : goal.invariant-loop-byte
invariant-loop-byte l = structure.are_name_bytes l.before (drop l.byte-index l.bytes) ≡ structure.are_name_bytes 0 l.bytes
