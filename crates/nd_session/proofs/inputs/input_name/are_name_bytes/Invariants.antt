use Rattle.std.proofs.Common.{◌≡◌, drop}
use Rattle.nd_model.specs.Cells.InputName.{are_name_bytes}
use Rattle.nd_session.proofs.inputs.input_name.are_name_bytes.Given as goal

abbrev pub invariant-loop-byte : goal.invariant-loop-byte
invariant-loop-byte l = are_name_bytes l.bytes ≡ are_name_bytes (drop l.byte-index l.bytes)
