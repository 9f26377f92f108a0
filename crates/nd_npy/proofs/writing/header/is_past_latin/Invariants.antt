use Rattle.std.proofs.Common.{◌≡◌, drop}
use Rattle.nd_model.specs.Formats.NpyWriting as model
use Rattle.nd_npy.proofs.writing.header.is_past_latin.Given as goal

abbrev pub invariant-loop-byte : goal.invariant-loop-byte
invariant-loop-byte l = model.is_past_latin (drop l.byte-index l.text) ≡ model.is_past_latin l.text
