use Rattle.std.proofs.Common.{◌≡◌, ◌++◌, drop}
use Rattle.nd_model.specs.Formats.NpyWriting as model
use Rattle.nd_npy.proofs.writing.header.push_latin.Given as goal

abbrev pub invariant-loop-byte : goal.invariant-loop-byte
invariant-loop-byte l =
    l.out.items ++ model.latin_bytes l.before (drop l.byte-index l.text) ≡ l.initial.out.items ++ model.latin_bytes 0 l.text
