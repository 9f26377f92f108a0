use Rattle.std.proofs.Common.{◌≡◌, drop}
use Rattle.nd_model.specs.Formats.NpyHeader as header
use Rattle.nd_npy.proofs.header.kinds.quote_ahead.Given as goal

abbrev pub invariant-loop-byte : goal.invariant-loop-byte
invariant-loop-byte l = header.quote_ahead l.rest ≡ header.quote_ahead (drop l.byte-index l.rest)
