-- From here on the rest of the bytes say what all of them say from the start.
use Rattle.std.proofs.Common.{◌≡◌, drop}
use Rattle.nd_model.specs.Formats.NpyHeader.{steps, start}
use Rattle.nd_npy.specs.Header.Gives.{encoding_of, state_of}
use Rattle.nd_npy.proofs.header.literal.follow.Given as goal

abbrev pub invariant-loop-at : goal.invariant-loop-at
invariant-loop-at l =
    steps (encoding_of l.encoding) start l.roles l.bytes ≡ steps (encoding_of l.encoding) (state_of l.state) (drop l.at l.roles) (drop l.at l.bytes)
