-- From here on the rest of the bytes do what all of them do from the start.
use Rattle.std.proofs.Common.{◌≡◌, drop}
use Rattle.nd_model.specs.Formats.FormatReading.{take_bytes}
use Rattle.nd_npy.specs.Pep3118.Gives.{progress_of}
use Rattle.nd_npy.proofs.pep3118.parse.take_bytes.Given as goal

abbrev pub invariant-loop-at : goal.invariant-loop-at
invariant-loop-at l = take_bytes (progress_of l.fn.progress) 0 l.roles l.bytes ≡ take_bytes (progress_of l.progress) l.at (drop l.at l.roles) (drop l.at l.bytes)
