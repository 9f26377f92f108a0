use Rattle.std.proofs.Common.{◌≡◌, ◌++◌, replicate}
use Rattle.nd_npy.proofs.writing.header.push_spaces.Given as goal

abbrev pub invariant-loop-space : goal.invariant-loop-space
invariant-loop-space l = l.out.items ≡ l.initial.out.items ++ replicate l._space 32
