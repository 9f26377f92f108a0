use Rattle.std.proofs.Common.{◌≡◌}
use Rattle.nd_model.specs.Arrays.Value as values
use Rattle.nd_session.specs.Session.Now.{block_now}
use Rattle.nd_session.proofs.session.Dropping.{written_before}
use Rattle.nd_session.proofs.session.change.keeping.patch_blocks.Given as goal

abbrev pub invariant-loop-i : goal.invariant-loop-i
invariant-loop-i l = (b : values.Base) → block_now l.blocks.entries b ≡ written_before l.written.entries l.i (block_now l.fn.blocks.entries) b
