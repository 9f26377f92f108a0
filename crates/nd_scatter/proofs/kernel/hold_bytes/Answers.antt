use Rattle.nd_assign.proofs.Bytewise.{small_bytes}
use Rattle.nd_scatter.proofs.kernel.hold_bytes.Goals as goal

pub returns : goal.returns
returns c = small_bytes c.args.bytes.now c.type_inv.bytes
