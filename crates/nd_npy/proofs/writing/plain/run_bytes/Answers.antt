use Rattle.nd_assign.proofs.Bytewise.{small_bytes}
use Rattle.nd_npy.proofs.writing.plain.run_bytes.Goals as goal

pub returns-clause-small : goal.returns-clause-small
returns-clause-small c = small_bytes c.args.bytes.now c.type_inv.bytes
