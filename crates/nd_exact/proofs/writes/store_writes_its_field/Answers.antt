use Rattle.nd_exact.proofs.WriteRows.{store_writes_its_field}
use Rattle.nd_exact.proofs.writes.store_writes_its_field.Goals as goal

pub returns : goal.returns
returns c = store_writes_its_field
