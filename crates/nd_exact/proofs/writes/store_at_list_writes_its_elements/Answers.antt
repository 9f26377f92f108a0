use Rattle.nd_exact.proofs.WriteRows.{store_at_list_writes_its_elements}
use Rattle.nd_exact.proofs.writes.store_at_list_writes_its_elements.Goals as goal

pub returns : goal.returns
returns c = store_at_list_writes_its_elements
