use Rattle.nd_exact.proofs.WriteRows.{store_by_mask_writes_its_elements}
use Rattle.nd_exact.proofs.writes.store_by_mask_writes_its_elements.Goals as goal

pub returns : goal.returns
returns c = store_by_mask_writes_its_elements
