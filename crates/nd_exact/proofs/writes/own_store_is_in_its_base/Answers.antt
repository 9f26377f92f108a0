use Rattle.nd_exact.proofs.WriteRows.{own_store_is_in_its_base}
use Rattle.nd_exact.proofs.writes.own_store_is_in_its_base.Goals as goal

pub returns : goal.returns
returns c = own_store_is_in_its_base
