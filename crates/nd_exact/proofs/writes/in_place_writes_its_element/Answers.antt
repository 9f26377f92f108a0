use Rattle.nd_exact.proofs.WriteRows.{in_place_writes_its_element}
use Rattle.nd_exact.proofs.writes.in_place_writes_its_element.Goals as goal

pub returns : goal.returns
returns c = in_place_writes_its_element
