use Rattle.nd_assign.proofs.Placed.{assigned_places}
use Rattle.nd_assign.proofs.assigned_places.Goals as goal

pub returns : goal.returns
returns c = assigned_places
