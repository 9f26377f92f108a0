use Rattle.nd_types.specs.Fields.{fields_of}
use Rattle.nd_types.proofs.Sized.{sized}
use Rattle.nd_types.proofs.structure.RecType.size.Goals as goal

pub returns-clause-range : goal.returns-clause-range
returns-clause-range c = sized (fields_of c.self.inside.fields.items) c.self.inside.size c.self.invariant
