use Rattle.std.specs.Int.{w128}
use Rattle.std.proofs.lemmas.Int.{wrapping_add_is}
use Rattle.nd_convert.proofs.creation.filling.next_number.Goals as goal

pub returns : goal.returns
returns c = wrapping_add_is w128 c.args.number c.args.step c.ranges.number c.ranges.step
