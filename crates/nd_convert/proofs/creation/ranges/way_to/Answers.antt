use Rattle.std.proofs.Common.{pos, rules}
use Rattle.std.specs.Int.{w128}
use Rattle.std.proofs.lemmas.Int.{wrapping_mul_is}
use Rattle.nd_convert.proofs.creation.ranges.way_to.Goals as goal

pub returns : goal.returns
returns c = wrapping_mul_is w128 (pos c.args.place) c.args.step (search rules) c.ranges.step
