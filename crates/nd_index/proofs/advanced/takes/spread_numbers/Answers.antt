use Rattle.nd_index.specs.Items.Items.{numbers_of}
use Rattle.nd_index.proofs.items.Items.{near_positions}
use Rattle.nd_index.proofs.advanced.takes.spread_numbers.Goals as goal

pub invariant_of-result-clause-near : goal.invariant_of-result-clause-near
invariant_of-result-clause-near c = near_positions 0 c.args.size (numbers_of c.args.array.now) c.requires.size (c.requires.inside 0)
