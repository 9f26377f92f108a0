use Rattle.std.proofs.Common.{None, refl}
use Rattle.nd_session.proofs.session.Standing.{nothing_in}
use Rattle.nd_session.proofs.session.change.change.Change.new.Goals as goal

pub returns : goal.returns
returns c = nothing_in (record { names = c.new.result; inputs = c.new-2.result; blocks = c.new-3.result; parts = c.new-4.result; rule = None; alloc = c.args.alloc }) c.new.ensures.empty c.new-2.ensures.empty c.new-3.ensures.empty c.new-4.ensures.empty refl
