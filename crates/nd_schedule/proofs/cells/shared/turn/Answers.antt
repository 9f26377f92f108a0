use Rattle.std.proofs.Common.{◌+◌, ◌-◌, arith}
use Rattle.nd_schedule.proofs.cells.Turned.{turned_left, turned_right}
use Rattle.nd_schedule.proofs.cells.shared.turn.Goals as goal

pub returns-then-from-to : goal.returns-then-from-to
returns-then-from-to g c = λ x.
    turned_left c.args.list.now c.rotate_left.new.self c.args.from c.args.to (c.args.to + 1 - c.args.from) x (omega arith) (omega arith) (omega arith) c.rotate_left.ensures.after

pub returns-else-from-to : goal.returns-else-from-to
returns-else-from-to g c = λ x.
    turned_right c.args.list.now c.rotate_right.new.self c.args.from c.args.to (c.args.from + 1 - c.args.to) x (omega arith) (omega arith) (omega arith) c.rotate_right.ensures.after
