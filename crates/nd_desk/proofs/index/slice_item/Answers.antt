use Rattle.nd_desk.proofs.Indexes.{four_bounds}
use Rattle.nd_desk.proofs.index.slice_item.Goals as goal

pub returns-in_default-Some : goal.returns-in_default-Some
returns-in_default-Some c =
    let second = rw c.in-Some.is at c.split_bound.ensures in
    let third = rw c.in_default-Some.is-1 at c.split_bound-2.ensures in
    rw (second, third) (four_bounds c.args.start.now c.split_bound.result.0.now c.split_bound-2.result.0.now c.in_default-Some.field-0-1.now)
