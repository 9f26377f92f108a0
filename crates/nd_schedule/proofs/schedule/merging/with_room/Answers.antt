use Rattle.nd_schedule.proofs.schedule.Joining.{merged_none}
use Rattle.nd_schedule.proofs.schedule.merging.with_room.Goals as goal

pub returns : goal.returns
returns g c = λ old new.
    merged_none g.C.CellRunner.covers (λ r. g.C.CellRunner.recorded r.value) old new c.in_ok-with_capacity.field-0.items c.in_ok-with_capacity-2.field-0.items c.new.result.items c.in_ok-with_capacity.ensures.items c.in_ok-with_capacity-2.ensures.items c.new.ensures.items
