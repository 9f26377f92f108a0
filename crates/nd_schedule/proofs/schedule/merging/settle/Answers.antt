use Rattle.std.proofs.Common.{◌<◌, length, ap, ◌∙◌, arith}
use Rattle.nd_schedule.proofs.schedule.Coming.{settled}
use Rattle.nd_schedule.proofs.schedule.Kept.{as_many}
use Rattle.nd_schedule.proofs.schedule.Sweeping.{record_there}
use Rattle.nd_schedule.proofs.schedule.merging.settle.Goals as goal

pub returns-clause-placed : goal.returns-clause-placed
returns-clause-placed g c = λ old new j run made stale.
    let lt : c.args.k < length old.cells = omega (arith, c.requires.record, as_many (λ r. g.C.CellRunner.recorded r.value) old c.args.records.now run.records) in
    settled (λ n. g.C.CellRunner.recorded n.record.value) old new c.args.k j _ c.args.made c.in_default.is
    (ap g.C.CellRunner.recorded c.in_ok-record.ensures.cases ∙ record_there (λ r. g.C.CellRunner.recorded r.value) old c.args.records.now c.index-records-k.result c.args.k run.records lt c.index-records-k.is) made stale
