use Rattle.std.proofs.Common.{◌≡◌, subst, arith}
use Rattle.nd_schedule.specs.Cells.Shared.{each_of}
use Rattle.nd_schedule.specs.Schedule.Merge.{AreMerged}
use Rattle.nd_schedule.proofs.schedule.merging.copy_front.Goals as goal

pub loop-k-init : goal.loop-k-init
loop-k-init g c = λ old new run front all. all

pub loop-k-preserved : goal.loop-k-preserved
loop-k-preserved g c = λ old new run front all.
    c.in_ok-put_behind.ensures old new (omega (arith, c.loop-k-test.true, front.within)) (c.in_ok-placed.ensures.placed old new c.loop-k.k run (front.same c.loop-k.k (omega (arith, c.loop-k-test.true))) (front.fresh c.loop-k.k (omega (arith, c.loop-k-test.true))))
    (c.loop-k.invariant old new run front all)

pub returns : goal.returns
returns g c = λ old new run front all. let e : c.loop-k.k ≡ c.args.count = omega arith in
    subst (λ n. AreMerged g.C.CellRunner.covers old new n (each_of g.C.CellRunner.recorded c.loop-k.merged.records.items) c.loop-k.merged.words.items c.loop-k.merged.ran.items) e (c.loop-k.invariant old new run front all)
