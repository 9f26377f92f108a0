use Rattle.std.proofs.Common.{◌≡◌, true, rules}
use Rattle.nd_schedule.proofs.schedule.Standing.{could, leads_turn}
use Rattle.nd_schedule.proofs.schedule.snapshots.thawed.Goals as goal

pub loop-change-preserved : goal.loop-change-preserved
loop-change-preserved g c =
    let put : c.in_ok-patch.field-0 ≡ true = first_of (search (rules, c.if-not-branch.false), search (rules, could, c.if-not-branch.false)) in
    record {
      items = c.deref-change-items.ensures.value;
      leads = λ b h.
          leads_turn g.C.CellRunner.change_of c.deref-change-items.result.now c.loop-change.change-index c.change-item.result _ _ _ c.loop-change-test.true c.change-item.is (c.in_ok-patch.ensures.over put) (c.loop-change.invariant.leads b h);
      once = λ b h. c.in_ok-patch.ensures.once put;
    }
