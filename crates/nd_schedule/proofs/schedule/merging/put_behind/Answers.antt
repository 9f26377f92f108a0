use Rattle.nd_schedule.proofs.schedule.Joining.{merged_kept, merged_run}
use Rattle.nd_schedule.proofs.schedule.merging.put_behind.Goals as goal

pub returns-in_ok-push-3 : goal.returns-in_ok-push-3
returns-in_ok-push-3 g c = λ old new lt placed all.
    merged_run g.C.CellRunner.covers (λ r. g.C.CellRunner.recorded r.value) old new c.args.now lt c.args.merged.now.records.items c.push.new.self.items c.args.merged.now.words.items c.push-2.new.self.items c.args.placed.record c.args.placed.word
    c.in_ok-push.ensures.items c.in_ok-push-2.ensures.items c.requires c.args.placed.is_run placed c.args.merged.now.ran.items all _ c.if-placed.true c.in_ok-push-3.ensures.items

pub returns-else-placed : goal.returns-else-placed
returns-else-placed g c = λ old new lt placed all.
    merged_kept g.C.CellRunner.covers (λ r. g.C.CellRunner.recorded r.value) old new c.args.now lt c.args.merged.now.records.items c.push.new.self.items c.args.merged.now.words.items c.push-2.new.self.items c.args.placed.record c.args.placed.word
    c.in_ok-push.ensures.items c.in_ok-push-2.ensures.items c.requires c.args.placed.is_run placed c.args.merged.now.ran.items all c.if-placed.false
