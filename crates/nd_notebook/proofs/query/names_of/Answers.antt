use Rattle.nd_notebook.proofs.Asked.{names_more}
use Rattle.nd_notebook.proofs.query.names_of.Goals as goal

pub loop-place-preserved : goal.loop-place-preserved
loop-place-preserved c =
    names_more c.loop-place.names.items c.push.new.self.items c.in_ok-from_str.field-0 c.name_at.result.now c.args.order.now c.loop-place.place c.loop-place.invariant c.in_ok-push.ensures.items c.in_ok-from_str.ensures.ok c.name_at.ensures
