use Rattle.std.proofs.Common.{◌∙◌, ap}
use Rattle.indexmap.specs.IndexMap.{insert_entry}
use Rattle.nd_marks.specs.Marks.{holds}
use Rattle.nd_heap.proofs.Bases.{at_err, base_eq, on_err}
use Rattle.nd_trace.proofs.Places.{joined_new, kept_there, set_there}
use Rattle.nd_trace.proofs.marking.join.Goals as goal

pub returns-in_default-clause-ok : goal.returns-in_default-clause-ok
returns-in_default-clause-ok c = joined_new c.args.base c.args.more c.args.marked.now.entries c.insert.new.self.entries c.in_default.ensures.value
    (c.in_ok-insert.ensures.entries ∙ ap (λ m. insert_entry base_eq m.entries c.args.base c.args.more) c.get_mut.follows.holds-at-none)

pub returns-in_err-merge-clause-err : goal.returns-in_err-merge-clause-err
returns-in_err-merge-clause-err c = on_err _ (kept_there c.args.base c.in-Some.marks.now c.merge.new.self c.args.marked.now.entries _ (c.get_mut.follows.holds c.merge.new.self).0 c.in-Some.ensures.value
    (at_err _ _ c.in_err-merge.was c.merge.ensures.err))

pub returns-clause-ok : goal.returns-clause-ok
returns-clause-ok c = set_there c.args.base c.in-Some.marks.now c.merge.new.self c.args.marked.now.entries _ (holds c.args.more) (c.get_mut.follows.holds c.merge.new.self).0 c.in-Some.ensures.value
    c.in_ok-merge.ensures.ok
