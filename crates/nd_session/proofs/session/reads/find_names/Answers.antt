use Rattle.std.proofs.Common.{add-one}
use Rattle.nd_model.specs.Cells.Session as model
use Rattle.nd_session.specs.Session.Kept.{version_of}
use Rattle.nd_session.specs.Session.Reading.{by_text, value_at}
use Rattle.nd_session.proofs.session.Reading.{text_noted}
use Rattle.nd_session.proofs.session.reads.find_names.Goals as goal

pub loop-name-preserved : goal.loop-name-preserved
loop-name-preserved c = λ n. rw add-one (text_noted (λ n. model.lookup n (version_of c.args.before.now).names) (by_text value_at c.loop-name.reads.entries) (by_text value_at c.note_name.new.reads.entries)
    c.args.names.now c.loop-name.name-index c.name-item.result c.as_str.result.now n c.loop-name-test.true c.name-item.is c.as_str.ensures.value (c.in_ok-note_name.ensures n) (c.loop-name.invariant n))
