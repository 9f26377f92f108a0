use Rattle.std.proofs.Common.{◌∙◌, ap, cond, bytes_eq, Some}
use Rattle.nd_model.specs.Cells.Session as model
use Rattle.nd_session.specs.Session.Reading.{by_text, value_at}
use Rattle.nd_session.proofs.session.Reading.{text_insert}
use Rattle.nd_session.proofs.session.reads.note_name.Goals as goal

pub returns : goal.returns
returns c = λ n. ap (λ es. model.lookup n (by_text value_at es)) c.in_ok-insert.ensures.entries ∙ text_insert value_at c.in_ok-key.key c.in_ok-value.value c.args.reads.now.entries n
    ∙ (λ i. cond (bytes_eq n (c.in_ok-key.ensures.ok i)) (Some (c.in_ok-value.ensures i)) (model.lookup n (by_text value_at c.args.reads.now.entries)))
