use Rattle.std.proofs.Common.{◌∙◌, ap, cond, length, Some}
use Rattle.nd_model.specs.Arrays.Value as values
use Rattle.nd_session.specs.Session.Found.{by_base, lookup_base}
use Rattle.nd_session.specs.Session.Reading.{length_at}
use Rattle.nd_heap.specs.Values.{base_of}
use Rattle.nd_session.proofs.session.Reading.{base_insert}
use Rattle.nd_session.proofs.session.reads.note_length.Goals as goal

pub returns : goal.returns
returns c = λ b. ap (λ es. lookup_base b (by_base length_at es)) c.in_ok-insert.ensures.entries ∙ base_insert length_at c.args.base (length c.bytes.result.now) c.args.reads.now.entries b
    ∙ ap (λ bs. cond (values.same_base b (base_of c.args.base)) (Some (length bs)) (lookup_base b (by_base length_at c.args.reads.now.entries))) c.bytes.ensures
