use Rattle.std.proofs.Common.{◌∙◌, length, sym, ap}
use Rattle.nd_session.specs.Session.Reading.{source_at}
use Rattle.nd_session.specs.Session.Reads.{ReadsData}
use Rattle.nd_session.proofs.session.Reading.{length-by_text}
use Rattle.nd_session.proofs.session.reads.Reads.input_count.Goals as goal

pub returns : goal.returns
returns c = c.len.ensures.len ∙ sym (length-by_text source_at c.self.inside.inputs.entries) ∙ ap (λ (d : ReadsData). length d.inputs) c.self.view_is
