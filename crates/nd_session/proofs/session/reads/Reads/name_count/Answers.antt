use Rattle.std.proofs.Common.{◌∙◌, length, sym, ap}
use Rattle.nd_session.specs.Session.Reading.{value_at}
use Rattle.nd_session.specs.Session.Reads.{ReadsData}
use Rattle.nd_session.proofs.session.Reading.{length-by_text}
use Rattle.nd_session.proofs.session.reads.Reads.name_count.Goals as goal

pub returns : goal.returns
returns c = c.len.ensures.len ∙ sym (length-by_text value_at c.self.inside.names.entries) ∙ ap (λ (d : ReadsData). length d.names) c.self.view_is
