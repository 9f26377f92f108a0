use Rattle.std.proofs.Common.{◌∙◌, length, sym, ap}
use Rattle.nd_session.specs.Session.Reading.{length_at}
use Rattle.nd_session.specs.Session.Reads.{ReadsData}
use Rattle.nd_session.proofs.session.Reading.{length-by_base}
use Rattle.nd_session.proofs.session.reads.Reads.length_count.Goals as goal

pub returns : goal.returns
returns c = c.len.ensures.len ∙ sym (length-by_base length_at c.self.inside.lengths.entries) ∙ ap (λ (d : ReadsData). length d.lengths) c.self.view_is
