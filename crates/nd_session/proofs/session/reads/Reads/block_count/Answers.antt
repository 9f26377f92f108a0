use Rattle.std.proofs.Common.{◌∙◌, length, sym, ap}
use Rattle.nd_session.specs.Session.Found.{bytes_of}
use Rattle.nd_session.specs.Session.Reads.{ReadsData}
use Rattle.nd_session.proofs.session.Reading.{length-by_base}
use Rattle.nd_session.proofs.session.reads.Reads.block_count.Goals as goal

pub returns : goal.returns
returns c = c.len.ensures.len ∙ sym (length-by_base bytes_of c.self.inside.bytes.entries) ∙ ap (λ (d : ReadsData). length d.bytes) c.self.view_is
