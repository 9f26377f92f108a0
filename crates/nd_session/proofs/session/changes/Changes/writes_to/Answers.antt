use Rattle.std.proofs.Common.{◌∙◌, sym, ap}
use Rattle.nd_heap.specs.Values.{base_of}
use Rattle.nd_session.specs.Session.Changes.{ChangesData, writes_in}
use Rattle.nd_session.specs.Session.Found.{byte_at, bytes_of}
use Rattle.nd_session.proofs.session.Reading.{base_lacks}
use Rattle.nd_session.proofs.session.changes.Changes.writes_to.Goals as goal

pub returns : goal.returns
returns c = λ no p. sym (ap (λ (d : ChangesData). writes_in d (base_of c.args.base) p) c.self.view_is)
    ∙ ap (λ o. byte_at o p) (base_lacks bytes_of c.args.base c.self.inside.written.entries (sym c.contains_key.ensures ∙ no))
