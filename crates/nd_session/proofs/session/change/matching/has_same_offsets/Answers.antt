use Rattle.std.proofs.Common.{◌∙◌, ap, sym, option_map}
use Rattle.std.specs.Prelude.{is_some}
use Rattle.nd_session.specs.Session.Found.{byte_at, bytes_of}
use Rattle.nd_session.proofs.session.Reading.{base_found}
use Rattle.nd_session.proofs.session.change.matching.has_same_offsets.Goals as goal

pub returns-in-Some : goal.returns-in-Some
returns-in-Some c = λ yes p. c.has_offsets_of.ensures yes p
    ∙ ap is_some (sym (ap (λ o. byte_at o p) (base_found bytes_of c.args.base c.args.others.now.entries ∙ ap (option_map bytes_of) (sym c.in-Some.ensures.value))))
