use Rattle.std.proofs.Common.{◌≡◌, ◌∙◌, ap, sym, option_map}
use Rattle.std.specs.Prelude.{is_some}
use Rattle.nd_heap.specs.Values.{base_of}
use Rattle.nd_marks.specs.Kept.{kept_at}
use Rattle.nd_session.specs.Session.Change.{part_at}
use Rattle.nd_session.specs.Session.Now.{kept_in, part_now}
use Rattle.nd_session.proofs.session.Matching.{none_of_same}
use Rattle.nd_session.proofs.session.Reading.{base_found}
use Rattle.nd_session.proofs.session.change.matching.has_no_more.Goals as goal

pub returns-in-Some : goal.returns-in-Some
returns-in-Some c = λ yes p none.
    let here : part_now c.args.parts.now.entries (base_of c.args.base) p ≡ kept_at (kept_in c.in-Some.part.now) p
    = ap (λ o. part_at o p) (base_found kept_in c.args.base c.args.parts.now.entries ∙ ap (option_map kept_in) (sym c.in-Some.ensures.value)) in
    here ∙ none_of_same _ _ (sym (ap (λ k. is_some (kept_at k p)) c.as_ref.ensures) ∙ c.has_offsets_of.ensures yes p) none

pub returns-in-None : goal.returns-in-None
returns-in-None c = λ yes p none. ap (λ o. part_at o p) (base_found kept_in c.args.base c.args.parts.now.entries ∙ ap (option_map kept_in) (sym c.in-None.ensures.value))
