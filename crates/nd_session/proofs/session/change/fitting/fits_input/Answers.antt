use Rattle.std.proofs.Common.{◌∙◌, ap, sym, option_map}
use Rattle.nd_heap.proofs.NameLists.{entries-found}
use Rattle.nd_session.specs.Session.Now.{input_now}
use Rattle.nd_session.specs.Session.Reading.{source_at}
use Rattle.nd_session.proofs.session.Agreeing.{lent_source}
use Rattle.nd_session.proofs.session.Fitting.{fits_none, fits_some, same_along}
use Rattle.nd_session.proofs.session.change.fitting.fits_input.Goals as goal

pub returns-in-Some : goal.returns-in-Some
returns-in-Some c =
    let es = c.args.inputs.now.entries in
    fits_some (input_now es c.args.name.now) (source_at c.in-Some.input.now) (source_at c.args.found.now) c.are_same_inputs.result
    (entries-found source_at c.args.name.now es ∙ ap (option_map source_at) (sym c.in-Some.ensures.value))
    (same_along c.are_same_inputs.result _ _ (source_at c.args.found.now) (source_at c.in-Some.input.now) (lent_source c.as_ref.result ∙ ap source_at c.as_ref.ensures.value) (lent_source c.as_ref-in-Some.result ∙ ap source_at c.as_ref-in-Some.ensures.value) c.are_same_inputs.ensures)

pub returns-in-None : goal.returns-in-None
returns-in-None c =
    let es = c.args.inputs.now.entries in
    fits_none (input_now es c.args.name.now) (source_at c.args.found.now) (entries-found source_at c.args.name.now es ∙ ap (option_map source_at) (sym c.in-None.ensures.value))
