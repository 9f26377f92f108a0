use Rattle.std.proofs.Common.{◌∙◌, ap, sym, option_map}
use Rattle.nd_heap.proofs.NameLists.{entries-found}
use Rattle.nd_session.specs.Session.Now.{value_now}
use Rattle.nd_session.specs.Session.Reading.{value_at}
use Rattle.nd_session.proofs.session.Agreeing.{lent_value}
use Rattle.nd_session.proofs.session.Fitting.{fits_none, fits_some, same_along}
use Rattle.nd_session.proofs.session.change.fitting.fits_name.Goals as goal

pub returns-in-Some : goal.returns-in-Some
returns-in-Some c =
    let es = c.args.names.now.entries in
    fits_some (value_now es c.args.name.now) (value_at c.in-Some.value.now) (value_at c.args.found.now) c.are_same_values.result
    (entries-found value_at c.args.name.now es ∙ ap (option_map value_at) (sym c.in-Some.ensures.value))
    (same_along c.are_same_values.result _ _ (value_at c.args.found.now) (value_at c.in-Some.value.now) (lent_value c.as_ref.result ∙ ap value_at c.as_ref.ensures.value) c.lend_value.ensures c.are_same_values.ensures)

pub returns-in-None : goal.returns-in-None
returns-in-None c =
    let es = c.args.names.now.entries in
    fits_none (value_now es c.args.name.now) (value_at c.args.found.now) (entries-found value_at c.args.name.now es ∙ ap (option_map value_at) (sym c.in-None.ensures.value))
