use Rattle.std.proofs.Common.{◌∙◌, ap, ⊎_elim}
use Rattle.std.specs.Prelude.{is_ok}
use Rattle.nd_model.specs.Cells.Footprint.{patched}
use Rattle.nd_session.specs.Session.Found.{bytes_of, found_at}
use Rattle.nd_session.proofs.session.change.keeping.patch_shared.Goals as goal

pub returns : goal.returns
returns c = c.make_mut.follows.holds c.write.new.block (ap is_ok c.in_ok-own.was) ∙ c.write.ensures
    ∙ ap (patched (found_at (bytes_of c.args.found.now))) (⊎_elim (λ e. e) (λ e. e) c.in_ok-own.ensures.value)
