use Rattle.std.proofs.Common.{◌≡◌, ◌∙◌, ℕ, Some, None, ap, sym, refl, subst, option_map}
use Rattle.std.specs.Prelude.{◌↔◌, IsTrue}
use Rattle.nd_heap.specs.Values.{base_of}
use Rattle.nd_marks.specs.Kept.{KeptData, kept_at}
use Rattle.nd_session.specs.Session.Change.{part_at}
use Rattle.nd_session.specs.Session.Now.{kept_in, part_now}
use Rattle.nd_session.specs.Session.Found.{bytes_of, found_at}
use Rattle.nd_session.proofs.session.Fitting.{IsByteFound}
use Rattle.nd_session.proofs.session.Reading.{base_found}
use Rattle.nd_session.proofs.session.Standing.{none_some}
use Rattle.nd_session.proofs.session.change.fitting.fits_part.Goals as goal

pub returns-in-Some : goal.returns-in-Some
returns-in-Some c =
    let e = bytes_of c.args.found.now in
    let here : part_now c.args.parts.now.entries (base_of c.args.base) ≡ kept_at (kept_in c.in-Some.part.now)
    = ap (λ o p. part_at o p) (base_found kept_in c.args.base c.args.parts.now.entries ∙ ap (option_map kept_in) (sym c.in-Some.ensures.value)) in
    subst (λ (w : ℕ → _). IsTrue c.agrees.result ↔ IsByteFound w e) (sym here)
    (subst (λ (k : KeptData). IsTrue c.agrees.result ↔ IsByteFound (kept_at k) e) c.as_ref.ensures c.agrees.ensures)

pub returns-in-None : goal.returns-in-None
returns-in-None c = (
  λ yes p a n at there. none_some a (sym (ap (λ o. part_at o p) (base_found kept_in c.args.base c.args.parts.now.entries ∙ ap (option_map kept_in) (sym c.in-None.ensures.value))) ∙ at),
  λ all. refl,
)
