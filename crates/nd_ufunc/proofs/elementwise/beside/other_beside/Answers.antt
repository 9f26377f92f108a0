use Rattle.std.proofs.Common.{◌≡◌, List, ℕ, refl, sym, ap, ◌∙◌}
use Rattle.nd_model.specs.Arrays.Broadcast.{broadcast_view}
use Rattle.nd_model.specs.Arrays.View.{Geo}
use Rattle.nd_view.proofs.SameViews.{numbers}
use Rattle.nd_ufunc.proofs.elementwise.Overwritten.{places_again}
use Rattle.nd_ufunc.proofs.elementwise.beside.other_beside.Goals as goal

pub returns-then-eq : goal.returns-then-eq
returns-then-eq c =
    let g : Geo = c.args.view.now in
    let same : g.shape ≡ c.args.shape.now = sym c.shape.ensures.value ∙ (numbers c.shape.result.now c.args.shape.now).0 (sym c.eq.ensures ∙ c.if-eq.true) in
    (refl, refl, sym (ap (λ (s : List ℕ). (broadcast_view g s).places) (sym same) ∙ places_again g c.requires.count))
