use Rattle.std.proofs.Common.{◌≡◌, ℕ, List, refl, sym, ap, ◌∙◌}
use Rattle.std.proofs.lemmas.Result.{IfOk-weaker}
use Rattle.nd_model.specs.Arrays.View.{Geo}
use Rattle.nd_assign.specs.Sources.{with_source}
use Rattle.nd_index.specs.Advanced.Chosen.{view_at}
use Rattle.nd_scatter.specs.Scattered.{written_by}
use Rattle.nd_scatter.proofs.preparation.prepare_scatter.Goals as goal

pub returns-in-Other-clause-written : goal.returns-in-Other-clause-written
returns-in-Other-clause-written c =
    let g : Geo = view_at c.args.view.now c.args.places.now in let block : List ℕ = c.args.block.now in
    IfOk-weaker c.prepare_elements-in-Other.result _ (λ s. written_by s block ≡ with_source g c.args.source block)
    (λ s all. all block refl ∙ ap (λ v. with_source g v block) (sym c.in-Other.is)) c.prepare_elements-in-Other.ensures.written
