use Rattle.std.proofs.Common.{◌≡◌, ℕ, List, refl, sym, ap, ◌∙◌}
use Rattle.std.proofs.lemmas.Result.{IfOk-weaker}
use Rattle.nd_assign.specs.Prepared.{written_by}
use Rattle.nd_assign.specs.Sources.{with_source}
use Rattle.nd_assign.proofs.preparation.prepare.Goals as goal

pub returns-in-Other-clause-written : goal.returns-in-Other-clause-written
returns-in-Other-clause-written c =
    let g = c.args.target.now in let block : List ℕ = c.args.block.now in
    IfOk-weaker c.prepare_other.result _ (λ a. written_by a block ≡ with_source g c.args.source block)
    (λ a all. all block refl ∙ ap (λ s. with_source g s block) (sym c.in-Other.is)) c.prepare_other.ensures.written
