use Rattle.std.proofs.Common.{rules, ◌∙◌, ap, not}
use Rattle.indexmap.proofs.CallerLemmas.{filter-RetainsPairs}
use Rattle.nd_model.specs.Cells.Session.{is_held}
use Rattle.nd_heap.specs.Contents.{bases_of}
use Rattle.nd_heap.specs.Live.{is_base_among}
use Rattle.nd_heap.proofs.Loosening.{left_by}
use Rattle.nd_heap.proofs.blocks.retain_unheld.Goals as goal

pub returns-clause-left : goal.returns-clause-left
returns-clause-left c = λ b. ap (λ es. is_base_among (bases_of es) b) (filter-RetainsPairs _ _ _ (λ k v b w g call. search rules) _ _ c.retain.ensures.filtered)
    ∙ left_by (λ d. not (is_held d c.args.names.now)) c.args.bases.now.entries b
