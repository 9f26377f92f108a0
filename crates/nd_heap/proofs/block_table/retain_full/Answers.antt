use Rattle.std.proofs.Common.{rules, ◌∙◌, ap, length, nat_eq, not}
use Rattle.indexmap.proofs.CallerLemmas.{filter-RetainsPairs}
use Rattle.nd_heap.specs.Contents.{bases_of}
use Rattle.nd_heap.specs.Live.{bytes_at, is_base_among}
use Rattle.nd_heap.proofs.Loosening.{left_by}
use Rattle.nd_heap.proofs.block_table.retain_full.Goals as goal

pub returns-clause-left : goal.returns-clause-left
returns-clause-left c = λ b. ap (λ es. is_base_among (bases_of es) b) (filter-RetainsPairs _ _ _ (λ k v b w g call. search rules) _ _ c.retain.ensures.filtered)
    ∙ left_by (λ d. not (nat_eq (length (bytes_at c.args.blocks.now.blocks d)) 0)) c.args.bases.now.entries b
