use Rattle.std.proofs.Common.{rules, ◌∙◌, ap, nat_eq}
use Rattle.indexmap.proofs.CallerLemmas.{filter-RetainsPairs}
use Rattle.nd_model.specs.Arrays.Value.{Base}
use Rattle.nd_heap.specs.Contents.{bases_of}
use Rattle.nd_heap.specs.Live.{is_base_among}
use Rattle.nd_heap.proofs.Loosening.{left_by}
use Rattle.nd_heap.proofs.blocks.retain_label.Goals as goal

pub returns : goal.returns
returns c = λ b. ap (λ es. is_base_among (bases_of es) b) (filter-RetainsPairs _ _ _ (λ k v b w g call. search rules) _ _ c.retain.ensures.filtered)
    ∙ left_by (λ (d : Base). nat_eq d.label c.args.label) c.args.bases.now.entries b
