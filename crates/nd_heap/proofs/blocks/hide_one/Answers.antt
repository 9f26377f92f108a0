use Rattle.std.proofs.Common.{◌∙◌, eqb-true, sym, ap}
use Rattle.nd_heap.specs.Contents.{bases_of, blocks_of}
use Rattle.nd_heap.specs.Live.{is_base_among}
use Rattle.nd_heap.specs.Values.{base_of}
use Rattle.nd_heap.proofs.Held.{base-insert}
use Rattle.nd_heap.proofs.Hiding.{hidden_none, hidden_one}
use Rattle.nd_heap.proofs.Plain.{no_entries}
use Rattle.nd_heap.proofs.blocks.hide_one.Goals as goal

pub returns-then-is_empty-clause-bytes : goal.returns-then-is_empty-clause-bytes
returns-then-is_empty-clause-bytes c = hidden_none (bases_of c.args.gone.now.entries) (blocks_of c.args.blocks.now.entries) (base_of c.args.base)
    (sym c.bytes_of.ensures ∙ no_entries _ (eqb-true _ _ (sym c.is_empty.ensures ∙ c.if-is_empty.true)))

pub returns-clause-bytes : goal.returns-clause-bytes
returns-clause-bytes c = hidden_one (bases_of c.args.gone.now.entries) _ (blocks_of c.args.blocks.now.entries) (base_of c.args.base)
    (λ b. ap (λ es. is_base_among (bases_of es) b) c.in-Ok.ensures.entries ∙ base-insert c.args.base c.args.gone.now.entries b)
