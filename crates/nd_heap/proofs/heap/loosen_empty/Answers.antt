use Rattle.std.proofs.Common.{◌∙◌, refl, ap}
use Rattle.nd_heap.specs.Contents.{bases_of}
use Rattle.nd_heap.specs.Live.{is_base_among}
use Rattle.nd_heap.specs.Values.{base_of}
use Rattle.nd_heap.proofs.Held.{base-insert}
use Rattle.nd_heap.proofs.Plain.{or_true}
use Rattle.nd_heap.proofs.Same.{base_same}
use Rattle.nd_heap.proofs.heap.loosen_empty.Goals as goal

pub returns-in_ok-insert-clause-more : goal.returns-in_ok-insert-clause-more
returns-in_ok-insert-clause-more c = λ b was.
    ap (λ es. is_base_among (bases_of es) b) c.in_ok-insert.ensures.entries ∙ base-insert c.args.base c.args.loose.now.entries b ∙ rw was refl

pub returns-in_ok-insert-clause-empty : goal.returns-in_ok-insert-clause-empty
returns-in_ok-insert-clause-empty c = λ lacks.
    let base = base_of c.args.base in
    ap (λ es. is_base_among (bases_of es) base) c.in_ok-insert.ensures.entries ∙ base-insert c.args.base c.args.loose.now.entries base
    ∙ rw (base_same base) (or_true (is_base_among (bases_of c.args.loose.now.entries) base))
