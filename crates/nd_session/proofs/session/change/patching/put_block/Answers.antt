use Rattle.std.proofs.Common.{◌∙◌, cond, ap, List, ℕ}
use Rattle.nd_heap.specs.Live.{bytes_at}
use Rattle.nd_heap.specs.Values.{base_of}
use Rattle.nd_model.specs.Arrays.Value.{Base}
use Rattle.nd_session.proofs.session.Reading.{same_base_sym}
use Rattle.nd_session.proofs.session.change.patching.put_block.Goals as goal

pub returns-clause-blocks : goal.returns-clause-blocks
returns-clause-blocks c = λ b. ap (λ (f : Base → List ℕ). f b) c.in_ok-put_block.ensures.ok
    ∙ (λ i. cond (same_base_sym (base_of c.args.base) b i) (c.in_ok-shared.ensures i) (bytes_at c.args.heap.now.blocks b))
