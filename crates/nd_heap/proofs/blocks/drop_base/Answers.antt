use Rattle.std.proofs.Common.{◌∙◌, ◌&&◌, not, inl, inr, ap, sym}
use Rattle.nd_model.specs.Arrays.Value as values
use Rattle.nd_heap.specs.Values.{value_of}
use Rattle.nd_heap.specs.Contents.{bases_of}
use Rattle.nd_heap.specs.Live.{is_base_among}
use Rattle.nd_heap.proofs.Held.{taken_base}
use Rattle.nd_heap.proofs.blocks.drop_base.Goals as goal

pub returns-in-Array-clause-left : goal.returns-in-Array-clause-left
returns-in-Array-clause-left c = λ b.
    let es = c.args.bases.now.entries in
    taken_base c.in-Array.array.base es c.swap_remove.new.self.entries c.swap_remove.ensures.updates.0 b
    ∙ (elim c.in-Array.is [
      | inl array ↦ ap (λ v. is_base_among (bases_of es) b && not (values.lies_in b (value_of v))) (sym array)
      | inr row ↦ ap (λ v. is_base_among (bases_of es) b && not (values.lies_in b (value_of v))) (sym row)
    ])
