use Rattle.std.proofs.Common.{◌∙◌, ◌||◌, inl, inr, ap, sym}
use Rattle.nd_model.specs.Arrays.Value as values
use Rattle.nd_heap.specs.Values.{value_of}
use Rattle.nd_heap.specs.Contents.{bases_of}
use Rattle.nd_heap.specs.Live.{is_base_among}
use Rattle.nd_heap.proofs.Bases.{on_err}
use Rattle.nd_heap.proofs.Held.{base-insert}
use Rattle.nd_heap.proofs.blocks.note_base.Goals as goal

pub returns-in_ok-insert-in-Array-clause-ok : goal.returns-in_ok-insert-in-Array-clause-ok
returns-in_ok-insert-in-Array-clause-ok c = λ b. ap (λ es. is_base_among (bases_of es) b) c.in_ok-insert-in-Array.ensures.entries ∙ base-insert c.in-Array.array.base c.args.bases.now.entries b
    ∙ (elim c.in-Array.is [
      | inl array ↦ ap (λ v. is_base_among (bases_of c.args.bases.now.entries) b || values.lies_in b (value_of v)) (sym array)
      | inr row ↦ ap (λ v. is_base_among (bases_of c.args.bases.now.entries) b || values.lies_in b (value_of v)) (sym row)
    ])

pub returns-in_err-insert-in-Array-clause-err : goal.returns-in_err-insert-in-Array-clause-err
returns-in_err-insert-in-Array-clause-err c = on_err _ (ap bases_of c.in_err-insert-in-Array.ensures.err)
