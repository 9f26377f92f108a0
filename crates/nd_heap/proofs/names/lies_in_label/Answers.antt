use Rattle.std.proofs.Common.{inl, inr, ap}
use Rattle.nd_model.specs.Arrays.Value as values
use Rattle.nd_heap.specs.Values.{base_of, value_of}
use Rattle.nd_heap.proofs.Held.{in_label}
use Rattle.nd_heap.proofs.names.lies_in_label.Goals as goal

pub returns-in-Array : goal.returns-in-Array
returns-in-Array c =
    in_label c.args.label (base_of c.in-Array.array.base) (value_of c.args.value.now)
    (λ b. elim c.in-Array.is [ inl array ↦ ap (λ v. values.lies_in b (value_of v)) array | inr row ↦ ap (λ v. values.lies_in b (value_of v)) row ])
