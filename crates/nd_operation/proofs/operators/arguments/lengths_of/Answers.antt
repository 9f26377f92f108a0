use Rattle.std.proofs.Common.{◌≡◌, ◌+◌, List, ◌∷◌, drop, map, sym, ap, ◌∙◌}
use Rattle.nd_model.specs.Making.Creation.{lengths_of}
use Rattle.nd_heap.specs.declared.value.Value.{Value}
use Rattle.nd_operation.specs.Operators.Contents.{unused_of}
use Rattle.nd_operation.specs.Operators.New.{clip_lengths}
use Rattle.nd_operation.proofs.operators.Creating.{before, one_length}
use Rattle.nd_operation.proofs.operators.InTurn.{next_item}
use Rattle.nd_operation.proofs.operators.arguments.lengths_of.Goals as goal

pub loop-value-preserved : goal.loop-value-preserved
loop-value-preserved c =
    let vs : List Value = c.args.values.now in
    let v : Value = c.value-item.result in
    let rest : List Value = drop (c.loop-value.value-index + 1) vs in
    let done = c.loop-value.lengths.items in
    let next : drop c.loop-value.value-index vs ≡ v ∷ rest = next_item vs c.loop-value.value-index v c.loop-value-test.true c.value-item.is in
    c.loop-value.invariant ∙ ap (λ (l : List Value). before done (clip_lengths (lengths_of (map unused_of l)))) next
    ∙ one_length (unused_of v) (map unused_of rest) c.in_ok-length_of.field-0 done c.in_ok-length_of.ensures
    ∙ ap (λ l. before l (clip_lengths (lengths_of (map unused_of rest)))) (sym c.in_ok-push.ensures.ok)
