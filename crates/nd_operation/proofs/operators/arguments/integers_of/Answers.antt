use Rattle.std.proofs.Common.{◌≡◌, ◌+◌, FitsSigned, List, [], ◌∷◌, ◌++◌, drop, map, sym, ap, ◌∙◌, rules}
use Rattle.std.specs.Int.{w128}
use mir.Facts.{to_z-of_z}
use Rattle.nd_model.specs.Making.Creation.{integers_of}
use Rattle.nd_heap.specs.declared.value.Value.{Value}
use Rattle.nd_operation.specs.Operators.Contents.{unused_of}
use Rattle.nd_operation.proofs.operators.Creating.{before_integers, one_integer}
use Rattle.nd_operation.proofs.operators.InTurn.{next_item}
use Rattle.nd_operation.proofs.operators.arguments.integers_of.Goals as goal

pub loop-value-preserved : goal.loop-value-preserved
loop-value-preserved c =
    let vs : List Value = c.args.values.now in
    let v : Value = c.value-item.result in
    let rest : List Value = drop (c.loop-value.value-index + 1) vs in
    let done = c.loop-value.integers.items in
    let next : drop c.loop-value.value-index vs ≡ v ∷ rest = next_item vs c.loop-value.value-index v c.loop-value-test.true c.value-item.is in
    let in_range : FitsSigned w128 c.in_ok-integer_of.field-0 = search rules in
    c.loop-value.invariant ∙ ap (λ (l : List Value). before_integers done (integers_of (map unused_of l))) next
    ∙ one_integer (unused_of v) (map unused_of rest) c.in_ok-integer_of.field-0 done c.in_ok-integer_of.ensures
    ∙ ap (λ l. before_integers l (integers_of (map unused_of rest))) (sym (c.in_ok-push.ensures.ok ∙ ap (λ z. done ++ z ∷ []) (to_z-of_z in_range)))
