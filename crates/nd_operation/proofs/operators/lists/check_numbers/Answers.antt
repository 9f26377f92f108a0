use Rattle.std.proofs.Common.{◌+◌, drop, refl, sym, ap, ◌∙◌, Err}
use Rattle.std.proofs.lemmas.List.{drop_all}
use Rattle.nd_operation.specs.Refusals.Faults.{fault_of}
use Rattle.nd_operation.proofs.operators.InTurn.{next_item}
use Rattle.nd_operation.proofs.operators.Listing.{are_python, all_python, some_not_python, next_python, no_python}
use Rattle.nd_operation.proofs.operators.lists.check_numbers.Goals as goal

pub loop-value-init : goal.loop-value-init
loop-value-init c = refl

pub returns-then-not-is_python_number : goal.returns-then-not-is_python_number
returns-then-not-is_python_number c =
    some_not_python c.args.values.now (no_python c.args.values.now c.value-item.result (drop c.loop-value.value-index c.args.values.now) (drop (c.loop-value.value-index + 1) c.args.values.now) c.loop-value.invariant (next_item c.args.values.now c.loop-value.value-index c.value-item.result c.loop-value-test.true c.value-item.is) (sym c.is_python_number.ensures ∙ c.if-not-is_python_number.true))
    ∙ sym (ap (λ f. Err (fault_of f)) c.bad_argument.ensures)

pub loop-value-preserved : goal.loop-value-preserved
loop-value-preserved c = next_python c.args.values.now c.value-item.result (drop c.loop-value.value-index c.args.values.now) (drop (c.loop-value.value-index + 1) c.args.values.now) c.loop-value.invariant (next_item c.args.values.now c.loop-value.value-index c.value-item.result c.loop-value-test.true c.value-item.is) (sym c.is_python_number.ensures ∙ c.if-not-is_python_number.false)

pub returns : goal.returns
returns c = all_python c.args.values.now (c.loop-value.invariant ∙ ap are_python (drop_all _ _ c.loop-value-test.false))
