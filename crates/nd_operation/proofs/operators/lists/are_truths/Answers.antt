use Rattle.std.proofs.Common.{◌+◌, drop, refl, sym, ap, ◌∙◌}
use Rattle.std.specs.List.{list_all}
use Rattle.std.proofs.lemmas.List.{drop_all}
use Rattle.nd_model.specs.Making.Creation.{is_truth}
use Rattle.nd_operation.specs.Operators.Listing.{numbers_in}
use Rattle.nd_operation.proofs.operators.Listing.{not_truth}
use Rattle.nd_operation.proofs.operators.InTurn.{next_item}
use Rattle.nd_operation.proofs.operators.Listing.{next_holds, next_fails}
use Rattle.nd_operation.proofs.operators.lists.are_truths.Goals as goal

pub loop-value-init : goal.loop-value-init
loop-value-init c = refl

pub returns-in_default : goal.returns-in_default
returns-in_default c = sym (next_fails is_truth c.args.values.now c.value-item.result (drop c.loop-value.value-index c.args.values.now) (drop (c.loop-value.value-index + 1) c.args.values.now) c.loop-value.invariant (next_item c.args.values.now c.loop-value.value-index c.value-item.result c.loop-value-test.true c.value-item.is) (ap is_truth (sym c.number_of.ensures) ∙ not_truth c.number_of.result c.in_default.not-Bool))

pub loop-value-preserved : goal.loop-value-preserved
loop-value-preserved c = next_holds is_truth c.args.values.now c.value-item.result (drop c.loop-value.value-index c.args.values.now) (drop (c.loop-value.value-index + 1) c.args.values.now) c.loop-value.invariant (next_item c.args.values.now c.loop-value.value-index c.value-item.result c.loop-value-test.true c.value-item.is) (ap is_truth (sym c.in-Bool.ensures))

pub returns : goal.returns
returns c = sym (c.loop-value.invariant ∙ ap (λ l. list_all is_truth (numbers_in l)) (drop_all _ _ c.loop-value-test.false))
