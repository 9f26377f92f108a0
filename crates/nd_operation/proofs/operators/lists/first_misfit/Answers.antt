use Rattle.std.proofs.Common.{rules, ◌+◌, Some, FitsSigned, drop, refl, sym, ap, ◌∙◌}
use Rattle.std.specs.Int.{w128}
use mir.Facts.{to_z-of_z}
use Rattle.std.proofs.lemmas.List.{drop_all}
use Rattle.nd_model.specs.Making.Creation.{misfit, first_misfit}
use Rattle.nd_types.specs.Kinds.{kind_of}
use Rattle.nd_operation.specs.Operators.Listing.{numbers_in}
use Rattle.nd_operation.proofs.operators.InTurn.{next_item}
use Rattle.nd_operation.proofs.operators.Listing.{next_fits, found_misfit}
use Rattle.nd_operation.proofs.operators.lists.first_misfit.Goals as goal

pub loop-value-init : goal.loop-value-init
loop-value-init c = refl

pub returns-in-Some : goal.returns-in-Some
returns-in-Some c =
    let in_range : FitsSigned w128 c.in-Some.int = search rules in
    ap Some (to_z-of_z in_range) ∙ sym (found_misfit (kind_of c.args.kind) c.args.values.now c.value-item.result (drop c.loop-value.value-index c.args.values.now) (drop (c.loop-value.value-index + 1) c.args.values.now) c.loop-value.invariant (next_item c.args.values.now c.loop-value.value-index c.value-item.result c.loop-value-test.true c.value-item.is) c.in-Some.int (ap (misfit (kind_of c.args.kind)) (sym c.number_of.ensures) ∙ sym c.in-Some.ensures))

pub loop-value-preserved : goal.loop-value-preserved
loop-value-preserved c = next_fits (kind_of c.args.kind) c.args.values.now c.value-item.result (drop c.loop-value.value-index c.args.values.now) (drop (c.loop-value.value-index + 1) c.args.values.now) c.loop-value.invariant (next_item c.args.values.now c.loop-value.value-index c.value-item.result c.loop-value-test.true c.value-item.is) (ap (misfit (kind_of c.args.kind)) (sym c.number_of.ensures) ∙ sym c.in_default.ensures)

pub returns : goal.returns
returns c = sym (c.loop-value.invariant ∙ ap (λ l. first_misfit (kind_of c.args.kind) (numbers_in l)) (drop_all _ _ c.loop-value-test.false))
