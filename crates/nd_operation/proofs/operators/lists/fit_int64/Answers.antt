use Rattle.std.proofs.Common.{rules, ◌+◌, FitsSigned, drop, refl, sym, ap, ◌∙◌}
use Rattle.std.specs.Int.{w128}
use Rattle.std.specs.List.{list_all}
use Rattle.std.proofs.lemmas.List.{drop_all}
use mir.Facts.{to_z-of_z}
use Rattle.nd_model.specs.Arrays.Element.{Int64, fits}
use Rattle.nd_model.specs.Making.Operand.{number_of}
use Rattle.nd_model.specs.Making.Creation.{fits_int64}
use Rattle.nd_operation.specs.Operators.Listing.{numbers_in}
use Rattle.nd_operation.proofs.operators.InTurn.{next_item}
use Rattle.nd_operation.proofs.operators.Listing.{next_holds, next_fails}
use Rattle.nd_operation.proofs.operators.lists.fit_int64.Goals as goal

pub loop-value-init : goal.loop-value-init
loop-value-init c = refl

pub returns-then-not-fits : goal.returns-then-not-fits
returns-then-not-fits c = sym (next_fails fits_int64 c.args.values.now c.value-item.result (drop c.loop-value.value-index c.args.values.now) (drop (c.loop-value.value-index + 1) c.args.values.now) c.loop-value.invariant (next_item c.args.values.now c.loop-value.value-index c.value-item.result c.loop-value-test.true c.value-item.is) ((let in_range : FitsSigned w128 c.whole_number.result = search rules in sym (c.fits.ensures.value ∙ ap (fits Int64) (to_z-of_z in_range ∙ c.whole_number.ensures ∙ ap number_of c.number_of.ensures)) ∙ c.if-not-fits.true)))

pub loop-value-preserved : goal.loop-value-preserved
loop-value-preserved c = next_holds fits_int64 c.args.values.now c.value-item.result (drop c.loop-value.value-index c.args.values.now) (drop (c.loop-value.value-index + 1) c.args.values.now) c.loop-value.invariant (next_item c.args.values.now c.loop-value.value-index c.value-item.result c.loop-value-test.true c.value-item.is) ((let in_range : FitsSigned w128 c.whole_number.result = search rules in sym (c.fits.ensures.value ∙ ap (fits Int64) (to_z-of_z in_range ∙ c.whole_number.ensures ∙ ap number_of c.number_of.ensures)) ∙ c.if-not-fits.false))

pub returns : goal.returns
returns c = sym (c.loop-value.invariant ∙ ap (λ l. list_all fits_int64 (numbers_in l)) (drop_all _ _ c.loop-value-test.false))
