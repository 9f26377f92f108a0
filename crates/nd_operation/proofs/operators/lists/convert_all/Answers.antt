use Rattle.std.proofs.Common.{rules, FitsSigned, map, ap, ◌∙◌, take_all}
use Rattle.std.specs.Int.{w128}
use mir.Facts.{to_z-of_z}
use Rattle.nd_model.specs.Arrays.Content.{Num}
use Rattle.nd_model.specs.Making.Creation.{converted_numbers}
use Rattle.nd_model.specs.Arrays.Element.{wrap}
use Rattle.nd_model.specs.Making.Operand.{number_of}
use Rattle.nd_types.specs.Kinds.{kind_of}
use Rattle.nd_operation.specs.Operators.Listing.{numbers_in}
use Rattle.nd_operation.proofs.operators.Listing.{number_more}
use Rattle.nd_operation.proofs.operators.lists.convert_all.Goals as goal

pub loop-value-init : goal.loop-value-init
loop-value-init c = ap (map Num) c.in_ok-numbers.ensures.items

pub loop-value-preserved : goal.loop-value-preserved
loop-value-preserved c =
    let k = kind_of c.args.kind in
    let wrapped : FitsSigned w128 c.wrap.result = search rules in
    let in_range : FitsSigned w128 c.whole_number.result = search rules in
    number_more k c.args.values.now c.loop-value.value-index c.value-item.result c.loop-value-test.true c.value-item.is c.loop-value.numbers.items c.push.new.self.items _
    c.loop-value.invariant c.in_ok-push.ensures.items
    (to_z-of_z wrapped ∙ c.wrap.ensures.value ∙ ap (wrap k) (to_z-of_z in_range ∙ c.whole_number.ensures ∙ ap number_of c.number_of.ensures))

pub returns : goal.returns
returns c = c.loop-value.invariant ∙ ap (λ l. converted_numbers (kind_of c.args.kind) (numbers_in l)) (take_all _ _ c.loop-value-test.false)
