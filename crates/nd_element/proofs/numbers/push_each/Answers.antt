use Rattle.std.proofs.Common.{rules, ◌≡◌, ◌++◌, [], ◌∷◌, to_z, of_z, get_or, take, append_assoc, sym, ap, ◌∙◌, arith}
use Rattle.std.specs.Int.{w128}
use Rattle.std.specs.Int.RustNames.{FitsSigned}
use Rattle.std.proofs.lemmas.Int.{to_z-of_z}
use Rattle.nd_model.specs.Arrays.Content.{number_at}
use Rattle.nd_element.specs.Elements.{numbers_at}
use Rattle.nd_element.proofs.Pushed.{number_more}
use Rattle.nd_element.proofs.numbers.push_each.Goals as goal

pub loop-number-preserved : goal.loop-number-preserved
loop-number-preserved c =
    let fits : FitsSigned w128 c.value_at.result = search rules in
    let value : to_z w128 (of_z w128 c.value_at.result) ≡ number_at c.args.elem c.args.bytes.now (get_or c.args.run.now c.loop-number.number 0)
    = to_z-of_z w128 c.value_at.result fits ∙ c.value_at.ensures.value ∙ ap (number_at c.args.elem c.args.bytes.now) c.place.ensures in
    let front = numbers_at c.args.elem c.args.bytes.now (take c.loop-number.number c.args.run.now) in
    c.in_ok-push.ensures.items ∙ ap (λ z. c.loop-number.numbers.items ++ z ∷ []) value ∙ ap (λ l. l ++ number_at c.args.elem c.args.bytes.now (get_or c.args.run.now c.loop-number.number 0) ∷ []) c.loop-number.invariant
    ∙ append_assoc c.args.numbers.now.items front (number_at c.args.elem c.args.bytes.now (get_or c.args.run.now c.loop-number.number 0) ∷ [])
    ∙ ap (λ l. c.args.numbers.now.items ++ l) (sym (number_more c.args.elem c.args.bytes.now c.args.run.now c.loop-number.number (omega (arith, c.loop-number-test.true, c.count-number-end.ensures.value))))
