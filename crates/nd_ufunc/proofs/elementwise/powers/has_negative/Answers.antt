use Rattle.std.proofs.Common.{rules, ◌≡◌, ◌+◌, ◌<◌, true, false, length, take, get_or, sym, ap, ◌∙◌, arith, FitsSigned}
use Rattle.std.specs.Int.{w128}
use mir.Facts.{to_z-of_z}
use Rattle.nd_model.specs.Arrays.Content.{number_at}
use Rattle.nd_model.specs.Making.Operators.{is_negative}
use Rattle.nd_ufunc.proofs.elementwise.Any.{any_of_map, any_at, none_more}
use Rattle.nd_ufunc.proofs.elementwise.powers.has_negative.Goals as goal

pub returns-then-is_negative : goal.returns-then-is_negative
returns-then-is_negative c =
    let a = c.args in let ps = a.run.now in let k = c.loop-number.number in let read = number_at a.elem a.bytes.now in
    let fits : FitsSigned w128 c.value_at.result = search rules in
    let lt : k < length ps = omega (arith, c.loop-number-test.true, c.count-number-end.ensures.value) in
    let here : is_negative (read (get_or ps k 0)) ≡ true
    = sym (ap is_negative (to_z-of_z fits ∙ c.value_at.ensures.value ∙ ap read c.place.ensures)) ∙ sym c.is_negative.ensures ∙ c.if-is_negative.true in
    sym (any_of_map is_negative read ps ∙ any_at (λ p. is_negative (read p)) ps k 0 lt here)

pub loop-number-preserved : goal.loop-number-preserved
loop-number-preserved c =
    let a = c.args in let ps = a.run.now in let k = c.loop-number.number in let read = number_at a.elem a.bytes.now in
    let fits : FitsSigned w128 c.value_at.result = search rules in
    let lt : k < length ps = omega (arith, c.loop-number-test.true, c.count-number-end.ensures.value) in
    let here : is_negative (read (get_or ps k 0)) ≡ false
    = sym (ap is_negative (to_z-of_z fits ∙ c.value_at.ensures.value ∙ ap read c.place.ensures)) ∙ sym c.is_negative.ensures ∙ c.if-is_negative.false in
    any_of_map is_negative read (take (k + 1) ps)
    ∙ none_more (λ p. is_negative (read p)) ps k 0 lt (sym (any_of_map is_negative read (take k ps)) ∙ c.loop-number.invariant) here
