use Rattle.std.proofs.Common.{◌+◌, ◌++◌, ◌∷◌, ◌<◌, ◌≤◌, length, take, drop, sym, ap, ◌∙◌, arith, rules}
use Rattle.std.specs.List.{list_any}
use Rattle.nd_index.specs.Advanced.Takes.{is_spread, take_of, takes_of}
use Rattle.nd_index.specs.Advanced.IndexNumbers.{numbers_in}
use Rattle.nd_index.proofs.offsets.Pushed.{rest_of}
use Rattle.nd_index.proofs.advanced.SoleArrays.{none_again, not_spread, sole_ways, sole_within, takes_around}
use Rattle.nd_index.proofs.advanced.Spreads.{axes_again}
use Rattle.nd_index.proofs.advanced.sole.sole_array.Goals as goal

pub returns-in-Spread : goal.returns-in-Spread
returns-in-Spread c =
    let takes = c.args.takes.now in let k = c.loop-number.number in let s = c.in-Spread.spread in let ks = numbers_in s.numbers in
    let lt : k < length takes = omega (arith, c.loop-number-test.true) in
    let front = takes_of (take k takes) in let rest = takes_of (drop (k + 1) takes) in
    let parts = takes_around takes k c.index-takes-number.result lt c.index-takes-number.is ∙ ap (λ t. front ++ take_of t ∷ rest) c.in-Spread.is in
    let after = ap (λ ts. list_any is_spread (takes_of ts)) (sym (rest_of (k + 1) takes)) ∙ sym c.has_spread.ensures ∙ c.if-has_spread.false in
    let same = sym c.as_slice.ensures ∙ c.is_same_shape.ensures.0 c.if-not-is_same_shape.false in
    record {
      axes = sole_within (takes_of takes) front rest s.axes c.loop-number.axis s.shape.items ks parts c.loop-number.invariant.axes;
      ways = λ sizes strides. sole_ways (takes_of takes) front rest s.axes c.loop-number.axis s.shape.items ks c.args.many.now sizes strides parts c.loop-number.invariant.none after
          c.loop-number.invariant.axes same (sym s.all ∙ s.whole);
    }

pub overflow_add-axis : goal.overflow_add-axis
overflow_add-axis c =
    let takes = c.args.takes.now in let k = c.loop-number.number in
    let le = (axes_again takes k c.index-takes-number.result c.loop-number.axis c.axes-axis.result (omega (arith, c.loop-number-test.true)) c.index-takes-number.is c.loop-number.invariant.axes
    c.axes-axis.ensures).1 in
    let few : c.loop-number.axis + c.axes-axis.result ≤ 64 = omega (arith, le, c.requires) in
    search (rules, few)

pub loop-number-preserved : goal.loop-number-preserved
loop-number-preserved c =
    let takes = c.args.takes.now in let k = c.loop-number.number in let x = c.index-takes-number.result in
    let lt : k < length takes = omega (arith, c.loop-number-test.true) in
    record {
      none = none_again takes k x lt c.index-takes-number.is c.loop-number.invariant.none (not_spread x c.in_default.not-Spread);
      axes = (axes_again takes k x c.loop-number.axis c.axes-axis.result lt c.index-takes-number.is c.loop-number.invariant.axes c.axes-axis.ensures).0;
    }
