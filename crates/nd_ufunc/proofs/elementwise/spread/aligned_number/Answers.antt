use Rattle.std.proofs.Common.{◌≡◌, ℕ, suc, ◌+◌, ◌*◌, ◌/◌, ◌%◌, List, get_or, sym, ap, subst, arith}
use Rattle.nd_ufunc.specs.Elementwise.Spread.{own_index, own_number}
use Rattle.nd_ufunc.proofs.elementwise.Spreads.{IsAlong, go, onward, step_room}
use Rattle.nd_ufunc.proofs.elementwise.spread.aligned_number.Goals as goal

pub nonzero_div-each : goal.nonzero_div-each
nonzero_div-each c = (go c.args.own.now c.args.shape.now c.loop-axis.axis c.loop-axis.each c.loop-axis.own_each c.loop-axis.left c.loop-axis.found _ c.loop-axis.invariant c.loop-axis-test.true c.requires.axes).length_some

pub overflow_mul-found : goal.overflow_mul-found
overflow_mul-found c =
    let a = c.args in let at = c.loop-axis in let n = get_or a.own.now at.axis 0 in
    let room = step_room a.own.now a.shape.now at.axis at.each at.own_each at.left at.found _ at.invariant c.loop-axis-test.true c.requires.axes in
    let same = ap (λ k. k * (at.own_each / n)) c.own_index.ensures in
    omega (arith, room, same, c.requires.own_few)

pub overflow_add-found : goal.overflow_add-found
overflow_add-found c =
    let a = c.args in let at = c.loop-axis in let n = get_or a.own.now at.axis 0 in
    let room = step_room a.own.now a.shape.now at.axis at.each at.own_each at.left at.found _ at.invariant c.loop-axis-test.true c.requires.axes in
    let same = ap (λ k. k * (at.own_each / n)) c.own_index.ensures in
    omega (arith, room, same, c.requires.own_few)

pub loop-axis-preserved : goal.loop-axis-preserved
loop-axis-preserved c =
    let a = c.args in let at = c.loop-axis in let own : List ℕ = a.own.now in let shape : List ℕ = a.shape.now in
    let n = get_or own at.axis 0 in let m = get_or shape at.axis 0 in
    let e : ℕ = at.each / m in let f : ℕ = at.own_each / n in let whole : ℕ = own_number own shape a.at in
    let next : suc at.axis ≡ at.axis + 1 = omega arith in
    let on = onward own shape at.axis at.each at.own_each at.left at.found whole at.invariant c.loop-axis-test.true c.requires.axes in
    subst (λ k. IsAlong own shape (at.axis + 1) e f (at.left % e) (at.found + k * f) whole) (sym c.own_index.ensures)
    (subst (λ k. IsAlong own shape k e f (at.left % e) (at.found + own_index n (at.left / e) * f) whole) next on)
