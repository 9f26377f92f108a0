use Rattle.std.proofs.Common.{◌≡◌, ℕ, ℤ, ◌+◌, ◌*◌, ◌≤◌, ◌++◌, ap, ◌∙◌, arith, append_assoc}
use Rattle.nd_model.specs.Arrays.Element.{Element, size_of}
use Rattle.nd_model.specs.Making.Elementwise.{little}
use Rattle.nd_types.specs.Kinds.{kind_of}
use Rattle.nd_ufunc.specs.Loops.Results.{result_bytes}
use Rattle.nd_ufunc.specs.Loops.Sides.{numbers_on}
use Rattle.nd_ufunc.proofs.loops.Joined.{joined, fewer}
use Rattle.nd_ufunc.proofs.loops.whole.append_rows.Goals as goal

pub over_row-xs-requires-clause-enough : goal.over_row-xs-requires-clause-enough
over_row-xs-requires-clause-enough g c =
    let a = c.args in let done = c.loop-done.done in let n : ℕ = c.min-some.result in
    let inside : done + n ≤ a.count = omega (arith, c.loop-done.invariant.within, c.min-some.ensures) in
    c.side_behind-xs.ensures.enough n (fewer a.left (done + n) a.count inside c.requires.left)

pub over_row-ys-requires-clause-enough : goal.over_row-ys-requires-clause-enough
over_row-ys-requires-clause-enough g c =
    let a = c.args in let done = c.loop-done.done in let n : ℕ = c.min-some.result in
    let inside : done + n ≤ a.count = omega (arith, c.loop-done.invariant.within, c.min-some.ensures) in
    c.side_behind-ys.ensures.enough n (fewer a.right (done + n) a.count inside c.requires.right)

pub loop-done-preserved : goal.loop-done-preserved
loop-done-preserved g c =
    let a = c.args in let is = c.loop-done.invariant in let done = c.loop-done.done in let n : ℕ = c.min-some.result in let s : ℕ = size_of (kind_of a.to) in
    let e : Element = little (kind_of a.to) in let f : ℤ → ℤ → ℤ = g.O.Operation.gives (kind_of a.to) in
    let xs = c.side_behind-xs.result in let ys = c.side_behind-ys.result in
    let all : (done + n) * s ≡ done * s + n * s = omega arith in
    record {
      within = omega (arith, is.within, c.min-some.ensures, c.loop-done-test.true);
      written = c.append_sides-out.ensures.written ∙ ap (λ l. l ++ result_bytes e f (numbers_on c.over_row-xs.result n) (numbers_on c.over_row-ys.result n)) is.written
          ∙ append_assoc a.filling.0 (result_bytes e f (numbers_on a.left done) (numbers_on a.right done)) (result_bytes e f (numbers_on c.over_row-xs.result n) (numbers_on c.over_row-ys.result n))
          ∙ (λ i. a.filling.0 ++ (result_bytes e f (numbers_on a.left done) (numbers_on a.right done) ++ result_bytes e f (c.over_row-xs.ensures.numbers i) (c.over_row-ys.ensures.numbers i)))
          ∙ ap (λ l. a.filling.0 ++ l) (joined e f a.left a.right xs ys done n c.side_behind-xs.ensures.numbers c.side_behind-ys.ensures.numbers);
      room = omega (arith, c.append_sides-out.ensures.room, is.room, all);
    }
