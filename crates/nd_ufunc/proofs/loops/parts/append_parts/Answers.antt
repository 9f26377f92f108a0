use Rattle.std.proofs.Common.{◌≡◌, ℕ, ℤ, ◌+◌, ◌-◌, ◌*◌, ◌/◌, ◌++◌, ap, ◌∙◌, arith, append_assoc}
use Rattle.nd_model.specs.Arrays.Element.{Element, size_of}
use Rattle.nd_model.specs.Making.Elementwise.{little}
use Rattle.nd_types.specs.Kinds.{kind_of}
use Rattle.nd_ufunc.specs.Loops.Results.{result_bytes}
use Rattle.nd_ufunc.specs.Loops.Sides.{numbers_on}
use Rattle.nd_ufunc.proofs.loops.Joined.{joined}
use Rattle.nd_ufunc.proofs.loops.parts.append_parts.Goals as goal

pub loop-done-preserved : goal.loop-done-preserved
loop-done-preserved g c =
    let a = c.args in let is = c.loop-done.invariant in let done = c.loop-done.done in let n : ℕ = 16 / c.size.result in let s : ℕ = size_of (kind_of a.to) in
    let e : Element = little (kind_of a.to) in let f : ℤ → ℤ → ℤ = g.O.Operation.gives (kind_of a.to) in
    let xs = c.side_behind-xs.result in let ys = c.side_behind-ys.result in
    let all : (done + n) * s ≡ done * s + n * s = omega arith in
    record {
      within = omega (arith, is.within, c.loop-done-test.true);
      written = c.append_part-out.ensures.written ∙ ap (λ l. l ++ result_bytes e f (numbers_on xs n) (numbers_on ys n)) is.written
          ∙ append_assoc a.filling.0 (result_bytes e f (numbers_on a.left done) (numbers_on a.right done)) (result_bytes e f (numbers_on xs n) (numbers_on ys n))
          ∙ ap (λ l. a.filling.0 ++ l) (joined e f a.left a.right xs ys done n c.side_behind-xs.ensures.numbers c.side_behind-ys.ensures.numbers);
      room = omega (arith, c.append_part-out.ensures.room, is.room, all);
    }

pub returns-clause-written : goal.returns-clause-written
returns-clause-written g c =
    let a = c.args in let is = c.loop-done.invariant in let done = c.loop-done.done in let n : ℕ = a.count - done in
    let e : Element = little (kind_of a.to) in let f : ℤ → ℤ → ℤ = g.O.Operation.gives (kind_of a.to) in
    let xs = c.side_behind-xs-2.result in let ys = c.side_behind-ys-2.result in
    let all : done + n ≡ a.count = omega (arith, is.within) in
    c.append_any.ensures.written ∙ ap (λ l. l ++ result_bytes e f (numbers_on xs n) (numbers_on ys n)) is.written
    ∙ append_assoc a.filling.0 (result_bytes e f (numbers_on a.left done) (numbers_on a.right done)) (result_bytes e f (numbers_on xs n) (numbers_on ys n))
    ∙ ap (λ l. a.filling.0 ++ l) (joined e f a.left a.right xs ys done n c.side_behind-xs-2.ensures.numbers c.side_behind-ys-2.ensures.numbers)
    ∙ ap (λ m. a.filling.0 ++ result_bytes e f (numbers_on a.left m) (numbers_on a.right m)) all
