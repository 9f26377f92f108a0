use Rattle.std.proofs.Common.{◌≡◌, ℤ, pos, ◌*ℤ◌, ◌/◌, to_z, of_z, sym, ap, ◌∙◌, arith, rules}
use Rattle.std.specs.Int.{w64, int_pow, int_wrap}
use Rattle.std.proofs.lemmas.Int.{ints}
use mir.Facts.{to_z-of_z}
use Rattle.nd_ufunc.proofs.scalar.Squares.{int_pow-zero, even_step, odd_step}
use Rattle.nd_ufunc.proofs.scalar.powers.power_by_squares.Goals as goal
use Rattle.nd_ufunc.proofs.scalar.powers.power_by_squares.Goals.{then-left-eq1, else-left-eq1}

one : (z : ℤ) → pos 1 *ℤ z ≡ z
one z = omega (arith, ints)

pub loop-left-preserved : goal.loop-left-preserved
loop-left-preserved c =
    let square : ℤ = to_z w64 c.loop-left.square-bits in
    let power : ℤ = to_z w64 c.loop-left.power-bits in
    let next : ℤ = to_z w64 (of_z w64 c.wrapping_multiply64-square.result) in
    let is : next ≡ int_wrap w64 (square *ℤ square) = to_z-of_z {w = w64} (search rules) ∙ c.wrapping_multiply64-square.ensures in
    elim c.if-left-eq1.branch [
      | then-left-eq1 w ↦
          odd_step w64 square power next (to_z w64 c.if-left-eq1.power-bits) c.loop-left.left (omega (arith, w.if-left-eq1.true)) is
          (w.power-is ∙ to_z-of_z {w = w64} (search rules) ∙ w.wrapping_multiply64-power.ensures) ∙ c.loop-left.invariant
      | else-left-eq1 w ↦
          ap (λ p. int_wrap w64 (int_pow next (c.loop-left.left / 2) *ℤ p)) w.power-is
          ∙ even_step w64 square power next c.loop-left.left (grind (arith, w.if-left-eq1.false)) is ∙ c.loop-left.invariant
    ]

pub returns : goal.returns
returns c =
    let square : ℤ = to_z w64 c.loop-left.square-bits in
    let power : ℤ = to_z w64 c.loop-left.power-bits in
    let none : c.loop-left.left ≡ 0 = omega (arith, c.loop-left-test.false) in
    sym (ap (int_wrap w64) (ap (λ p. p *ℤ power) (ap (int_pow square) none ∙ int_pow-zero square) ∙ one power))
    ∙ c.loop-left.invariant ∙ ap (λ b. int_wrap w64 (int_pow b c.args.exponent)) (to_z-of_z c.ranges.base)
