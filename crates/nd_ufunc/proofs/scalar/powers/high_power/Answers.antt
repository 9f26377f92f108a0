use Rattle.std.proofs.Common.{◌≡◌, ℤ, pos, negsuc, FitsSigned, sym, ap, subst, ◌∙◌, arith, rules, to_z}
use Rattle.std.specs.Int.{w128, int_pow}
use mir.Facts.{to_z-of_z}
use Rattle.nd_ufunc.proofs.scalar.WholeNumbers.{pow-zero_base, pow-one_base, large_power, large_base, minus_even, minus_odd}
use Rattle.nd_ufunc.proofs.scalar.powers.high_power.Goals as goal

-- a small number is the power
small : (z power : ℤ) → FitsSigned w128 z → z ≡ power → FitsSigned w128 power × (z ≡ power)
small z power fits is = (subst (FitsSigned w128) is fits, is)

pub returns-then-base-eq0 : goal.returns-then-base-eq0
returns-then-base-eq0 c =
    let base : c.args.base ≡ pos 0 = sym (to_z-of_z c.ranges.base) ∙ ap (to_z w128) c.if-base-eq0.true in
    small (pos 0) _ (search rules) (sym (ap pos (pow-zero_base c.args.exponent (omega arith))) ∙ ap (λ z. int_pow z c.args.exponent) (sym base))

pub returns-then-base-eq1 : goal.returns-then-base-eq1
returns-then-base-eq1 c =
    let base : c.args.base ≡ pos 1 = sym (to_z-of_z c.ranges.base) ∙ ap (to_z w128) c.if-base-eq1.true in
    small (pos 1) _ (search rules) (sym (ap pos (pow-one_base c.args.exponent)) ∙ ap (λ z. int_pow z c.args.exponent) (sym base))

pub returns-then-base-neminus1 : goal.returns-then-base-neminus1
returns-then-base-neminus1 c =
    large_power c.args.base c.args.exponent (large_base c.args.base c.ranges.base c.if-base-eq0.false c.if-base-eq1.false c.if-base-neminus1.true) (omega arith)

pub returns-then-exponent-eq0 : goal.returns-then-exponent-eq0
returns-then-exponent-eq0 c =
    let base : c.args.base ≡ negsuc 0 = sym (to_z-of_z c.ranges.base) ∙ ap (to_z w128) c.if-base-neminus1.false in
    small (pos 1) _ (search rules) (sym (minus_even c.args.exponent c.if-exponent-eq0.true) ∙ ap (λ z. int_pow z c.args.exponent) (sym base))

pub returns : goal.returns
returns c =
    let base : c.args.base ≡ negsuc 0 = sym (to_z-of_z c.ranges.base) ∙ ap (to_z w128) c.if-base-neminus1.false in
    small (negsuc 0) _ (search rules) (sym (minus_odd c.args.exponent c.if-exponent-eq0.false) ∙ ap (λ z. int_pow z c.args.exponent) (sym base))
