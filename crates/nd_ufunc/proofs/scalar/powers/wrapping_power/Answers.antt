use Rattle.std.proofs.Common.{◌≡◌, ℤ, ◌*ℤ◌, FitsSigned, sym, ap, ◌∙◌, rules}
use Rattle.std.specs.Int.{w64, int_pow, int_wrap}
use Rattle.std.proofs.lemmas.Int.{int_wrap_fits, int_wrap-mul_right, SFits-int_wrap}
use mir.Facts.{to_z-of_z}
use Rattle.nd_ufunc.proofs.scalar.Squares.{int_pow-two, int_pow-three}
use Rattle.nd_ufunc.proofs.scalar.powers.wrapping_power.Goals as goal

again : (z : ℤ) → int_wrap w64 (int_wrap w64 z) ≡ int_wrap w64 z
again z = int_wrap_fits w64 (int_wrap w64 z) (SFits-int_wrap w64 z)

pub returns-then-exponent-eq2 : goal.returns-then-exponent-eq2
returns-then-exponent-eq2 c =
    let b : ℤ = c.args.base in let range = c.ranges.base in
    let fits : FitsSigned w64 c.wrapping_multiply64.result = search rules in
    let is : c.wrapping_multiply64.result ≡ int_wrap w64 (b *ℤ b) = simp to_z-of_z at c.wrapping_multiply64.ensures in
    ap (int_wrap w64) (to_z-of_z fits ∙ is) ∙ again (b *ℤ b) ∙ ap (int_wrap w64) (sym (int_pow-two b)) ∙ ap (λ n. int_wrap w64 (int_pow b n)) (sym c.if-exponent-eq2.true)

pub returns-then-exponent-eq3 : goal.returns-then-exponent-eq3
returns-then-exponent-eq3 c =
    let b : ℤ = c.args.base in let range = c.ranges.base in
    let fits : FitsSigned w64 c.wrapping_multiply64-then-exponent-eq3.result = search rules in
    let fits_too : FitsSigned w64 c.wrapping_multiply64-then-exponent-eq3-2.result = search rules in
    let square_is : c.wrapping_multiply64-then-exponent-eq3.result ≡ int_wrap w64 (b *ℤ b) = simp to_z-of_z at c.wrapping_multiply64-then-exponent-eq3.ensures in
    let cube_is : c.wrapping_multiply64-then-exponent-eq3-2.result ≡ int_wrap w64 (b *ℤ c.wrapping_multiply64-then-exponent-eq3.result) = simp to_z-of_z at c.wrapping_multiply64-then-exponent-eq3-2.ensures in
    ap (int_wrap w64) (to_z-of_z fits_too ∙ cube_is ∙ ap (λ z. int_wrap w64 (b *ℤ z)) square_is) ∙ again (b *ℤ int_wrap w64 (b *ℤ b)) ∙ int_wrap-mul_right w64 b (b *ℤ b)
    ∙ ap (int_wrap w64) (sym (int_pow-three b)) ∙ ap (λ n. int_wrap w64 (int_pow b n)) (sym c.if-exponent-eq3.true)
