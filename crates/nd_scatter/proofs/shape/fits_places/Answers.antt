use Rattle.std.proofs.Common.{◌≡◌, ◌==◌, ◌-◌, ◌<◌, ℕ, suc, true, List, [], ◌∷◌, length, take, drop, get_or, refl, sym, ap, ◌∙◌, arith}
use Rattle.std.proofs.Math.Seq.{take-length}
use Rattle.std.proofs.lemmas.Bool.Decides.{nat_tests}
use Rattle.nd_model.specs.Making.Assigning.{value_shape, without_ones}
use Rattle.nd_scatter.proofs.shape.fits_places.Goals as goal

-- without a leading axis of length 1, of which there are more than in the target
without_one : (value target : List ℕ) → length target < length value → get_or value 0 0 ≡ 1 → value_shape (take (length value - 1) (drop 1 value)) target ≡ value_shape value target
without_one [] target more one = absurd (omega arith)
without_one (n ∷ value) target more one =
    let short : suc (length value) - 1 ≡ length value = omega arith in
    let next : suc (length value) - length target ≡ suc (length value - length target) = omega arith in
    let test : (n == 1) ≡ true = grind (arith, nat_tests) in
    let dropped : without_ones (suc (length value - length target)) (n ∷ value) ≡ without_ones (length value - length target) value = rw test refl in
    ap (λ s. value_shape s target) (ap (λ k. take k value) short ∙ take-length value) ∙ sym (ap (λ k. without_ones k (n ∷ value)) next ∙ dropped)

pub loop-value-preserved : goal.loop-value-preserved
loop-value-preserved c =
    let value : List ℕ = c.loop-value.value.now in let target : List ℕ = c.as_slice-target.result.now in
    without_one value target (omega (arith, c.loop-value-test.true)) (omega (arith, c.if-value-eq1.true)) ∙ c.loop-value.invariant
