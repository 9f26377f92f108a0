use Rattle.std.proofs.Common.{rules, ◌≡◌, ℤ, pos, ◌*ℤ◌, FitsSigned, to_z, of_z, sym, ap, ◌∙◌, subst}
use Rattle.std.specs.Int.{int_wrap, w64, w128, cast_signed}
use Rattle.std.specs.List.{fold}
use Rattle.std.proofs.lemmas.Int.{int_wrap-mul_left, int_wrap-mul_right, SFits-int_wrap}
use Rattle.std.proofs.lemmas.List.Sums.{fold_push}
use mir.Facts.{to_z-of_z}
use Rattle.nd_model.specs.Arrays.Element.{residue}
use Rattle.nd_model.proofs.Values.{signed_residue}
use Rattle.nd_reduce.proofs.folds.fold.ProdFoldStep.step.Goals as goal

pub returns : goal.returns
returns c = λ zs h.
    let n : ℤ = c.args.number in let S : ℤ = fold (λ a b. a *ℤ b) (pos 1) zs in
    let fn : FitsSigned w128 n = search rules in let fl : FitsSigned w64 c.low_bits.result = search rules in let fr : FitsSigned w64 c.wrapping_product.result = search rules in
    let fs : FitsSigned w64 c.args.self.0 = subst (FitsSigned w64) (sym h) (SFits-int_wrap w64 S) in
    let low : to_z w64 (of_z w64 c.low_bits.result) ≡ int_wrap w64 n = to_z-of_z fl ∙ c.low_bits.ensures ∙ ap (λ z. cast_signed w64 (residue w64 z)) (to_z-of_z fn) ∙ signed_residue w64 n in
    let own : to_z w64 (of_z w64 c.args.self.0) ≡ int_wrap w64 S = to_z-of_z fs ∙ h in
    to_z-of_z fr ∙ c.wrapping_product.ensures ∙ (λ i. int_wrap w64 (own i *ℤ low i)) ∙ int_wrap-mul_left w64 S (int_wrap w64 n) ∙ int_wrap-mul_right w64 S n
    ∙ ap (int_wrap w64) (sym (fold_push (λ a b. a *ℤ b) (pos 1) zs n))
