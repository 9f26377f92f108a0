use Rattle.std.proofs.Common.{rules, ◌≡◌, ℤ, pos, ◌*ℤ◌, FitsSigned, to_z, of_z, sym, ◌∙◌, subst}
use Rattle.std.specs.Int.{int_wrap, w64, w128}
use Rattle.std.specs.List.{fold}
use Rattle.std.proofs.lemmas.Int.{SFits-int_wrap}
use mir.Facts.{to_z-of_z}
use Rattle.nd_model.specs.Arrays.Element.{wrap}
use Rattle.nd_types.specs.Kinds.{kind_of}
use Rattle.nd_reduce.proofs.folds.Wrapped.{wrap_again}
use Rattle.nd_reduce.proofs.folds.fold.ProdFoldStep.result.Goals as goal

pub returns : goal.returns
returns c = λ zs short h.
    let S : ℤ = fold (λ a b. a *ℤ b) (pos 1) zs in
    let ff : FitsSigned w128 c.from.result = search rules in let fw : FitsSigned w128 c.wrap.result = search rules in
    let fs : FitsSigned w64 c.args.self.now.0 = subst (FitsSigned w64) (sym h) (SFits-int_wrap w64 S) in
    let from : to_z w128 (of_z w128 c.from.result) ≡ int_wrap w64 S = to_z-of_z ff ∙ c.from.ensures ∙ to_z-of_z fs ∙ h in
    to_z-of_z fw ∙ c.wrap.ensures.value ∙ (λ i. wrap (c.sum_kind.ensures i) (from i)) ∙ wrap_again (kind_of c.args.kind) S
