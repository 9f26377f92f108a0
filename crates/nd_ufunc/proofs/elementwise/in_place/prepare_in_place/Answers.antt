use Rattle.std.proofs.Common.{◌≡◌, ◌==◌, ℕ, true, List, length, refl, ap, ◌∙◌, subst, arith}
use Rattle.std.specs.Prelude.{if◌then◌else◌, IfSome}
use Rattle.std.proofs.lemmas.Bool.Decides.{nat_tests}
use Rattle.nd_syntax.specs.Trees.Syntax.{binary_op}
use Rattle.nd_types.specs.Kinds.{kind_of}
use Rattle.nd_ufunc.specs.Elementwise.Prepared.{DirectInPlace, with_results, written_directly}
use Rattle.nd_ufunc.proofs.elementwise.in_place.prepare_in_place.Goals as goal

-- a block of the length that it is made ready for is written to
written_to : (d : DirectInPlace) (block : List ℕ) → length block ≡ d.len → written_directly d block ≡ with_results d.kind d.op d.target d.right block
written_to d block same =
    let test : (length block == d.len) ≡ true = grind (arith, nat_tests) in
    ap (λ b. if b then with_results d.kind d.op d.target d.right block else block) test

pub returns-in-Some-clause-results : goal.returns-in-Some-clause-results
returns-in-Some-clause-results c =
    let a = c.args in let block : List ℕ = a.block.now in
    let ready : DirectInPlace = record { kind = kind_of a.kind; op = binary_op a.op; target = a.target.now; right = a.right; len = length block } in
    let is : c.in-Some.direct ≡ ready = subst (λ o. IfSome o (λ d. d ≡ ready)) c.in-Some.is c.prepare_directly.ensures.value in
    ap (λ d. written_directly d block) is ∙ written_to ready block refl
