use Rattle.std.proofs.Common.{◌≡◌, ℕ, List, subst}
use Rattle.std.specs.Prelude.{IfOk}
use Rattle.nd_ufunc.specs.Elementwise.Prepared.{written_directly}
use Rattle.nd_ufunc.proofs.elementwise.direct.Direct.write_copy.Goals as goal

pub returns-in-Some : goal.returns-in-Some
returns-in-Some c = subst (λ (l : List ℕ). IfOk c.results.result (λ b. b ≡ written_directly c.args.self.now l)) c.as_slice-in-Some.ensures c.results.ensures
