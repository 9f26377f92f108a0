use Rattle.std.proofs.Common.{◌≡◌, ◌↔◌, ◌∙◌, ℕ, IsTrue, nat_eq, subst}
use Rattle.std.proofs.lemmas.Bool.Decides.{Decides-eqb}
use Rattle.nd_notebook.proofs.notebook.Notebook.makes.Goals as goal

pub returns : goal.returns
returns c =
    subst (λ (n : ℕ). IsTrue (nat_eq c.args.base.label c.label.result) ↔ (c.args.base.label ≡ n)) (c.label.ensures ∙ c.changes_at.ensures.label)
    (Decides-eqb c.args.base.label c.label.result)
