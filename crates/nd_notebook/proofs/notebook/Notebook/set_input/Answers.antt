use Rattle.std.proofs.Common.{◌∙◌, refl, rules}
use Rattle.std.proofs.lemmas.Result.{err_from_is_err_and}
use Rattle.nd_notebook.proofs.notebook.Notebook.set_input.Goals as goal

pub returns-in-Err-clause-answered : goal.returns-in-Err-clause-answered
returns-in-Err-clause-answered c = (c.in-Err.ensures.refusal c.args.self.now c.args.meter.now).0

pub returns-in_err-inputs-clause-answered : goal.returns-in_err-inputs-clause-answered
returns-in_err-inputs-clause-answered c =
    let p = err_from_is_err_and c.from_residual.result c.from_residual.ensures.1 in
    rw (p.1, p.2) (c.in_default.ensures.refusal c.args.self.now, refl)

pub returns-in_err-ran-clause-answered : goal.returns-in_err-ran-clause-answered
returns-in_err-ran-clause-answered c =
    let p = err_from_is_err_and c.from_residual-in_err-ran.result c.from_residual-in_err-ran.ensures.1 in
    rw (p.1, p.2) (c.in_default.ensures.refusal c.args.self.now, c.in_err-ran.ensures.err ∙ c.self.view_is)

pub returns-clause-answered : goal.returns-clause-answered
returns-clause-answered c = (c.in_default.ensures.refusal c.args.self.now, search rules)
