use Rattle.nd_notebook.proofs.trying.TriedCell.result.Goals as goal

pub returns : goal.returns
returns c = λ d. record { text = c.result.ensures.text d; refusal = c.result.ensures.refusal d; saves = c.result.ensures.saves d }
