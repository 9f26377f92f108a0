use Rattle.std.proofs.Common.{sym, subst}
use Rattle.nd_model.specs.Cells.Operation.{choose_in}
use Rattle.nd_heap.specs.Values.{base_of, geo_of, value_of}
use Rattle.nd_eval.specs.Choosing.Indexing.{chosen_of}
use Rattle.nd_eval.specs.Ends.{Evaluates}
use Rattle.nd_eval.proofs.evaluator.Evaluator.chosen_value.Goals as goal

pub returns-in-Copy-clause-value : goal.returns-in-Copy-clause-value
returns-in-Copy-clause-value c =
    let a = c.args.array.now in
    subst (λ x. Evaluates value_of c.copy_chosen-copied.result c.args.self.now (choose_in (base_of a.base) (geo_of a) (chosen_of x)) c.copy_chosen-copied.new.self)
    (sym c.in-Copy.is) (c.copy_chosen-copied.ensures.value (geo_of a))
