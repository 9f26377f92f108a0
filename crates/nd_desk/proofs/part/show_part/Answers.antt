use Rattle.nd_notebook.specs.Queries.{bound_of}
use Rattle.nd_desk.specs.Lines.{items_in}
use Rattle.nd_desk.proofs.Carried.{told_part, untold_part}
use Rattle.nd_desk.proofs.part.show_part.Goals as goal

pub returns-in-Ok : goal.returns-in-Ok
returns-in-Ok g c = told_part c.args.notebook.now c.args.at c.args.name.now (items_in c.args.index.now) (bound_of c.in-Ok.value) _ _ c.in-Ok.ensures c.push_part.ensures

pub returns-in-Err : goal.returns-in-Err
returns-in-Err g c = untold_part c.args.notebook.now c.args.at c.args.name.now (items_in c.args.index.now) c.in-Err.fault _ _ c.in-Err.ensures c.push_query_refusal.ensures
