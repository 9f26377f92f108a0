use Rattle.nd_notebook.specs.Queries.{bound_of}
use Rattle.nd_desk.proofs.Carried.{told_type, untold_type}
use Rattle.nd_desk.proofs.carry.show_type.Goals as goal

pub returns-in-Ok : goal.returns-in-Ok
returns-in-Ok g c = told_type c.args.notebook.now c.args.at c.args.name.now (bound_of c.in-Ok.value) _ _ c.in-Ok.ensures c.push_type.ensures

pub returns-in-Err : goal.returns-in-Err
returns-in-Err g c = untold_type c.args.notebook.now c.args.at c.args.name.now c.in-Err.fault _ _ c.in-Err.ensures c.push_query_refusal.ensures
