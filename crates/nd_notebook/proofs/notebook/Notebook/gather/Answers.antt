use Rattle.std.proofs.Common.{◌≡◌, ◌∷◌, length, ap, arith}
use Rattle.std.specs.Vec.Iter.{into_iter_items}
use Rattle.nd_notebook.proofs.Gathering.{allowed_then, leads_then}
use Rattle.nd_notebook.proofs.notebook.Notebook.gather.Goals as goal

pub loop-edit-preserved : goal.loop-edit-preserved
loop-edit-preserved c =
    let at = c.loop-edit in
    let steps : into_iter_items at.edit-iterator ≡ c.in-Some.edit ∷ into_iter_items c.next.new.self = c.in-Some.ensures.steps.0 in record {
      allowed = allowed_then _ _ _ _ _ steps at.invariant.allowed c.in_ok-make.ensures;
      leads = leads_then _ _ _ _ _ steps _ at.invariant.leads c.in_ok-make.ensures;
      as_many = let was = at.invariant.as_many in
          let gone = c.in-Some.ensures.steps.1 in
          let short = ap length steps in
          omega arith;
    }
