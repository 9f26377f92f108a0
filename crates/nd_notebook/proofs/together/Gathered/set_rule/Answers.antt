use Rattle.std.proofs.Common.{ap, Global}
use Rattle.std.specs.declared.rc.Rc.{Rc}
use Rattle.nd_heap.proofs.NameLists.{cloned_entries}
use Rattle.nd_input.specs.declared.Input.{Input}
use Rattle.nd_input.specs.Sources.{source_of}
use Rattle.nd_session.specs.Inputs.Values.{rule_of}
use Rattle.nd_notebook.specs.SoFar.{given_by}
use Rattle.nd_notebook.proofs.Gathering.{rule_after}
use Rattle.nd_notebook.proofs.together.Gathered.set_rule.Goals as goal

pub returns : goal.returns
returns c =
    rule_after c.args.self.now.draft (given_by c.args.notebook.now.given c.args.self.now.world) c.world.result.now _ c.world.ensures (rule_of c.args.rule)
    (cloned_entries (λ (x : Rc Input Global). source_of x.value) (λ p q e. ap source_of e) _ _ c.in_ok-inputs.ensures.cases)
