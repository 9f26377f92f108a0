use Rattle.std.proofs.Common.{◌∙◌, ap, refl, Global}
use Rattle.std.proofs.lemmas.Result.{err_from_is_err_and}
use Rattle.std.specs.declared.rc.Rc.{Rc}
use Rattle.nd_heap.proofs.NameLists.{cloned_entries}
use Rattle.nd_input.specs.declared.Input.{Input}
use Rattle.nd_input.specs.Sources.{source_of}
use Rattle.nd_session.specs.Inputs.Values.{rule_of}
use Rattle.nd_notebook.proofs.Worlds.{rule_counts, rule_edited, rule_ran}
use Rattle.nd_notebook.proofs.notebook.Notebook.set_rule.Goals as goal

pub returns-in_err-ran-clause-counts : goal.returns-in_err-ran-clause-counts
returns-in_err-ran-clause-counts c =
    let p = err_from_is_err_and c.from_residual-in_err-ran.result c.from_residual-in_err-ran.ensures.1 in
    rw (p.1, p.2) (rule_counts c.self.inside.schedule c.args.self.now _ _ (rule_of c.args.rule) c.args.meter.now c.set_world.new.meter c.self.view_is c.world.ensures
    (cloned_entries (λ (x : Rc Input Global). source_of x.value) (λ p q e. ap source_of e) _ _ c.in_ok-inputs.ensures.cases) c.set_world.ensures.counts)

pub returns-clause-answered : goal.returns-clause-answered
returns-clause-answered c = (
  refl,
  c.in_ok-ran.ensures.ok ∙ rule_edited c.self.inside.schedule c.args.self.now _ _ (rule_of c.args.rule) c.self.view_is c.world.ensures
      (cloned_entries (λ (x : Rc Input Global). source_of x.value) (λ p q e. ap source_of e) _ _ c.in_ok-inputs.ensures.cases),
)

pub returns-clause-counts : goal.returns-clause-counts
returns-clause-counts c =
    rule_counts c.self.inside.schedule c.args.self.now _ _ (rule_of c.args.rule) c.args.meter.now c.set_world.new.meter c.self.view_is c.world.ensures
    (cloned_entries (λ (x : Rc Input Global). source_of x.value) (λ p q e. ap source_of e) _ _ c.in_ok-inputs.ensures.cases) c.set_world.ensures.counts

pub returns-clause-ran : goal.returns-clause-ran
returns-clause-ran c =
    rule_ran c.self.inside.schedule c.args.self.now _ _ (rule_of c.args.rule) _ c.self.view_is c.world.ensures
    (cloned_entries (λ (x : Rc Input Global). source_of x.value) (λ p q e. ap source_of e) _ _ c.in_ok-inputs.ensures.cases) c.in_ok-ran.ensures.ran
