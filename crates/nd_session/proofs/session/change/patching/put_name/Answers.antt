use Rattle.std.proofs.Common.{◌≡◌, ◌∙◌, Some, None, bytes_eq, cond, sym, ap}
use Rattle.std.specs.Rc.{rc_str_bytes}
use Rattle.nd_heap.specs.Values.{value_of}
use Rattle.nd_model.specs.Cells.Session.{lookup}
use Rattle.nd_model.proofs.Lists.{lookup-bind, lookup-unbind}
use Rattle.nd_session.specs.Session.Reading.{value_at}
use Rattle.nd_session.proofs.session.change.patching.put_name.Goals as goal

pub returns-in_ok-bind-in-Some-clause-names : goal.returns-in_ok-bind-in-Some-clause-names
returns-in_ok-bind-in-Some-clause-names c = λ n.
    let names = c.args.heap.now.names in
    let v = c.in_ok-clone-in-Some-2.field-0.value in
    let is : Some (value_of v) ≡ value_at c.args.value.now = ap (λ v. Some (value_of v)) c.in_ok-clone-in-Some-2.ensures.cases ∙ sym (ap value_at c.in-Some.is) in
    ap (lookup n) c.in_ok-bind-in-Some.ensures.ok ∙ lookup-bind n (rc_str_bytes c.in_ok-clone-in-Some.field-0) (value_of v) names
    ∙ (λ i. cond (bytes_eq n (c.in_ok-clone-in-Some.ensures.cases i)) (is i) (lookup n names))

pub returns-in_ok-unbind-in-None-clause-names : goal.returns-in_ok-unbind-in-None-clause-names
returns-in_ok-unbind-in-None-clause-names c = λ n.
    let names = c.args.heap.now.names in
    let is : None ≡ value_at c.args.value.now = sym (ap value_at c.in-None.is) in
    ap (lookup n) c.in_ok-unbind-in-None.ensures.ok ∙ lookup-unbind n c.as_str.result.now names
    ∙ (λ i. cond (bytes_eq n (c.as_str.ensures.value i)) (is i) (lookup n names))
