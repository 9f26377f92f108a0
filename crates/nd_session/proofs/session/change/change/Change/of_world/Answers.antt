use Rattle.std.proofs.Common.{List, Option, Global, ap, subst}
use Rattle.std.specs.declared.rc.Rc.{Rc}
use Rattle.std.specs.declared.rc.RcStr.{RcStr}
use Rattle.nd_input.specs.declared.Input.{Input}
use Rattle.nd_session.specs.Inputs.Values.{inputs_of, rule_of}
use Rattle.nd_session.specs.Session.Change.{IsNoted, whole_in}
use Rattle.nd_session.specs.Session.Now.{block_now, data_in, input_now, part_now, value_now}
use Rattle.nd_session.proofs.session.Giving.{given_over}
use Rattle.nd_session.proofs.session.change.change.Change.of_world.Goals as goal

pub returns : goal.returns
returns c =
    let i = inputs_of c.args.old.now.entries in
    let j = inputs_of c.args.new.now.entries in
    let first = input_now c.note_inputs.new.changed.entries in
    given_over i j (whole_in (data_in (record { names = c.new.result; inputs = c.note_inputs-2.new.changed; blocks = c.new-2.result; parts = c.new-3.result; rule = c.changed_rule.result; alloc = c.args.alloc }))) first
    (λ n. ap (λ es. value_now es n) c.new.ensures.empty) (λ b. ap (λ es. block_now es b) c.new-2.ensures.empty) (λ b p. ap (λ es. part_now es b p) c.new-3.ensures.empty)
    (subst (λ (es : List (RcStr Global × Option (Rc Input Global))). IsNoted j (input_now es) first) c.new-inputs.ensures.empty c.in_ok-note_inputs.ensures.noted)
    c.in_ok-note_inputs-2.ensures.noted c.in_ok-note_inputs.ensures.same c.in_ok-note_inputs-2.ensures.same
    (rule_of c.args.old_rule) (rule_of c.args.rule) c.changed_rule.ensures.now c.changed_rule.ensures.same
