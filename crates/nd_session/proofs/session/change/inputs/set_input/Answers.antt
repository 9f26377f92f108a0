use Rattle.std.proofs.Common.{◌∙◌, Some, ap, bytes_eq, cond}
use Rattle.nd_session.specs.Inputs.Values.{inputs_of}
use Rattle.nd_session.specs.Session.Now.{input_now}
use Rattle.nd_session.specs.Session.Reading.{source_at}
use Rattle.nd_session.proofs.session.Standing.{name_insert}
use Rattle.nd_session.proofs.session.change.inputs.set_input.Goals as goal

pub returns : goal.returns
returns c = λ n.
    let es = c.args.changed.now.entries in
    let is = c.in_ok-input.ensures ∙ ap (inputs_of c.args.new.now.entries) c.as_str.ensures.value in
    ap (λ es. input_now es n) c.in_ok-insert.ensures.entries ∙ name_insert source_at c.in_ok-key.key c.in_ok-input.input es n
    ∙ (λ i. cond (bytes_eq n (c.in_ok-key.ensures.cases i)) (Some (is i)) (input_now es n))
