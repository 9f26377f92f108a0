use Rattle.std.proofs.Common.{◌∙◌, ap, refl, sym}
use Rattle.std.specs.Rc.{rc_str_bytes}
use Rattle.nd_session.specs.Inputs.Values.{inputs_of}
use Rattle.nd_session.specs.Session.Now.{input_now}
use Rattle.nd_session.proofs.session.Carrying.{set_now}
use Rattle.nd_session.proofs.session.Standing.{name_noted, none_some, noted_same}
use Rattle.nd_session.proofs.session.change.inputs.note_input.Goals as goal

pub returns-then-are_same_inputs-clause-noted : goal.returns-then-are_same_inputs-clause-noted
returns-then-are_same_inputs-clause-noted c = noted_same (inputs_of c.args.new.now.entries) (input_now c.args.changed.now.entries)

pub returns-then-are_same_inputs-clause-same : goal.returns-then-are_same_inputs-clause-same
returns-then-are_same_inputs-clause-same c = λ _.
    let is = c.as_str-text.ensures.value in
    ap (inputs_of c.args.old.now.entries) (sym is) ∙ sym c.find_input.ensures ∙ c.are_same_inputs.ensures.0 c.if-are_same_inputs.true ∙ c.find_input-2.ensures ∙ ap (inputs_of c.args.new.now.entries) is

pub returns-clause-noted : goal.returns-clause-noted
returns-clause-noted c = name_noted (inputs_of c.args.new.now.entries) (input_now c.args.changed.now.entries) (input_now c.set_input.new.changed.entries) (rc_str_bytes c.args.name.now) c.in_ok-set_input.ensures

pub returns-clause-same : goal.returns-clause-same
returns-clause-same c = λ none.
    let j = inputs_of c.args.new.now.entries in
    let name = rc_str_bytes c.args.name.now in
    none_some (j name) (sym none ∙ set_now j (input_now c.args.changed.now.entries) (input_now c.set_input.new.changed.entries) name name refl c.in_ok-set_input.ensures)
