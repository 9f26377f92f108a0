use Rattle.std.proofs.Common.{rules, subst}
use Rattle.std.specs.Prelude.{IfOk}
use Rattle.nd_input.specs.Sources.{source_of}
use Rattle.nd_commands.specs.Noted.{noted_of}
use Rattle.nd_desk.specs.Lines.{IsOfForm}
use Rattle.nd_desk.proofs.Carried.{bad_name, set_some, unread}
use Rattle.nd_desk.proofs.carry.set_file.Goals as goal

pub returns-then-not-is_input_name : goal.returns-then-not-is_input_name
returns-then-not-is_input_name g c =
    bad_name c.args.form c.args.name.now c.args.path.now (noted_of c.args.notebook.now c.args.meter.now c.args.ran.now.items) _ _ (search rules) c.push_edit_refusal.ensures

pub returns-in-Ok : goal.returns-in-Ok
returns-in-Ok g c =
    let old = noted_of c.args.notebook.now c.args.meter.now c.args.ran.now.items in
    let new = noted_of c.set_input.new.notebook c.set_input.new.meter c.set_input.new.ran.items in
    let formed = subst (λ r. IfOk r (λ input. IsOfForm c.args.form (source_of input))) c.in-Ok.is c.read.ensures in
    set_some c.args.form c.args.name.now c.args.path.now (source_of c.in-Ok.input) old new _ _ formed c.set_input.ensures

pub returns-in-Err : goal.returns-in-Err
returns-in-Err g c =
    unread c.args.form c.args.name.now c.args.path.now c.kind.result (noted_of c.args.notebook.now c.args.meter.now c.args.ran.now.items) _ _ (search rules) c.push_cause.ensures
