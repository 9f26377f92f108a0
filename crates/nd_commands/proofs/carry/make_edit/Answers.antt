use Rattle.nd_notebook.specs.Edits.{edit_of}
use Rattle.nd_commands.proofs.Edited.{noted_edit}
use Rattle.nd_commands.proofs.carry.make_edit.Goals as goal

pub returns : goal.returns
returns g c =
    let done = c.apply-done in
    noted_edit done.result (λ v. v.items) (edit_of c.args.edit) c.args.notebook.now done.new.self c.args.meter.now done.new.meter c.args.ran.now.items c.answer_edit.new.ran.items _ _
    done.ensures.answered done.ensures.counts done.ensures.ran c.answer_edit.ensures.ran (rw c.input_name.ensures at c.answer_edit.ensures.pushed)
