use Rattle.nd_model.specs.Book.Book.{SetInput}
use Rattle.nd_notebook.specs.Sources.{source_of}
use Rattle.nd_commands.proofs.Edited.{noted_edit}
use Rattle.nd_commands.proofs.carry.set_input.Goals as goal

pub returns : goal.returns
returns g c =
    let done = c.set_input-done in
    noted_edit done.result (λ v. v.items) (SetInput c.args.name.now (source_of c.args.input)) c.args.notebook.now done.new.self c.args.meter.now done.new.meter c.args.ran.now.items c.answer_edit.new.ran.items _ _
    done.ensures.answered done.ensures.counts done.ensures.ran c.answer_edit.ensures.ran c.answer_edit.ensures.pushed
