use Rattle.std.proofs.Common.{sym}
use Rattle.nd_desk.proofs.Carried.{no_save, unwritten, written}
use Rattle.nd_desk.proofs.carry.save_file.Goals as goal

pub returns-in-Ok-replace_file : goal.returns-in-Ok-replace_file
returns-in-Ok-replace_file g c = written c.args.notebook.now c.args.at c.args.name.now c.args.path.now c.in-Ok.file.now _ _ (sym c.in-Ok.ensures) c.push_text.ensures

pub returns-in-Err-replace_file : goal.returns-in-Err-replace_file
returns-in-Err-replace_file g c = unwritten c.args.notebook.now c.args.at c.args.name.now c.args.path.now c.in-Ok.file.now c.kind.result _ _ (sym c.in-Ok.ensures) c.push_cause.ensures

pub returns-in-Err : goal.returns-in-Err
returns-in-Err g c = no_save c.args.notebook.now c.args.at c.args.name.now c.args.path.now c.in-Err.fault _ _ (sym c.in-Err.ensures) c.push_query_refusal.ensures
