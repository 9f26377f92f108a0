use Rattle.std.proofs.Common.{◌∙◌, ap, not, string_bytes}
use Rattle.nd_session.specs.Session.Live.{live}
use Rattle.nd_session.specs.Session.Kept.{thawed}
use Rattle.nd_session.specs.Inputs.Values.{rule_of}
use Rattle.nd_cell.specs.Results.{saves_of}
use Rattle.nd_cell.proofs.Recording.{atomic_end, not_refused, python_end}
use Rattle.nd_cell.proofs.record.end_by.Goals as goal

pub returns-then-is_none : goal.returns-then-is_none
returns-then-is_none c =
    not_refused (rule_of c.args.rule) (thawed c.args.before) (string_bytes c.args.gives.text) c.args.gives.refusal (saves_of c.args.gives.saves.entries) (live c.args.session.now) (c.is_none.ensures ∙ ap not c.if-is_none.true)

pub returns-in-Python : goal.returns-in-Python
returns-in-Python c =
    python_end (rule_of c.args.rule) (thawed c.args.before) (string_bytes c.args.gives.text) c.args.gives.refusal (saves_of c.args.gives.saves.entries) (live c.args.session.now) (ap rule_of c.in-Python.is)

pub returns-in-Atomic : goal.returns-in-Atomic
returns-in-Atomic c =
    atomic_end (rule_of c.args.rule) (thawed c.args.before) (string_bytes c.args.gives.text) c.args.gives.refusal (saves_of c.args.gives.saves.entries) (saves_of c.new.result.entries) (live c.args.session.now) (live c.replace-refused.new.dest)
    (ap rule_of c.in-Atomic.is) (c.is_none.ensures ∙ ap not c.if-is_none.false) (ap saves_of c.new.ensures.empty) (ap live c.replace-refused.ensures.after ∙ c.resume.ensures)
