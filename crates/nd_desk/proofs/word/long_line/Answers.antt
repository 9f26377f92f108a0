use Rattle.std.proofs.Common.{sym, ◌∙◌}
use Rattle.nd_desk.proofs.Lines.{with_more}
use Rattle.nd_desk.proofs.word.long_line.Goals as goal

pub returns : goal.returns
returns c = c.ending_line.ensures ∙ sym (with_more c.args.word.now c.args.first.now c.args.second.now c.args.rest.now)
