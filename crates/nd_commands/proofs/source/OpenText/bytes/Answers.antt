use Rattle.std.proofs.Common.{sym, ◌∙◌}
use Rattle.std.proofs.lemmas.List.Splits.{join_with_byte-slice_split}
use Rattle.nd_commands.proofs.source.OpenText.bytes.Goals as goal

pub returns-then-self : goal.returns-then-self
returns-then-self c = rw c.if-self.true (c.as_slice.ensures.value ∙ sym (join_with_byte-slice_split 10 c.args.self.now.text.items))
