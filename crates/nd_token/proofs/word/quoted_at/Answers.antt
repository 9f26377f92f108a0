use Rattle.nd_token.proofs.Runs.{boundary_behind, quote_is_ascii}
use Rattle.nd_token.proofs.word.quoted_at.Goals as goal

pub part-requires-clause-begins : goal.part-requires-clause-begins
part-requires-clause-begins c = boundary_behind _ _ c.utf8.text c.requires.in_text (quote_is_ascii _ c.requires.begins)
