use Rattle.nd_token.proofs.Runs.{boundary_behind_name}
use Rattle.nd_token.proofs.word.name_at.Goals as goal

pub part-requires-clause-ends : goal.part-requires-clause-ends
part-requires-clause-ends c =
    boundary_behind_name c.args.text.now c.bytes_from.result.now c.args.at c.name_length-length.result c.utf8.text c.requires.in_text
    c.requires.begins c.bytes_from.ensures c.name_length-length.ensures.value c.name_length-length.ensures.fits
