use Rattle.std.proofs.Common.{drop}
use Rattle.std.specs.Char.{is_ascii_digit}
use Rattle.nd_token.proofs.Runs.{boundary_behind_digits, run_passes}
use Rattle.nd_token.proofs.word.number_at.Goals as goal

pub part-requires-clause-ends : goal.part-requires-clause-ends
part-requires-clause-ends c =
    boundary_behind_digits c.args.text.now c.bytes_from.result.now c.args.at c.digit_count-length.result c.utf8.text c.requires.in_text
    c.requires.begins c.bytes_from.ensures c.digit_count-length.ensures.value c.digit_count-length.ensures.fits

pub integer_of-requires-clause-digits : goal.integer_of-requires-clause-digits
integer_of-requires-clause-digits c =
    run_passes is_ascii_digit (drop c.args.at c.args.text.now) c.bytes_from.result.now c.part.result.now c.digit_count-length.result
    c.bytes_from.ensures c.digit_count-length.ensures.value c.part.ensures
