use Rattle.std.proofs.Common.{◌∙◌, sym, ap, get_or}
use Rattle.nd_token.specs.Tokens.{word_of}
use Rattle.nd_token.proofs.Pieces.{comment_fits, word_fits_at}
use Rattle.nd_token.proofs.scan.piece_at.Goals as goal

pub returns-in-35-clause-fits : goal.returns-in-35-clause-fits
returns-in-35-clause-fits c =
    let text = c.args.text.now in
    comment_fits text c.bytes_from.result.now c.args.at c.comment_length.result c.requires (ap (λ l. get_or l c.args.at 0) (sym c.as_bytes-bytes.ensures.value) ∙ c.in-35.is)
    c.bytes_from.ensures c.comment_length.ensures

pub returns-in_ok-word-in_default-clause-fits : goal.returns-in_ok-word-in_default-clause-fits
returns-in_ok-word-in_default-clause-fits c =
    let w = c.in_ok-word-in_default in
    word_fits_at c.args.text.now c.args.at (word_of w.word) w.count c.requires w.ensures
