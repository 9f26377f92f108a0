-- What is computed of a header is what its bytes come to.
use Rattle.std.proofs.Common.{◌≡◌, true, refl}
use Rattle.nd_model.specs.Formats.RuleReading.{look}
use Rattle.nd_model.specs.Formats.NpyHeader.{header, header_in, kinds_of, judge, OneMeaning, HeaderIsRead}
use Rattle.nd_grammar.proofs.Judging.{judged_comes, one_outcome}

-- one byte of lookahead is enough
fits : (look header).fits ≡ true
unfolding header
fits = refl

pub one_meaning : OneMeaning
one_meaning encoding bytes x y p q = one_outcome header (kinds_of bytes) (judge encoding bytes) x y fits p q

pub header_is_read : HeaderIsRead
unfolding header_in
header_is_read encoding bytes = judged_comes header (kinds_of bytes) (judge encoding bytes) (header_in encoding bytes) fits refl
