-- What is computed of a text is what the grammar says.
use Rattle.std.proofs.Common.{◌≡◌, map, true, refl}
use Rattle.nd_model.specs.Formats.RuleReading.{look}
use Rattle.nd_model.specs.Formats.FormatGrammar.{byte_kind, format}
use Rattle.nd_model.specs.Formats.FormatReading.{judge, read_format, OneMeaning, ReadingIsExact}
use Rattle.nd_grammar.proofs.Judging.{comes_judged, judged_comes, one_outcome}

-- one byte of lookahead is enough
fits : (look format).fits ≡ true
unfolding format
fits = refl

pub one_meaning : OneMeaning
one_meaning text size x y p q = one_outcome format (map byte_kind text) (judge text size) x y fits p q

pub reading_is_exact : ReadingIsExact
unfolding read_format
reading_is_exact text size x = (λ e. judged_comes format (map byte_kind text) (judge text size) x fits e, λ m. comes_judged format (map byte_kind text) (judge text size) x fits m)
