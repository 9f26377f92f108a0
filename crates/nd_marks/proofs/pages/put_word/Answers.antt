use Rattle.std.proofs.Common.{◌∙◌, refl}
use Rattle.std.proofs.lemmas.List.{get_or_default}
use Rattle.nd_marks.proofs.Bits.{word_added}
use Rattle.nd_marks.proofs.pages.put_word.Goals as goal

pub returns-clause-bits : goal.returns-clause-bits
returns-clause-bits c = λ q i. word_added c.args.words.now.items _ c.args.at c.index.result.now c.args.word q i c.requires
    (c.index.ensures ∙ get_or_default c.args.words.now.items c.args.at c.index.result.now 0 c.requires) refl
