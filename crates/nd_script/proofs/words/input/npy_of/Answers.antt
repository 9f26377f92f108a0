use Rattle.nd_script.proofs.words.InputWords.{npy_more}
use Rattle.nd_script.proofs.words.input.npy_of.Goals as goal

pub returns-in_default-Some : goal.returns-in_default-Some
returns-in_default-Some c =
    let words = rw c.in_default-Some.is-1 at c.split_word.ensures in
    rw words (npy_more c.split_word.result.0.now c.in_default-Some.field-0-1.now)
