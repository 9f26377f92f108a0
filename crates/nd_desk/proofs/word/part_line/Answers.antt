use Rattle.nd_desk.proofs.Indexes.{more_words}
use Rattle.nd_desk.proofs.word.part_line.Goals as goal

pub returns-in_default-Some : goal.returns-in_default-Some
returns-in_default-Some c =
    let words = rw c.in_default-Some.is-1 at c.split_word.ensures in
    rw words (more_words c.args.name.now c.split_word.result.0.now c.in_default-Some.field-0-1.now c.args.at)
