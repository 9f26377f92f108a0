use Rattle.nd_desk.proofs.Raws.{seven_words}
use Rattle.nd_desk.proofs.raw.six_words.Goals as goal

pub returns-in-Some : goal.returns-in-Some
returns-in-Some c =
    let one = rw c.in_ok-rest.was at c.split_word.ensures in
    let two = rw c.in_ok-rest-2.was at c.split_word-2.ensures in
    let three = rw c.in_ok-rest-3.was at c.split_word-3.ensures in
    let four = rw c.in_ok-rest-4.was at c.split_word-4.ensures in
    let five = rw c.in_ok-rest-5.was at c.split_word-5.ensures in
    let six = rw c.in-Some.is at c.split_word-6.ensures in
    rw (one, two, three, four, five, six) (seven_words c.split_word.result.0.now c.split_word-2.result.0.now c.split_word-3.result.0.now
    c.split_word-4.result.0.now c.split_word-5.result.0.now c.split_word-6.result.0.now c.in-Some.field-0.now)
