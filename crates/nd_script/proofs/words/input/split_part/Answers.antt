use Rattle.std.proofs.Common.{refl, lit<}
use Rattle.std.proofs.lemmas.Str.Pattern.{split_once_first}
use Rattle.nd_script.proofs.words.Parts.{parts_of-one, parts_of-more}
use Rattle.nd_script.proofs.words.InputWords.{shorter_behind}
use Rattle.nd_script.proofs.words.input.split_part.Goals as goal

pub returns-in-Some : goal.returns-in-Some
returns-in-Some c =
    let text = c.args.text.now in
    let cut = rw c.in-Some.is at (split_once_first 44 text c.split_once.result c.split_once.ensures.cases (lit< tt)) in
    record {
      parts = rw (parts_of-more text cut.0, cut.1, cut.2) refl;
      shorter = shorter_behind text c.in-Some.rest.now cut.0 cut.2;
    }

pub returns-in-None : goal.returns-in-None
returns-in-None c =
    let text = c.args.text.now in
    let whole = rw c.in-None.is at (split_once_first 44 text c.split_once.result c.split_once.ensures.cases (lit< tt)) in
    record { parts = parts_of-one text whole; shorter = tt }
