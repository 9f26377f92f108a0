use Rattle.std.proofs.Common.{refl, lit<}
use Rattle.std.proofs.lemmas.Str.Pattern.{split_once_first}
use Rattle.nd_desk.proofs.Indexes.{bounds_of-one, bounds_of-more}
use Rattle.nd_desk.proofs.index.split_bound.Goals as goal

pub returns-in-Some : goal.returns-in-Some
returns-in-Some c =
    let text = c.args.text.now in
    let cut = rw c.in-Some.is at (split_once_first 58 text c.split_once.result c.split_once.ensures.cases (lit< tt)) in
    rw (bounds_of-more text cut.0, cut.1, cut.2) refl

pub returns-in-None : goal.returns-in-None
returns-in-None c =
    let text = c.args.text.now in
    let whole = rw c.in-None.is at (split_once_first 58 text c.split_once.result c.split_once.ensures.cases (lit< tt)) in
    bounds_of-one text whole
