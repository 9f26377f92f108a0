use Rattle.std.proofs.Common.{rules, ◌++◌, replicate, sym, ap, ◌∙◌, FitsSigned}
use Rattle.std.specs.Int.{w128}
use mir.Facts.{to_z-of_z}
use Rattle.nd_ufunc.specs.Loops.Feeds.{numbers_left}
use Rattle.nd_ufunc.proofs.loops.Zipped.{repeated}
use Rattle.nd_ufunc.proofs.loops.feed.Feed.take.Goals as goal

pub returns-in-Number-clause-split : goal.returns-in-Number-clause-split
returns-in-Number-clause-split c =
    let n = c.args.count in let fits : FitsSigned w128 c.take.result = search rules in
    ap numbers_left c.in-Number.is ∙ c.take.ensures
    ∙ (λ i. replicate n (sym (to_z-of_z fits) i) ++ c.take.new.self)
    ∙ ap (λ l. l ++ c.take.new.self) (sym (repeated _ 0 n))
