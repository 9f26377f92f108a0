use Rattle.std.proofs.Common.{◌≡◌, ℕ, ◌*◌, List, ◌++◌, length, take, drop, sym, ap, ◌∙◌, arith}
use Rattle.std.proofs.Math.Seq.{take-append_seam}
use Rattle.std.proofs.lemmas.List.{length-take-le}
use Rattle.nd_model.specs.Arrays.Element.{Kind, size_of}
use Rattle.nd_types.specs.Kinds.{kind_of}
use Rattle.nd_reduce.proofs.axes.tables.extend_part.Goals as goal

pub returns-clause-folds : goal.returns-clause-folds
returns-clause-folds g c = λ columns many are.
    let a = c.args in let k : Kind = kind_of a.to in let n = a.count in let end : ℕ = n * c.size.result in let found : List ℕ = c.extend_columns.new.out in
    let every : end ≡ n * size_of k = ap (λ m. n * m) c.size.ensures.value in
    let full : length found ≡ end = c.extend_columns.auto.out ∙ length-take-le end a.found.now (omega (arith, every, c.requires.found)) in
    let kept : take end (found ++ drop end a.found.now) ≡ found = ap (λ m. take m (found ++ drop end a.found.now)) (sym full) ∙ take-append_seam found (drop end a.found.now) in
    c.copy_from_slice.ensures.after ∙ kept ∙ c.extend_columns.ensures columns many are

pub returns-clause-bests : goal.returns-clause-bests
returns-clause-bests g c = λ columns many are. c.extend.ensures columns many are.all are.beside
