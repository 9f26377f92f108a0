use Rattle.nd_reduce.proofs.axes.tables.MinBests.extend.Goals as goal

pub returns : goal.returns
returns c = λ columns many are is. c.extend_part.ensures.folds columns many (record {
  all = are;
  written = is;
  beside = λ some. tt;
})
