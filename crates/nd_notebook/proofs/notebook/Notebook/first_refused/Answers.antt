use Rattle.std.proofs.Common.{◌<◌, length, ap, sym, ◌∙◌, arith}
use Rattle.nd_model.specs.Book.Notebook.{Sheet}
use Rattle.nd_notebook.proofs.Looking.{front-more, passed_here, stopped_here}
use Rattle.nd_notebook.proofs.notebook.Notebook.first_refused.Goals as goal

pub returns-in-Err : goal.returns-in-Err
returns-in-Err c =
    stopped_here c.args.edits.now c.loop-number.number c.index-edits-number.result c.args.self.now (omega (arith, c.loop-number-test.true)) c.index-edits-number.is c.in-Err.fault c.in-Err.ensures
    ∙ sym c.loop-number.invariant.decides

pub loop-number-preserved : goal.loop-number-preserved
loop-number-preserved c =
    let es = c.args.edits.now in let k = c.loop-number.number in let d = c.index-edits-number.result in let s = c.args.self.now in
    let lt : k < length es = omega (arith, c.loop-number-test.true) in
    record {
      many = c.in-Ok.ensures.1 ∙ ap (λ (t : Sheet). length t.cells) (sym (front-more es k d s lt c.index-edits-number.is));
      decides = c.loop-number.invariant.decides ∙ passed_here es k d s lt c.index-edits-number.is c.in-Ok.ensures.0;
    }
