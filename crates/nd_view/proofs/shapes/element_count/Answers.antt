use Rattle.std.proofs.Common.{sym, ◌∙◌, arith}
use Rattle.nd_view.proofs.Counts.{none, some}
use Rattle.nd_view.proofs.shapes.element_count.Goals as goal

pub returns-then-contains : goal.returns-then-contains
returns-then-contains c = sym (none c.args.shape.now (sym c.contains.ensures.value ∙ c.if-contains.true))

pub loop-length-init : goal.loop-length-init
loop-length-init c = record {
  product = omega arith;
  some = some c.args.shape.now (sym c.contains.ensures.value ∙ c.if-contains.false);
}
