use Rattle.std.proofs.Common.{ap, ◌∙◌}
use Rattle.nd_model.specs.Arrays.Tuple.{elements_of}
use Rattle.nd_view.proofs.Fields.{count_of}
use Rattle.nd_view.proofs.strided.View.count.Goals as goal

pub returns-clause-value : goal.returns-clause-value
returns-clause-value c = c.element_count.ensures ∙ ap elements_of c.as_slice.ensures ∙ count_of c.self.inside c.self.invariant c.args.self.now c.self.view_is
