use Rattle.nd_view.proofs.Offsets.{strides_place, strides_kept}
use Rattle.nd_view.proofs.strided.View.strides.Goals as goal

pub returns-clause-places : goal.returns-clause-places
returns-clause-places c = strides_place c.self.inside c.self.invariant c.args.self.now c.self.view_is c.as_slice.result.now c.as_slice.ensures

pub returns-clause-kept : goal.returns-clause-kept
returns-clause-kept c = strides_kept c.self.inside c.self.invariant c.args.self.now c.self.view_is c.as_slice.result.now c.as_slice.ensures
