use Rattle.nd_view.proofs.Offsets.{strides_place}
use Rattle.nd_view.proofs.Ranges.{strides_range, no_fault_of}
use Rattle.nd_view.proofs.strided.View.held_strides.Goals as goal

pub returns-clause-held : goal.returns-clause-held
returns-clause-held c = no_fault_of c.self.inside c.self.invariant c.args.self.now c.self.view_is c.as_slice.result.now c.as_slice.ensures

pub returns-clause-places : goal.returns-clause-places
returns-clause-places c = strides_place c.self.inside c.self.invariant c.args.self.now c.self.view_is c.as_slice.result.now c.as_slice.ensures

pub returns-clause-range : goal.returns-clause-range
returns-clause-range c = strides_range c.self.inside c.self.invariant c.args.self.now c.self.view_is c.as_slice.result.now c.as_slice.ensures
