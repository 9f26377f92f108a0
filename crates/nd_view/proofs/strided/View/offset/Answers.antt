use Rattle.nd_view.proofs.Offsets.{offset_of}
use Rattle.nd_view.proofs.strided.View.offset.Goals as goal

pub returns : goal.returns
returns c = offset_of c.self.inside c.self.invariant c.args.self.now c.self.view_is
