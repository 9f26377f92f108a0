use Rattle.std.proofs.Common.{[], map, false, sym, subst}
use Rattle.nd_model.specs.Making.Operand.{AView, Elements}
use Rattle.nd_model.specs.Indexing.Stretching.{broadcast_to}
use Rattle.nd_heap.specs.Values.{geo_of}
use Rattle.nd_operation.specs.Operators.Contents.{unused_of}
use Rattle.nd_operation.specs.Refusals.Ends.{Makes}
use Rattle.nd_eval.proofs.choosing.Stretching.{of_lengths, seen_makes}
use Rattle.nd_eval.proofs.choosing.stretches.stretch_view.Goals as goal

pub returns : goal.returns
returns c =
    let g = geo_of c.args.array.now in
    let items = c.in_ok-shape.shape.items in
    subst (Makes (λ v. AView v) c.stretch.result) (sym (of_lengths (Elements false g []) (map unused_of c.args.shape.now) items c.in_ok-shape.ensures))
    (seen_makes c.stretch.result (broadcast_to items g) (rw c.deref.ensures at c.stretch.ensures))
