use Rattle.std.proofs.Common.{get_or, ap, ◌∙◌}
use Rattle.nd_model.specs.Arrays.Strides.{place_at}
use Rattle.nd_model.specs.Arrays.Tuple.{number}
use Rattle.nd_view.specs.Indexes.{IsIndex}
use Rattle.nd_view.proofs.Fields.{shape_is, path_at, tuple_at}
use Rattle.nd_view.proofs.Steps.{whole_index}
use Rattle.nd_view.proofs.strided.View.place.Goals as goal

abbrev index : (c : goal.After-as_slice-2) → IsIndex c.self.inside.shape.items c.as_slice-2.result.now
index c = rw (c.as_slice-2.ensures, shape_is c.self.inside c.self.invariant c.args.self.now c.self.view_is) c.requires

pub place_by-requires : goal.place_by-requires
place_by-requires c =
    rw c.as_slice.ensures (path_at c.self.inside c.self.invariant c.args.self.now c.self.view_is c.as_slice-2.result.now
    (whole_index c.self.inside.shape.items c.as_slice-2.result.now (index c)))

pub returns : goal.returns
returns c =
    c.place_by.ensures ∙ ap (λ s. place_at c.self.inside.offset s c.as_slice-2.result.now) c.as_slice.ensures
    ∙ tuple_at c.self.inside c.self.invariant c.args.self.now c.self.view_is c.as_slice-2.result.now
    (rw (c.as_slice-2.ensures, shape_is c.self.inside c.self.invariant c.args.self.now c.self.view_is) c.requires)
    ∙ (λ i. get_or c.args.self.now.places (number (shape_is c.self.inside c.self.invariant c.args.self.now c.self.view_is i) (c.as_slice-2.ensures i)) 0)
