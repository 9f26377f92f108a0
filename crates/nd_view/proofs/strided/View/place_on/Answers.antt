use Rattle.std.proofs.Common.{length, take, ap, ◌∙◌}
use Rattle.nd_model.specs.Arrays.Strides.{place_at}
use Rattle.nd_view.specs.Indexes.{IsIndex}
use Rattle.nd_view.proofs.Fields.{shape_is, path_at}
use Rattle.nd_view.proofs.ViewLoops.{outer_place}
use Rattle.nd_view.proofs.strided.View.place_on.Goals as goal

pub place_by-requires : goal.place_by-requires
place_by-requires c =
    let outer : IsIndex (take (length c.args.outer.now) c.self.inside.shape.items) c.args.outer.now = rw (shape_is c.self.inside c.self.invariant c.args.self.now c.self.view_is) c.requires.inside in
    rw c.as_slice.ensures (path_at c.self.inside c.self.invariant c.args.self.now c.self.view_is c.args.outer.now outer)

pub returns : goal.returns
returns c =
    c.place_by.ensures ∙ ap (λ s. place_at c.self.inside.offset s c.args.outer.now) c.as_slice.ensures
    ∙ outer_place c.self.inside c.self.invariant c.args.self.now c.self.view_is c.args.outer.now c.requires.axes c.requires.inside c.requires.some
