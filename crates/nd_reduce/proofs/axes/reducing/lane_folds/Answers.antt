use Rattle.std.proofs.Common.{false, ◌*◌, length, sym, ap, ◌∙◌, subst}
use Rattle.nd_model.specs.Arrays.View.{Geo}
use Rattle.nd_element.specs.Elements.{AreHeld}
use Rattle.nd_reduce.proofs.axes.Reduced.{lanes_count, lanes_held}
use Rattle.nd_reduce.proofs.axes.reducing.lane_folds.Goals as goal

pub folds-requires-clause-held : goal.folds-requires-clause-held
folds-requires-clause-held g c =
    let v : Geo = c.args.view.now in let bytes = c.args.bytes.now in
    subst (λ (v : Geo). AreHeld c.args.elem bytes v.places) (sym c.in_ok-by_lanes.ensures) (lanes_held v c.args.elem bytes c.requires.one c.requires.lies c.args.axis c.requires.axis)

pub folds-requires-clause-enough : goal.folds-requires-clause-enough
folds-requires-clause-enough g c =
    let v : Geo = c.args.view.now in let bytes = c.args.bytes.now in
    ap (λ (v : Geo). length v.places) c.in_ok-by_lanes.ensures ∙ lanes_count v c.args.elem bytes c.requires.one c.requires.lies c.args.axis false c.requires.axis
    ∙ (λ i. sym c.requires.lanes i * sym c.requires.count i)
