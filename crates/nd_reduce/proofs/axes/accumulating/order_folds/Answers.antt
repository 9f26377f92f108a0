use Rattle.std.proofs.Common.{◌≡◌, ℕ, List, ap, ◌∙◌, subst}
use Rattle.std.specs.Prelude.{IfOk}
use Rattle.nd_model.specs.Making.Elementwise.{little}
use Rattle.nd_model.specs.Arrays.View.{One, Geo, contiguous, rearranged_view}
use Rattle.nd_types.specs.Kinds.{kind_of}
use Rattle.nd_convert.specs.Conversion.Converted.{converted_bytes}
use Rattle.nd_reduce.specs.Axes.LastAxis.{to_end}
use Rattle.nd_reduce.proofs.axes.accumulating.order_folds.Goals as goal

pub put_folds-requires-clause-one : goal.put_folds-requires-clause-one
put_folds-requires-clause-one c = ap (λ (w : Geo). w.element) c.in_ok-by_lanes.ensures

pub put_folds-requires-clause-lanes : goal.put_folds-requires-clause-lanes
put_folds-requires-clause-lanes c = ap (λ (w : Geo). w.shape) c.in_ok-by_lanes.ensures ∙ c.requires.lanes

pub returns : goal.returns
returns c =
    let a = c.args in let e = c.little-elem.ensures in
    let at : c.in_ok-by_lanes.by_lanes ≡ contiguous (One (little (kind_of a.kind))) a.lanes.now = c.in_ok-by_lanes.ensures ∙ ap (λ x. contiguous (One x) a.lanes.now) e in
    subst (λ (l : List ℕ). IfOk c.put_folds.result (λ b. b ≡ l))
    (λ i. converted_bytes (e i) (e i) a.folds.now (rearranged_view (at i) a.shape.now (to_end a.axis)).places) c.put_folds.ensures
