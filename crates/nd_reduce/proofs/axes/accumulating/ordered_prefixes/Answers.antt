use Rattle.std.proofs.Common.{◌≡◌, ℕ, ◌*◌, ◌<◌, false, List, length, get_or, Some, sym, ap, ◌∙◌, subst}
use Rattle.std.specs.List.{flat_map}
use Rattle.std.specs.Prelude.{IfOk}
use Rattle.std.proofs.lemmas.List.{length-map}
use Rattle.nd_model.specs.Grammar.Calls.{Reduction}
use Rattle.nd_model.specs.Arrays.Content.{number_at}
use Rattle.nd_model.specs.Arrays.Element.{Kind}
use Rattle.nd_model.specs.Making.Elementwise.{little}
use Rattle.nd_model.specs.Making.Reductions.{reduced_shape}
use Rattle.nd_model.specs.Arrays.Tuple.{elements_of}
use Rattle.nd_model.specs.Arrays.View.{One, Geo, contiguous, rearranged_view}
use Rattle.nd_convert.specs.Conversion.Converted.{converted_bytes}
use Rattle.nd_types.specs.Kinds.{kind_of}
use Rattle.nd_element.specs.Elements.{AreHeld, numbers_at}
use Rattle.nd_reduce.specs.Folds.Lanes.{lanes_in, prefix_bytes}
use Rattle.nd_reduce.specs.Axes.LastAxis.{lanes_of, to_end}
use Rattle.nd_reduce.proofs.axes.Accumulated.{in_c_order, lane_bytes}
use Rattle.nd_reduce.proofs.axes.Reduced.{lanes_count, lanes_held}
use Rattle.nd_reduce.proofs.axes.accumulating.ordered_prefixes.Goals as goal

pub prefixes-requires-clause-held : goal.prefixes-requires-clause-held
prefixes-requires-clause-held g c =
    let a = c.args in
    subst (λ (w : Geo). AreHeld a.elem a.bytes.now w.places) (sym c.requires.lanes)
    (lanes_held a.view.now a.elem a.bytes.now c.requires.one c.requires.lies (Some a.axis) c.requires.axis)

pub prefixes-requires-clause-enough : goal.prefixes-requires-clause-enough
prefixes-requires-clause-enough g c = sym c.count.ensures.value ∙ c.lane_count-many.ensures

pub lane_count-many-requires : goal.lane_count-many-requires
lane_count-many-requires g c =
    let a = c.args in let v : Geo = a.view.now in let b = a.axis in (
      elements_of (reduced_shape (Some b) false v.shape),
      c.count.ensures.value ∙ ap (λ (w : Geo). length w.places) c.requires.lanes ∙ lanes_count v a.elem a.bytes.now c.requires.one c.requires.lies (Some b) false c.requires.axis
          ∙ ap (λ n. elements_of (reduced_shape (Some b) false v.shape) * n) (sym c.lane_length-count.ensures),
    )

pub order_folds-requires-clause-axis : goal.order_folds-requires-clause-axis
order_folds-requires-clause-axis g c = subst (λ (s : List ℕ). c.args.axis < length s) (sym c.shape-2.ensures.value) c.requires.axis

pub order_folds-requires-clause-lanes : goal.order_folds-requires-clause-lanes
order_folds-requires-clause-lanes g c = c.shape.ensures.value ∙ ap (λ (w : Geo). w.shape) c.requires.lanes ∙ ap (to_end c.args.axis) (sym c.shape-2.ensures.value)

pub returns : goal.returns
returns g c =
    let v : Geo = c.args.view.now in let bytes = c.args.bytes.now in let e = c.args.elem in let r : Reduction = g.F.FoldStep.reduction in let k : Kind = kind_of c.args.to in
    let b = c.args.axis in let m = c.lane_count-many.result in
    let every : length (numbers_at e bytes (lanes_of v (Some b)).places) ≡ m * get_or v.shape b 0
    = length-map (lanes_of v (Some b)).places (number_at e bytes) ∙ ap (λ (w : Geo). length w.places) (sym c.requires.lanes) ∙ sym c.count.ensures.value ∙ c.lane_count-many.ensures ∙ ap (λ n. m * n) c.lane_length-count.ensures in
    let all : length (numbers_at e bytes (lanes_of v (Some b)).places) ≡ elements_of (reduced_shape (Some b) false v.shape) * get_or v.shape b 0
    = length-map (lanes_of v (Some b)).places (number_at e bytes) ∙ lanes_count v e bytes c.requires.one c.requires.lies (Some b) false c.requires.axis in
    let lanes_are = c.as_slice.ensures ∙ c.in_ok-folds.ensures
    ∙ (λ i. flat_map (prefix_bytes r k) (lanes_in (c.lane_length-count.ensures i) m (numbers_at e bytes (c.requires.lanes i).places)))
    ∙ lane_bytes v e bytes c.requires.one c.requires.lies r k b c.requires.axis m every all in
    let ends : c.shape.result.now ≡ to_end b v.shape = c.shape.ensures.value ∙ ap (λ (w : Geo). w.shape) c.requires.lanes in
    subst (λ (l : List ℕ). IfOk c.order_folds.result (λ b. b ≡ l))
    ((λ i. converted_bytes (little k) (little k) (lanes_are i) (rearranged_view (contiguous (One (little k)) (ends i)) (c.shape-2.ensures.value i) (to_end b)).places)
    ∙ in_c_order v e bytes c.requires.one c.requires.lies r k b c.requires.axis) c.order_folds.ensures
