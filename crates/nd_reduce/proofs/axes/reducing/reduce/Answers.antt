use Rattle.std.proofs.Common.{rules, ◌≡◌, ℕ, false, List, length, Option, Ok, Err, sym, ap, ◌∙◌, subst}
use Rattle.nd_model.specs.Grammar.Calls.{Reduction}
use Rattle.nd_model.specs.Arrays.Element.{Kind}
use Rattle.nd_model.specs.Making.Operand.{Operand}
use Rattle.nd_model.specs.Making.Elementwise.{little}
use Rattle.nd_model.specs.Making.Reductions as reductions
use Rattle.nd_model.specs.Making.Reductions.{axis_in, fold_kind, kind_of_sort, lacks_numbers, reduced_shape}
use Rattle.nd_model.specs.Arrays.Tuple.{elements_of}
use Rattle.nd_model.specs.Arrays.View.{One, Geo, contiguous}
use Rattle.nd_model.specs.Arrays.Broadcast.{in_limits}
use Rattle.nd_syntax.specs.Trees.Calls.{reduction_of}
use Rattle.nd_types.specs.Kinds.{kind_of}
use Rattle.nd_element.specs.Elements.{numbers_at}
use Rattle.nd_model.specs.Cells.Fault.{Fault}
use Rattle.std.specs.Prelude.{Result}
use Rattle.nd_reduce.specs.Axes.Faults.{Makes}
use Rattle.nd_reduce.specs.Axes.Axes.{HasAxis}
use Rattle.nd_reduce.specs.Folds.Lanes.{fold_bytes, lanes_in}
use Rattle.nd_reduce.specs.Axes.LastAxis.{lanes_of}
use Rattle.nd_reduce.specs.Axes.Made.{array_operand}
use Rattle.nd_reduce.proofs.axes.Reduced.{folds_are, results_alike}
use Rattle.nd_reduce.proofs.axes.Results.{same_length, is_empty, is_above, is_made, made_shape}
use Rattle.nd_reduce.proofs.axes.reducing.reduce.Goals as goal

pub returns-then-lacks_numbers : goal.returns-then-lacks_numbers
returns-then-lacks_numbers c =
    let g : Geo = c.args.view.now in let bytes = c.args.block.now in let o : Operand = array_operand g bytes in let r : Reduction = reduction_of c.args.reduction in
    let a : Option ℕ = c.in_ok-along.along in let keep = c.args.keepdims in let k : Kind = c.in_ok-elem.elem.kind in
    let axis_is : axis_in (length g.shape) c.args.axis ≡ Ok a = ap (λ s. axis_in (length s) c.args.axis) (sym c.shape.ensures.value) ∙ c.in_ok-along.ensures.axis in
    let asked : lacks_numbers r (reductions.lane_length o a) (elements_of (reduced_shape a keep g.shape)) ≡ c.lacks_numbers.result
    = (λ i. lacks_numbers r (same_length g bytes a i) (results_alike a keep g.shape i))
    ∙ (λ i. lacks_numbers r (sym c.lane_length-count.ensures i) (elements_of (reduced_shape a false (sym c.shape-2.ensures.value i)))) ∙ sym c.lacks_numbers.ensures in
    is_empty r c.args.axis keep o k a c.in_ok-elem.ensures.kind axis_is (asked ∙ c.if-lacks_numbers.true)

pub returns-in_err-made : goal.returns-in_err-made
returns-in_err-made c =
    let g : Geo = c.args.view.now in let bytes = c.args.block.now in let o : Operand = array_operand g bytes in let r : Reduction = reduction_of c.args.reduction in
    let a : Option ℕ = c.in_ok-along.along in let keep = c.args.keepdims in let k : Kind = c.in_ok-elem.elem.kind in
    let axis_is : axis_in (length g.shape) c.args.axis ≡ Ok a = ap (λ s. axis_in (length s) c.args.axis) (sym c.shape.ensures.value) ∙ c.in_ok-along.ensures.axis in
    let asked : lacks_numbers r (reductions.lane_length o a) (elements_of (reduced_shape a keep g.shape)) ≡ c.lacks_numbers.result
    = (λ i. lacks_numbers r (same_length g bytes a i) (results_alike a keep g.shape i))
    ∙ (λ i. lacks_numbers r (sym c.lane_length-count.ensures i) (elements_of (reduced_shape a false (sym c.shape-2.ensures.value i)))) ∙ sym c.lacks_numbers.ensures in
    let to_is : kind_of c.result_kind-kind.result ≡ fold_kind r k = c.result_kind-kind.ensures ∙ ap (fold_kind r) c.kind.ensures in
    let view : Kind → List ℕ → Result Geo Fault = λ j s. in_limits (One (little j)) (reduced_shape a keep s) (Ok (contiguous (One (little j)) (reduced_shape a keep s))) in
    let view_same : view (kind_of c.result_kind-kind.result) c.shape-3.result.now ≡ view (fold_kind r k) g.shape = λ i. view (to_is i) (c.shape-3.ensures.value i) in
    let above = is_above r c.args.axis keep o k a c.in_ok-elem.ensures.kind axis_is (asked ∙ c.if-lacks_numbers.false) (λ v. v) (λ (made : Geo × List ℕ). made) c.in_err-made.field-0.0
    (subst (λ (y : Result Geo Fault). Makes (λ (v : Geo). v) (Err c.in_err-made.field-0.0) y) view_same c.in_err-made.ensures) in
    search rules

pub view_folds-requires-clause-axis : goal.view_folds-requires-clause-axis
view_folds-requires-clause-axis c = subst (λ (s : List ℕ). HasAxis c.in_ok-along.along (length s)) c.shape.ensures.value c.in_ok-along.ensures.inside

pub view_folds-requires-clause-lanes : goal.view_folds-requires-clause-lanes
view_folds-requires-clause-lanes c =
    let g : Geo = c.args.view.now in let bytes = c.args.block.now in let o : Operand = array_operand g bytes in let r : Reduction = reduction_of c.args.reduction in
    let a : Option ℕ = c.in_ok-along.along in let keep = c.args.keepdims in let k : Kind = c.in_ok-elem.elem.kind in
    let axis_is : axis_in (length g.shape) c.args.axis ≡ Ok a = ap (λ s. axis_in (length s) c.args.axis) (sym c.shape.ensures.value) ∙ c.in_ok-along.ensures.axis in
    let asked : lacks_numbers r (reductions.lane_length o a) (elements_of (reduced_shape a keep g.shape)) ≡ c.lacks_numbers.result
    = (λ i. lacks_numbers r (same_length g bytes a i) (results_alike a keep g.shape i))
    ∙ (λ i. lacks_numbers r (sym c.lane_length-count.ensures i) (elements_of (reduced_shape a false (sym c.shape-2.ensures.value i)))) ∙ sym c.lacks_numbers.ensures in
    let to_is : kind_of c.result_kind-kind.result ≡ fold_kind r k = c.result_kind-kind.ensures ∙ ap (fold_kind r) c.kind.ensures in
    let view : Kind → List ℕ → Result Geo Fault = λ j s. in_limits (One (little j)) (reduced_shape a keep s) (Ok (contiguous (One (little j)) (reduced_shape a keep s))) in
    let view_same : view (kind_of c.result_kind-kind.result) c.shape-3.result.now ≡ view (fold_kind r k) g.shape = λ i. view (to_is i) (c.shape-3.ensures.value i) in
    let view_is : view (fold_kind r k) g.shape ≡ Ok c.in_ok-made.made = sym view_same ∙ c.in_ok-made.ensures in
    let shape_is = made_shape r c.args.axis keep o k a c.in_ok-elem.ensures.kind axis_is (asked ∙ c.if-lacks_numbers.false) c.in_ok-made.made view_is in
    c.count-lanes.ensures.elements ∙ ap elements_of shape_is ∙ results_alike a keep g.shape

pub returns : goal.returns
returns c =
    let g : Geo = c.args.view.now in let bytes = c.args.block.now in let o : Operand = array_operand g bytes in let r : Reduction = reduction_of c.args.reduction in
    let a : Option ℕ = c.in_ok-along.along in let keep = c.args.keepdims in let k : Kind = c.in_ok-elem.elem.kind in
    let axis_is : axis_in (length g.shape) c.args.axis ≡ Ok a = ap (λ s. axis_in (length s) c.args.axis) (sym c.shape.ensures.value) ∙ c.in_ok-along.ensures.axis in
    let asked : lacks_numbers r (reductions.lane_length o a) (elements_of (reduced_shape a keep g.shape)) ≡ c.lacks_numbers.result
    = (λ i. lacks_numbers r (same_length g bytes a i) (results_alike a keep g.shape i))
    ∙ (λ i. lacks_numbers r (sym c.lane_length-count.ensures i) (elements_of (reduced_shape a false (sym c.shape-2.ensures.value i)))) ∙ sym c.lacks_numbers.ensures in
    let to_is : kind_of c.result_kind-kind.result ≡ fold_kind r k = c.result_kind-kind.ensures ∙ ap (fold_kind r) c.kind.ensures in
    let view : Kind → List ℕ → Result Geo Fault = λ j s. in_limits (One (little j)) (reduced_shape a keep s) (Ok (contiguous (One (little j)) (reduced_shape a keep s))) in
    let view_same : view (kind_of c.result_kind-kind.result) c.shape-3.result.now ≡ view (fold_kind r k) g.shape = λ i. view (to_is i) (c.shape-3.ensures.value i) in
    let has : HasAxis a (length g.shape) = subst (λ (s : List ℕ). HasAxis a (length s)) c.shape.ensures.value c.in_ok-along.ensures.inside in
    let e = c.in_ok-elem.elem in
    let view_is : view (fold_kind r k) g.shape ≡ Ok c.in_ok-made.made = sym view_same ∙ c.in_ok-made.ensures in
    let enough : lacks_numbers r (reductions.lane_length o a) (elements_of (reduced_shape a keep g.shape)) ≡ false = asked ∙ c.if-lacks_numbers.false in
    let shape_is = made_shape r c.args.axis keep o k a c.in_ok-elem.ensures.kind axis_is enough c.in_ok-made.made view_is in
    let results : c.count-lanes.result ≡ elements_of (reduced_shape a keep g.shape) = c.count-lanes.ensures.elements ∙ ap elements_of shape_is in
    is_made r c.args.axis keep o k a c.in_ok-elem.ensures.kind axis_is enough c.in_ok-made.made view_is c.in_ok-folded.folded
    (c.in_ok-folded.ensures ∙ (λ i. fold_bytes r (to_is i) (lanes_in (c.lane_length-count.ensures i) (results i) (numbers_at e bytes (lanes_of g a).places)))
    ∙ folds_are g e bytes c.in_ok-elem.ensures.one c.requires r (fold_kind r k) a keep has)
