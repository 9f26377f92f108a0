use Rattle.std.proofs.Common.{◌≡◌, ℕ, ◌*◌, ◌≤◌, false, List, sym, ap, ◌∙◌, subst, arith}
use Rattle.std.specs.Prelude.{IfOk}
use Rattle.nd_model.specs.Grammar.Calls.{Reduction}
use Rattle.nd_model.specs.Arrays.Element.{Kind}
use Rattle.nd_model.specs.Making.Reductions.{reduced_shape}
use Rattle.nd_model.specs.Arrays.Tuple.{elements_of}
use Rattle.nd_model.specs.Arrays.View.{Geo}
use Rattle.nd_types.specs.Kinds.{kind_of}
use Rattle.nd_reduce.specs.Axes.Axes.{IsRowWidth}
use Rattle.nd_reduce.proofs.axes.Reduced.{elements_by_lanes, lanes_number, part_fits, prefixes_same, some_parts, table_count}
use Rattle.nd_reduce.proofs.axes.accumulating.axis_prefixes.Goals as goal

pub lane_count-lanes-requires : goal.lane_count-lanes-requires
lane_count-lanes-requires g c =
    let v : Geo = c.args.view.now in (
      elements_of (reduced_shape c.args.axis false v.shape),
      c.count-numbers.ensures.elements ∙ elements_by_lanes c.args.axis v.shape c.requires.axis ∙ ap (λ n. elements_of (reduced_shape c.args.axis false v.shape) * n) (sym c.lane_length-rows.ensures),
    )

pub lane_count-tables-requires : goal.lane_count-tables-requires
lane_count-tables-requires g c =
    let shape = c.args.view.now.shape in let w = c.in-Some.width in let is : IsRowWidth c.args.axis shape w = c.in-Some.ensures.1 in let count = table_count c.args.axis shape w is in (
      count.0,
      lanes_number c.args.axis shape c.count-numbers.result c.lane_count-lanes.result c.lane_length-rows.result c.requires.axis (omega arith) c.count-numbers.ensures.elements
          c.lane_length-rows.ensures c.lane_count-lanes.ensures ∙ count.1,
    )

pub table_folds-requires-clause-some : goal.table_folds-requires-clause-some
table_folds-requires-clause-some g c = (some_parts c.count-numbers.result c.lane_count-lanes.result c.lane_length-rows.result (omega arith) c.lane_count-lanes.ensures).1

pub table_folds-requires-clause-enough : goal.table_folds-requires-clause-enough
table_folds-requires-clause-enough g c =
    let n = c.lane_length-rows.result in let w = c.in-Some.width in let tables = c.lane_count-tables.result in
    let turned : tables * w * n ≡ tables * (n * w) = omega arith in
    sym c.count-numbers.ensures.value ∙ c.lane_count-lanes.ensures ∙ ap (λ m. m * n) c.lane_count-tables.ensures ∙ turned

pub table_folds-requires-clause-count : goal.table_folds-requires-clause-count
table_folds-requires-clause-count g c =
    let n = c.lane_length-rows.result in let w = c.in-Some.width in let tables = c.lane_count-tables.result in
    let turned : tables * w * n ≡ tables * (n * w) = omega arith in
    c.lane_count-lanes.ensures ∙ ap (λ m. m * n) c.lane_count-tables.ensures ∙ turned

pub table_folds-requires-clause-few : goal.table_folds-requires-clause-few
table_folds-requires-clause-few g c =
    let all = c.count-numbers.result in let lanes = c.lane_count-lanes.result in let n = c.lane_length-rows.result in let w = c.in-Some.width in
    let some = some_parts all lanes n (omega arith) c.lane_count-lanes.ensures in
    let turned : lanes * n ≡ n * lanes = omega arith in
    let fits : w ≤ lanes = part_fits lanes c.lane_count-tables.result w some.0 c.lane_count-tables.ensures in
    let fewer : lanes ≤ all = part_fits all n lanes (omega arith) (c.lane_count-lanes.ensures ∙ turned) in
    (c.count-numbers.ensures.limit, omega (arith, fits, fewer, c.count-numbers.ensures.limit))

pub returns-in-Some : goal.returns-in-Some
returns-in-Some g c =
    let v : Geo = c.args.view.now in let k : Kind = kind_of c.args.to in let r : Reduction = g.F.FoldStep.reduction in
    let lanes = lanes_number c.args.axis v.shape c.count-numbers.result c.lane_count-lanes.result c.lane_length-rows.result c.requires.axis (omega arith) c.count-numbers.ensures.elements
    c.lane_length-rows.ensures c.lane_count-lanes.ensures in
    let same = prefixes_same v c.args.elem c.args.bytes.now c.requires.one c.requires.lies c.args.axis c.requires.axis r k c.in-Some.width c.lane_length-rows.result c.lane_count-tables.result
    c.in-Some.ensures.1 c.in-Some.ensures.0 c.lane_length-rows.ensures (sym lanes ∙ c.lane_count-tables.ensures) in
    subst (λ (l : List ℕ). IfOk c.table_folds.result (λ b. b ≡ l)) same c.table_folds.ensures
