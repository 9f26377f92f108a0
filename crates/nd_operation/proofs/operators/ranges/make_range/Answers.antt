use Rattle.std.proofs.Common.{FitsSigned, option_map, rules}
use Rattle.std.specs.Int.{w128}
use mir.Facts.{to_z-of_z}
use Rattle.nd_syntax.specs.Trees.Calls.{dtype_of}
use Rattle.nd_operation.proofs.operators.Ranging.{range_made_of}
use Rattle.nd_operation.proofs.operators.ranges.make_range.Goals as goal

pub returns : goal.returns
returns c =
    let start : FitsSigned w128 c.in_ok-start.start = search rules in
    let stop : FitsSigned w128 c.in_ok-stop.stop = search rules in
    let step : FitsSigned w128 c.in_ok-step.step = search rules in
    let made = simp (to_z-of_z start, to_z-of_z stop, to_z-of_z step) at c.range_array.ensures in
    range_made_of (option_map dtype_of c.args.dtype.now) c.args.start.now c.args.stop.now c.args.step.now _ _ _ c.in_ok-elem.elem c.range_array.result
    c.in_ok-start.ensures c.in_ok-stop.ensures c.in_ok-step.ensures c.in_ok-elem.ensures made
