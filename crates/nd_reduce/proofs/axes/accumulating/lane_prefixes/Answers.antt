use Rattle.std.proofs.Common.{◌≡◌, ℕ, length, Option, sym, subst}
use Rattle.std.specs.Prelude.{IfOk}
use Rattle.nd_model.specs.Making.Reductions.{prefix_folds}
use Rattle.nd_types.specs.Kinds.{kind_of}
use Rattle.nd_reduce.specs.Axes.Axes.{HasAxis}
use Rattle.nd_reduce.specs.Axes.Made.{array_operand, new_array}
use Rattle.nd_reduce.proofs.axes.accumulating.lane_prefixes.Goals as goal

pub ordered_prefixes-requires-clause-axis : goal.ordered_prefixes-requires-clause-axis
ordered_prefixes-requires-clause-axis g c = subst (λ (x : Option ℕ). HasAxis x (length c.args.view.now.shape)) c.in-Some.is c.requires.axis

pub ordered_prefixes-requires-clause-lanes : goal.ordered_prefixes-requires-clause-lanes
ordered_prefixes-requires-clause-lanes g c = c.in_ok-lanes.ensures

pub returns-in_default : goal.returns-in_default
returns-in_default g c =
    subst (λ (x : Option ℕ). IfOk c.all_prefixes.result (λ b. b ≡ (new_array (prefix_folds g.F.FoldStep.reduction (kind_of c.args.to) x (array_operand c.args.view.now c.args.bytes.now))).1))
    (sym c.in_default.is) c.all_prefixes.ensures

pub returns : goal.returns
returns g c =
    subst (λ (x : Option ℕ). IfOk c.ordered_prefixes.result (λ b. b ≡ (new_array (prefix_folds g.F.FoldStep.reduction (kind_of c.args.to) x (array_operand c.args.view.now c.args.bytes.now))).1))
    (sym c.in-Some.is) c.ordered_prefixes.ensures
