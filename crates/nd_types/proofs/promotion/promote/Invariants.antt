use Rattle.std.proofs.Common.{◌≡◌, drop, map}
use Rattle.nd_model.specs.Arrays.Promotion as promotion
use Rattle.nd_types.specs.Kinds.{kind_of}
use Rattle.nd_types.proofs.promotion.promote.Given as goal

abbrev pub invariant-loop-kind : goal.invariant-loop-kind
invariant-loop-kind l = promotion.first_for (kind_of l.a) (kind_of l.b) (map kind_of (drop l.kind-index l.kind-items)) ≡ promotion.promoted (kind_of l.a) (kind_of l.b)
