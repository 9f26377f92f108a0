use Rattle.std.proofs.Common.{◌≡◌, drop, map}
use Rattle.nd_model.specs.Cells.Session.{lookup}
use Rattle.nd_types.specs.Names.{with_name}
use Rattle.nd_types.proofs.descr.find_named.Given as goal

-- the kinds that are left give the answer
abbrev pub invariant-loop-kind : goal.invariant-loop-kind
invariant-loop-kind l = lookup l.name (map with_name (drop l.kind-index l.kinds)) ≡ lookup l.name (map with_name l.kinds)
