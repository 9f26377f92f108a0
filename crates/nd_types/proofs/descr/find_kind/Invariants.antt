use Rattle.std.proofs.Common.{◌≡◌, drop, map}
use Rattle.nd_model.specs.Cells.Session.{lookup}
use Rattle.nd_types.specs.Names.{named_kind}
use Rattle.nd_types.proofs.descr.find_kind.Given as goal

-- the words that are left give the answer
abbrev pub invariant-loop-word : goal.invariant-loop-word
invariant-loop-word l = lookup l.name (map named_kind (drop l.word-index l.table)) ≡ lookup l.name (map named_kind l.table)
