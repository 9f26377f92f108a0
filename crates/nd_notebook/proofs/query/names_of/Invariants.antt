use Rattle.std.proofs.Common.{◌≡◌, map, take, string_bytes}
use Rattle.nd_notebook.proofs.query.names_of.Given as goal

abbrev pub invariant-loop-place : goal.invariant-loop-place
invariant-loop-place l = map string_bytes l.names.items ≡ take l.place l.order
