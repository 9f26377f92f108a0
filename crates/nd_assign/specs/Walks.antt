-- The places that a walk has before it.
use Rattle.std.specs.Prelude.{ℕ, List, [], ◌++◌, Option, Some, None}
use Rattle.std.specs.List.{concat}
use Rattle.nd_assign.specs.declared.walk.Walk.TheInside.{Inside}

abbrev pub places_in : Option (List ℕ) → List ℕ
places_in None = []
places_in (Some run) = run

abbrev pub left_of : Inside → List ℕ
left_of w = places_in w.ahead ++ concat w.runs
