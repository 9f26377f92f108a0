-- The numbers that a walk has before it.
use Rattle.std.specs.Prelude.{ℕ, ℤ, ◌≤◌, List, [], ◌++◌, length, drop, Option, Some, None}
use Rattle.std.specs.List.{concat}
use Rattle.nd_element.specs.Elements.{numbers_at}
use Rattle.nd_index.specs.declared.advanced.walk.NumberWalk.TheInside.{Inside}

abbrev pub places_in : Option (List ℕ) → List ℕ
places_in None = []
places_in (Some run) = run

abbrev pub left_of : Inside → List ℤ
left_of w = numbers_at w.elem w.bytes.now (drop w.done (places_in w.run) ++ concat w.runs)

pub record IsWalk (w : Inside) : Type 0 where
  pub within : w.done ≤ length (places_in w.run)
