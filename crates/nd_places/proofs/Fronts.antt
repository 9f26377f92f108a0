-- The first item of a list.
use Rattle.std.proofs.Common.{◌≡◌, ℕ, ◌+◌, ◌<◌, List, ◌∷◌, length, drop, get_or, add-one, drop-cons}

-- what is left behind `axis` items begins with the next one
pub drop_one : {A : Type 0} (xs : List A) (axis : ℕ) (d : A) → axis < length xs → drop axis xs ≡ get_or xs axis d ∷ drop (axis + 1) xs
drop_one xs axis d lt = rw add-one (drop-cons xs axis d lt)
