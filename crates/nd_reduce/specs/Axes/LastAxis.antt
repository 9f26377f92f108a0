-- An axis as the last one.
use Rattle.std.specs.Prelude.{ℕ, zero, suc, List, [], ◌∷◌, ◌++◌, Option, Some, None}
use Rattle.nd_model.specs.Arrays.View.{Geo, rearranged_view}

-- the item at this place behind the others
abbrev pub to_end : {X : Type 0} → ℕ → List X → List X
to_end a [] = []
to_end zero (x ∷ xs) = xs ++ x ∷ []
to_end (suc a) (x ∷ xs) = x ∷ to_end a xs

abbrev pub last_index : List ℕ → ℕ
last_index [] = 0
last_index (i ∷ []) = i
last_index (i ∷ j ∷ t) = last_index (j ∷ t)

abbrev pub front_indexes : List ℕ → List ℕ
front_indexes [] = []
front_indexes (i ∷ []) = []
front_indexes (i ∷ j ∷ t) = i ∷ front_indexes (j ∷ t)

-- the last index at this place
abbrev pub from_end : ℕ → List ℕ → List ℕ
from_end zero t = last_index t ∷ front_indexes t
from_end (suc a) [] = []
from_end (suc a) (i ∷ t) = i ∷ from_end a t

-- the last item, and those before it, of an item and the ones behind it
abbrev pub last_of : {X : Type 0} → X → List X → X
last_of x [] = x
last_of x (y ∷ ys) = last_of y ys

abbrev pub front_of : {X : Type 0} → X → List X → List X
front_of x [] = []
front_of x (y ∷ ys) = x ∷ front_of y ys

-- the last item at this place
abbrev pub put_last : {X : Type 0} → ℕ → List X → List X
put_last a [] = []
put_last zero (x ∷ xs) = last_of x xs ∷ front_of x xs
put_last (suc a) (x ∷ xs) = x ∷ put_last a xs

-- the view whose last axis is the one along which is folded
abbrev pub lanes_of : Geo → Option ℕ → Geo
lanes_of g None = g
lanes_of g (Some a) = rearranged_view g (to_end a g.shape) (from_end a)
