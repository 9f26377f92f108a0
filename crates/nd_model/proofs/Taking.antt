-- A view that takes its elements from another lies where that one lies.
use Rattle.std.proofs.Common.{◌≡◌, ℕ, ◌+◌, ◌-◌, ◌<◌, ◌≤◌, Bool, true, false, ◌&&◌, ◌||◌, eqb, leb, List, [], ◌∷◌, length, drop, refl, ◌∙◌, inl, inr, arith, eqb-true}
use Rattle.std.specs.List.{All}
use Rattle.std.proofs.lemmas.Bool.{cases_Bool, or_cases}
use Rattle.std.proofs.lemmas.List.{length-map}
use Rattle.std.proofs.lemmas.List.Elements.{All-map, All-weaker}
use Rattle.nd_model.specs.Arrays.Tuple.{elements_of, indices, number}
use Rattle.nd_model.specs.Arrays.View.{Geo, item_size, place_of, rearranged_view}
use Rattle.nd_model.specs.Arrays.Broadcast.{can_stretch, broadcasts_to, narrowed_axes, own_tuple, broadcast_view}
use Rattle.nd_model.specs.Cells.Sound.{LiesIn}
use Rattle.nd_model.proofs.Tuples.{length-indices, IsTuple, number_below, all_tuples, length-tuple, tuple-drop}

-- what a view of a base of so many bytes wants, but for the limits
abbrev pub IsWithin : ℕ → Geo → Type 0
IsWithin len g = (length g.places ≡ elements_of g.shape) × All (λ p. p + item_size g.element ≤ len) g.places

pub place_within : (len : ℕ) (g : Geo) (t : List ℕ) → LiesIn len g → IsTuple g.shape t → place_of g t + item_size g.element ≤ len
place_within len g t lies is = let below : number g.shape t < elements_of g.shape = number_below g.shape t is in lies.inside (number g.shape t) 0 (omega (arith, lies.count))

pub taking_within : (len : ℕ) (g : Geo) (shape : List ℕ) (from : List ℕ → List ℕ) → LiesIn len g → ((t : List ℕ) → IsTuple shape t → IsTuple g.shape (from t)) → IsWithin len (rearranged_view g shape from)
taking_within len g shape from lies h = (
  length-map (indices shape) (λ t. place_of g (from t)) ∙ length-indices shape,
  All-map (λ p. p + item_size g.element ≤ len) (λ t. place_of g (from t)) (indices shape)
      (All-weaker (IsTuple shape) (λ t. place_of g (from t) + item_size g.element ≤ len) (λ t is. place_within len g (from t) lies (h t is)) (indices shape) (all_tuples shape)),
)

-- BROADCASTING
both : (x y : Bool) → (x && y) ≡ true → (x ≡ true) × (y ≡ true)
both true y h = (refl, h)
both false y h = absurd (cc)

stretched_tuple : (s shape t : List ℕ) → can_stretch s shape ≡ true → IsTuple shape t → IsTuple s (narrowed_axes s t)
stretched_tuple [] [] t e h = tt
stretched_tuple [] (m ∷ shape) t e h = absurd (cc)
stretched_tuple (n ∷ s) [] t e h = absurd (cc)
stretched_tuple (n ∷ s) (m ∷ shape) [] e h = absurd h
stretched_tuple (n ∷ s) (m ∷ shape) (i ∷ t) e h =
    let parts : ((eqb n m || eqb n 1) ≡ true) × (can_stretch s shape ≡ true) = both _ _ e in (
      elim (cases_Bool (eqb n 1)) [
        | inl one ↦ let e : n ≡ 1 = eqb-true n 1 one in rw one (omega arith)
        | inr other ↦ rw other (elim (or_cases _ _ parts.0) [ inl same ↦ let e : n ≡ m = eqb-true n m same in omega (arith, h.0) | inr one ↦ absurd (cc) ])
      ],
      stretched_tuple s shape t parts.1 h.1,
    )

pub narrowed_tuple : (s shape t : List ℕ) → broadcasts_to s shape ≡ true → IsTuple shape t → IsTuple s (own_tuple s t)
narrowed_tuple s shape t e h =
    let parts : (leb (length s) (length shape) ≡ true) × (can_stretch s (drop (length shape - length s) shape) ≡ true) = both _ _ e in
    rw (length-tuple shape t h) (stretched_tuple s (drop (length shape - length s) shape) (drop (length shape - length s) t) parts.1 (tuple-drop (length shape - length s) shape t h))

pub spread_within : (len : ℕ) (g : Geo) (shape : List ℕ) → LiesIn len g → broadcasts_to g.shape shape ≡ true → IsWithin len (broadcast_view g shape)
spread_within len g shape lies e = taking_within len g shape (own_tuple g.shape) lies (λ t is. narrowed_tuple g.shape shape t e is)

pub spread_alone : (len : ℕ) (g : Geo) (shape : List ℕ) → LiesIn len g → g.shape ≡ [] → IsWithin len (broadcast_view g shape)
spread_alone len g shape lies e = taking_within len g shape (own_tuple g.shape) lies (λ t is. rw e tt)
