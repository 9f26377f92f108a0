-- Ways that are near, one after another.
use Rattle.std.proofs.Common.{◌≡◌, ℕ, zero, suc, ◌+◌, ◌^◌, ◌<◌, ◌≤◌, List, [], ◌∷◌, ◌++◌, map, length, take, get_or, to_z, of_z, refl, sym, subst, arith}
use Rattle.std.specs.Prelude.{ℤ, pos, ◌+ℤ◌, ◌*ℤ◌, unsigned_abs}
use Rattle.std.specs.Int.{w64}
use Rattle.std.specs.List.{All}
use Rattle.std.proofs.lemmas.Int.{ints}
use Rattle.std.proofs.lemmas.List.{take_more}
use Rattle.std.proofs.lemmas.List.Elements.{All-append}
use Rattle.nd_index.specs.Offsets.RowPlaces.{chosen_places, row_places, way_on}
use Rattle.nd_places.specs.Near.{IsNear}
use Rattle.nd_places.specs.Near.{place_on}
use Rattle.nd_places.proofs.Found.{near_product}
use Rattle.nd_index.specs.declared.offsets.axes.Axes.{Axes}
use Rattle.nd_model.specs.Indexing.Advanced.{unravelled}
use Rattle.nd_index.proofs.offsets.Sums.{few_digits, length-unravelled, way_near}
use Rattle.nd_places.specs.declared.line.StridedLine.{StridedLine}
use Rattle.nd_index.specs.declared.offsets.row.Row.{Row}

-- the way of an element may be added to others
pub near_on : (axes : Axes) (n : ℕ) → n ≤ 2 ^ 32 → unsigned_abs (way_on axes n) ≤ 2 ^ 112
near_on axes n few =
    omega (arith, way_near (unravelled axes.lengths.now n) axes.strides.now (few_digits axes.lengths.now n few) axes.range, length-unravelled axes.lengths.now n, axes.most)

alone : (way : ℤ) → IsNear way → All IsNear (way ∷ [])
alone way near zero d lt = near
alone way near (suc j) d lt = absurd (omega (arith, lt))

pub near_more : (ways : List ℤ) (k : ℕ) → k < length ways → IsNear (get_or ways k (pos 0)) → All IsNear (take k ways) → All IsNear (take (k + 1) ways)
near_more ways k lt here so_far =
    subst (All IsNear) (sym (take_more ways k (pos 0) lt)) (All-append IsNear (take k ways) (get_or ways k (pos 0) ∷ []) so_far (alone (get_or ways k (pos 0)) here))

-- the places of the elements of a line
pub on_line : (row : Row) (axes : Axes) (line : StridedLine) → ((k : ℕ) → row_places row (way_on axes k) ≡ place_on (line.start +ℤ (pos k *ℤ line.step)) ∷ []) → (ks : List ℕ)
    → chosen_places row axes ks ≡ map (λ k. place_on (line.start +ℤ (pos k *ℤ line.step))) ks
on_line row axes line is [] = refl
on_line row axes line is (k ∷ ks) = (λ i. is k i ++ on_line row axes line is ks i)

pub joined : (start way first sum step : ℤ) → sum ≡ start +ℤ first → step ≡ way → (start +ℤ way) +ℤ first ≡ sum +ℤ step
joined start way first sum step is same = omega (arith, ints, is, same)

-- the product of a step and a number, as the code has both
pub product : (n : ℕ) (step : ℤ) → n ≤ 2 ^ 32 → unsigned_abs step ≤ 2 ^ 29 → to_z w64 n *ℤ to_z w64 (of_z w64 step) ≡ pos n *ℤ step
product n step few near =
    let whole : to_z w64 n ≡ pos n = omega (arith, ints, few) in
    let same : to_z w64 (of_z w64 step) ≡ step = omega (arith, ints, near) in
    λ i. whole i *ℤ same i

pub held : (n : ℕ) (step : ℤ) → n ≤ 2 ^ 32 → unsigned_abs step ≤ 2 ^ 29 → to_z w64 (of_z w64 (to_z w64 n *ℤ to_z w64 (of_z w64 step))) ≡ pos n *ℤ step
held n step few near = omega (arith, ints, product n step few near, near_product n step few near)
