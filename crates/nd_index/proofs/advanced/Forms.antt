-- Places that are kept as rows or as a mask.
use Rattle.std.proofs.Common.{◌≡◌, ℕ, zero, suc, ℤ, List, [], ◌∷◌, ◌++◌, map, length, get_or, pos, refl, sym, ap, subst, ◌∙◌, arith, append-nil, length-append}
use Rattle.std.specs.Prelude.{◌+ℤ◌}
use Rattle.std.specs.List.{All, flat_map}
use Rattle.std.proofs.lemmas.Grind.{flat_map-append}
use Rattle.std.proofs.lemmas.List.Elements.{All-append}
use Rattle.nd_index.specs.Offsets.RowPlaces.{places_beside, way_on}
use Rattle.nd_index.specs.declared.offsets.axes.Axes.{Axes}
use Rattle.nd_index.specs.declared.offsets.row.KeptWays.{KeptWays}
use Rattle.nd_places.specs.Near.{IsNear, place_on, rows_places}

-- a run that is as long as all that it is the first of is all of it
pub whole_run : (run rest places : List ℕ) → places ≡ run ++ rest → length run ≡ length places → run ≡ places
whole_run run rest places is same =
    let none : length rest ≡ 0 = omega (arith, ap length is, length-append run rest, same) in
    sym (append-nil run) ∙ ap (λ l. run ++ l) (sym (empty rest none)) ∙ sym is
  where
    empty : (l : List ℕ) → length l ≡ 0 → l ≡ []
    empty [] e = refl
    empty (x ∷ l) e = absurd (omega (arith, e))

-- one way before those of the array
pub one_before : (kept : KeptWays) (axes : Axes) (ks : List ℕ) (x : ℤ) → length kept.before.now ≡ 1 → x ≡ pos kept.offset +ℤ get_or kept.before.now 0 (pos 0)
    → flat_map (λ k. map (λ z. place_on ((x +ℤ way_on axes k) +ℤ z)) kept.behind.now) ks ≡ places_beside kept axes ks
one_before kept axes ks x one is =
    let row : ℤ → List ℕ = λ y. flat_map (λ k. map (λ z. place_on ((y +ℤ way_on axes k) +ℤ z)) kept.behind.now) ks in
    ap row is ∙ alone (λ b. row (pos kept.offset +ℤ b)) kept.before.now one
  where
    alone : (f : ℤ → List ℕ) (ways : List ℤ) → length ways ≡ 1 → f (get_or ways 0 (pos 0)) ≡ flat_map f ways
    alone f [] one = absurd (omega (arith, one))
    alone f (w ∷ []) one = sym (append-nil (f w))
    alone f (w ∷ v ∷ ways) one = absurd (omega (arith, one))

rows_of : (g : ℤ → List ℕ) (h : ℕ → ℤ) (ks : List ℕ) → flat_map g (map h ks) ≡ flat_map (λ k. g (h k)) ks
rows_of g h [] = refl
rows_of g h (k ∷ ks) = ap (λ l. g (h k) ++ l) (rows_of g h ks)

-- the rows of all numbers, for all ways before
pub all_rows : (starts ways before : List ℤ) (ks : List ℕ) (way : ℕ → ℤ) (offset : ℤ) → starts ≡ flat_map (λ b. map (λ k. (offset +ℤ b) +ℤ way k) ks) before
    → rows_places starts ways ≡ flat_map (λ b. flat_map (λ k. map (λ z. place_on (((offset +ℤ b) +ℤ way k) +ℤ z)) ways) ks) before
all_rows starts ways before ks way offset is = ap (λ ss. rows_places ss ways) is ∙ each before
  where
    row : ℤ → List ℕ
    row s = map (λ z. place_on (s +ℤ z)) ways

    each : (bs : List ℤ) → flat_map row (flat_map (λ b. map (λ k. (offset +ℤ b) +ℤ way k) ks) bs) ≡ flat_map (λ b. flat_map (λ k. row ((offset +ℤ b) +ℤ way k)) ks) bs
    each [] = refl
    each (b ∷ bs) =
        flat_map-append row (map (λ k. (offset +ℤ b) +ℤ way k) ks) (flat_map (λ b. map (λ k. (offset +ℤ b) +ℤ way k) ks) bs)
        ∙ (λ i. rows_of row (λ k. (offset +ℤ b) +ℤ way k) ks i ++ each bs i)

-- one that is near more
pub near_pushed : (old new : List ℤ) (x : ℤ) → new ≡ old ++ x ∷ [] → IsNear x → All IsNear old → All IsNear new
near_pushed old new x is near so_far = subst (All IsNear) (sym is) (All-append IsNear old (x ∷ []) so_far alone)
  where
    alone : All IsNear (x ∷ [])
    alone zero d lt = near
    alone (suc j) d lt = absurd (omega (arith, lt))
