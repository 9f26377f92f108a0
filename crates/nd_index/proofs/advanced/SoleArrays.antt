-- The places that one array chooses alone.
use Rattle.std.proofs.Common.{◌≡◌, ℕ, ◌+◌, ◌^◌, ◌<◌, ◌≤◌, Bool, true, false, List, [], ◌∷◌, ◌++◌, map, length, take, drop, get_or, refl, sym, ap, subst, ◌∙◌, arith, append_assoc}
use Rattle.std.specs.Prelude.{ℤ, pos, ◌+ℤ◌, ◌||◌}
use Rattle.std.specs.List.{flat_map, list_any, All}
use Rattle.std.proofs.lemmas.Grind.{flat_map-append}
use Rattle.std.proofs.lemmas.Int.{ints}
use Rattle.std.proofs.lemmas.List.{drop-drop, get_or-map, length-map, map-append, take-append-drop}
use Rattle.std.proofs.lemmas.List.Folds.{flat_map-map}
use Rattle.nd_model.specs.Indexing.Advanced.{Take, Whole, Added, Spread, is_nonzero, true_numbers, unravelled}
use Rattle.nd_model.specs.Arrays.Content.{number_at}
use Rattle.nd_model.specs.Arrays.Element.{Element}
use Rattle.nd_model.specs.Indexing.Selecting.{counted_from}
use Rattle.nd_model.specs.Arrays.Strides.{way_to}
use Rattle.nd_model.specs.Arrays.Tuple.{elements_of, indices}
use Rattle.nd_view.proofs.Tuples.{flat_map_same, map_same}
use Rattle.nd_element.specs.Elements.{numbers_at}
use Rattle.nd_index.specs.Advanced.Takes.{axes_taken, is_spread, take_of, takes_of}
use Rattle.nd_index.specs.Offsets.RowPlaces.{chosen_places, row_places, way_on}
use Rattle.nd_index.specs.Advanced.TakenWays.{way_by, way_taken}
use Rattle.nd_places.specs.Near.{place_on}
use Rattle.nd_index.specs.declared.offsets.axes.Axes.{Axes}
use Rattle.nd_index.specs.declared.offsets.row.Row.{Row}
use Rattle.nd_index.specs.declared.advanced.spread.Spread as spread
use Rattle.nd_index.specs.declared.advanced.takes.Take as code
use Rattle.nd_index.specs.declared.advanced.takes.Take.TheVariants as variants
use Rattle.nd_index.proofs.advanced.Alike.{alike_ways}
use Rattle.nd_places.proofs.Found.{true_append}
use Rattle.nd_index.proofs.advanced.Spreads.{takes_again}
use Rattle.nd_index.proofs.offsets.Pushed.{joined_again}

module _ (row : Row) (axes : Axes) (e : Element) (bytes : List ℕ) where
  -- ---- positions

  abbrev pub placed_at : ℕ → ℕ → List ℕ
  placed_at size p = row_places row (way_on axes (counted_from size (number_at e bytes p)))

  abbrev pub placed_run : ℕ → List ℕ → List ℕ
  placed_run size run = chosen_places row axes (map (counted_from size) (numbers_at e bytes run))

  pub position_more : (size : ℕ) (run : List ℕ) (k : ℕ) (first old new : List ℕ) (way : ℤ) → k < length run → new ≡ old ++ row_places row way
      → way ≡ way_on axes (counted_from size (number_at e bytes (get_or run k 0))) → old ≡ first ++ flat_map (placed_at size) (take k run)
      → new ≡ first ++ flat_map (placed_at size) (take (k + 1) run)
  position_more size run k first old new way lt is here so_far = joined_again (placed_at size) run k 0 first old new (row_places row way) lt is (ap (row_places row) here) so_far

  pub positions_placed : (size : ℕ) (run : List ℕ) → flat_map (placed_at size) run ≡ placed_run size run
  positions_placed size run =
      sym (flat_map-map (λ k. row_places row (way_on axes k)) (counted_from size) (numbers_at e bytes run)
      ∙ flat_map-map (λ z. row_places row (way_on axes (counted_from size z))) (number_at e bytes) run)

  pub positions_split : (size : ℕ) (xs ys : List ℕ) → placed_run size (xs ++ ys) ≡ placed_run size xs ++ placed_run size ys
  positions_split size xs ys =
      ap (λ zs. chosen_places row axes (map (counted_from size) zs)) (map-append (number_at e bytes) xs ys)
      ∙ ap (chosen_places row axes) (map-append (counted_from size) (numbers_at e bytes xs) (numbers_at e bytes ys))
      ∙ flat_map-append (λ k. row_places row (way_on axes k)) (map (counted_from size) (numbers_at e bytes xs)) (map (counted_from size) (numbers_at e bytes ys))

  -- ---- masks

  abbrev pub true_run : ℕ → List ℕ → List ℕ
  true_run first run = chosen_places row axes (true_numbers first (map is_nonzero (numbers_at e bytes run)))

  pub trues_split : (n : ℕ) (xs ys : List ℕ) → true_run n (xs ++ ys) ≡ true_run n xs ++ true_run (n + length xs) ys
  trues_split n xs ys =
      let bs : List Bool = map is_nonzero (numbers_at e bytes xs) in let cs : List Bool = map is_nonzero (numbers_at e bytes ys) in
      let long : length bs ≡ length xs = length-map (numbers_at e bytes xs) is_nonzero ∙ length-map xs (number_at e bytes) in
      ap (λ zs. chosen_places row axes (true_numbers n (map is_nonzero zs))) (map-append (number_at e bytes) xs ys)
      ∙ ap (λ ds. chosen_places row axes (true_numbers n ds)) (map-append is_nonzero (numbers_at e bytes xs) (numbers_at e bytes ys))
      ∙ ap (chosen_places row axes) (true_append n bs cs ∙ ap (λ m. true_numbers n bs ++ true_numbers (n + m) cs) long)
      ∙ flat_map-append (λ k. row_places row (way_on axes k)) (true_numbers n bs) (true_numbers (n + length xs) cs)

-- the numbers of a run are near
pub position_near : (size : ℕ) (e : Element) (bytes run : List ℕ) (k : ℕ) → All (λ k. k ≤ 2 ^ 32) (map (counted_from size) (numbers_at e bytes run)) → k < length run
    → counted_from size (number_at e bytes (get_or run k 0)) ≤ 2 ^ 32
position_near size e bytes run k near lt =
    let numbers : k < length (numbers_at e bytes run) = omega (arith, lt, length-map run (number_at e bytes)) in
    let positions : k < length (map (counted_from size) (numbers_at e bytes run)) = omega (arith, numbers, length-map (numbers_at e bytes run) (counted_from size)) in
    subst (λ n. n ≤ 2 ^ 32) (get_or-map (counted_from size) (numbers_at e bytes run) k (pos 0) 0 numbers ∙ ap (counted_from size) (get_or-map (number_at e bytes) run k 0 (pos 0) lt))
    (near k 0 positions)

-- what one run more gives
pub piece_more : {X : Type 0} (F G : List ℕ → List X) (old new whole : List X) (runs run rest : List ℕ) → runs ≡ run ++ rest → F (run ++ rest) ≡ F run ++ G rest → new ≡ old ++ F run
    → old ++ F runs ≡ whole → new ++ G rest ≡ whole
piece_more F G old new whole runs run rest e parts is so_far =
    ap (λ l. l ++ G rest) is ∙ append_assoc old (F run) (G rest) ∙ ap (λ l. old ++ l) (sym (ap F e ∙ parts)) ∙ so_far

-- one way of the axes before the array more
pub direct_more : (ks : List ℕ) (w : ℕ → ℤ) (ways before : List ℤ) (k : ℕ) (s x : ℤ) (old new : List ℕ) → k < length before
    → new ≡ old ++ flat_map (λ n. map (λ z. place_on ((x +ℤ w n) +ℤ z)) ways) ks → x ≡ s +ℤ get_or before k (pos 0)
    → old ≡ flat_map (λ b. flat_map (λ n. map (λ z. place_on (((s +ℤ b) +ℤ w n) +ℤ z)) ways) ks) (take k before)
    → new ≡ flat_map (λ b. flat_map (λ n. map (λ z. place_on (((s +ℤ b) +ℤ w n) +ℤ z)) ways) ks) (take (k + 1) before)
direct_more ks w ways before k s x old new lt is at so_far =
    joined_again (λ b. flat_map (λ n. map (λ z. place_on (((s +ℤ b) +ℤ w n) +ℤ z)) ways) ks) before k (pos 0) [] old new
    (flat_map (λ n. map (λ z. place_on ((x +ℤ w n) +ℤ z)) ways) ks) lt is (ap (λ y. flat_map (λ n. map (λ z. place_on ((y +ℤ w n) +ℤ z)) ways) ks) at) so_far

-- ---- one array among whole axes

none_first : (z : ℤ) → pos 0 +ℤ z ≡ z
none_first z = omega (arith, ints)

none_behind : (a b : ℤ) → b ≡ pos 0 → a +ℤ b ≡ a
none_behind a b e = omega (arith, ints, e)

none_taken : (ts : List Take) (sizes : List ℕ) (strides : List ℤ) (m : List ℕ) → list_any is_spread ts ≡ false → way_taken ts sizes strides m ≡ pos 0
none_taken [] sizes strides m e = refl
none_taken (Whole ∷ ts) sizes strides m e = none_first (way_taken ts (drop 1 sizes) (drop 1 strides) m) ∙ none_taken ts (drop 1 sizes) (drop 1 strides) m e
none_taken (Added ∷ ts) sizes strides m e = none_first (way_taken ts sizes strides m) ∙ none_taken ts sizes strides m e
none_taken (Spread axes shape ks ∷ ts) sizes strides m e = absurd cc

from_none : (n : ℕ) → n ≡ 0 + n
from_none n = omega arith

pub sole_taken : (front rest : List Take) (u : Take) (sizes : List ℕ) (strides : List ℤ) (m : List ℕ) → list_any is_spread front ≡ false → list_any is_spread rest ≡ false
    → way_taken (front ++ u ∷ rest) sizes strides m ≡ way_by u (drop (axes_taken front) sizes) (drop (axes_taken front) strides) m
sole_taken [] rest u sizes strides m none after =
    none_behind (way_by u sizes strides m) _ (none_taken rest _ _ m after)
sole_taken (Whole ∷ front) rest u sizes strides m none after =
    none_first (way_taken (front ++ u ∷ rest) (drop 1 sizes) (drop 1 strides) m) ∙ sole_taken front rest u (drop 1 sizes) (drop 1 strides) m none after
    ∙ (λ i. way_by u (drop-drop (axes_taken front) 1 sizes i) (drop-drop (axes_taken front) 1 strides i) m)
sole_taken (Added ∷ front) rest u sizes strides m none after =
    none_first (way_taken (front ++ u ∷ rest) sizes strides m) ∙ sole_taken front rest u sizes strides m none after
    ∙ (λ i. way_by u (drop (from_none (axes_taken front) i) sizes) (drop (from_none (axes_taken front) i) strides) m)
sole_taken (Spread axes shape ks ∷ front) rest u sizes strides m none after = absurd cc

pub sole_axes : (front rest : List Take) (u : Take) → axes_taken front + axes_taken (u ∷ []) ≤ axes_taken (front ++ u ∷ rest)
sole_axes [] rest u = omega arith
sole_axes (t ∷ front) rest u = omega (arith, sole_axes front rest u)

pub sole_ways : (ts front rest : List Take) (axes axis : ℕ) (shape ks many sizes : List ℕ) (strides : List ℤ) → ts ≡ front ++ Spread axes shape ks ∷ rest → list_any is_spread front ≡ false
    → list_any is_spread rest ≡ false → axis ≡ axes_taken front → shape ≡ many → length ks ≡ elements_of shape
    → map (way_taken ts sizes strides) (indices many) ≡ map (λ k. way_to (unravelled (take axes (drop axis sizes)) k) (take axes (drop axis strides))) ks
sole_ways ts front rest axes axis shape ks many sizes strides parts none after at same long =
    let u : Take = Spread axes shape ks in
    ap (λ us. map (way_taken us sizes strides) (indices many)) parts
    ∙ map_same (way_taken (front ++ u ∷ rest) sizes strides) (way_by u (drop axis sizes) (drop axis strides))
    (λ m. sole_taken front rest u sizes strides m none after ∙ (λ i. way_by u (drop (sym at i) sizes) (drop (sym at i) strides) m)) (indices many)
    ∙ alike_ways shape ks many (drop axis sizes) (drop axis strides) axes same long

pub sole_within : (ts front rest : List Take) (axes axis : ℕ) (shape ks : List ℕ) → ts ≡ front ++ Spread axes shape ks ∷ rest → axis ≡ axes_taken front → axis + axes ≤ axes_taken ts
sole_within ts front rest axes axis shape ks parts at = omega (arith, at, ap axes_taken parts, sole_axes front rest (Spread axes shape ks))

any_last : {A : Type 0} (p : A → Bool) (xs : List A) (y : A) → list_any p xs ≡ false → p y ≡ false → list_any p (xs ++ y ∷ []) ≡ false
any_last p [] y none last = rw last refl
any_last p (x ∷ xs) y none last = let parts = both_false (p x) (list_any p xs) none in rw parts.0 (any_last p xs y parts.1 last)
  where
    both_false : (a b : Bool) → (a || b) ≡ false → (a ≡ false) × (b ≡ false)
    both_false true b e = absurd cc
    both_false false b e = (refl, e)

-- one take more that is no array
pub none_again : (takes : List code.Take) (k : ℕ) (x : code.Take) → k < length takes → x ≡ get_or takes k x → list_any is_spread (takes_of (take k takes)) ≡ false → is_spread (take_of x) ≡ false
    → list_any is_spread (takes_of (take (k + 1) takes)) ≡ false
none_again takes k x lt is none here = ap (list_any is_spread) (takes_again takes k x lt is) ∙ any_last is_spread (takes_of (take k takes)) (take_of x) none here

pub takes_around : (takes : List code.Take) (k : ℕ) (x : code.Take) → k < length takes → x ≡ get_or takes k x → takes_of takes ≡ takes_of (take k takes) ++ take_of x ∷ takes_of (drop (k + 1) takes)
takes_around takes k x lt is =
    sym (sym (map-append take_of (take (k + 1) takes) (drop (k + 1) takes)) ∙ ap takes_of (take-append-drop (k + 1) takes))
    ∙ ap (λ l. l ++ takes_of (drop (k + 1) takes)) (takes_again takes k x lt is)
    ∙ append_assoc (takes_of (take k takes)) (take_of x ∷ []) (takes_of (drop (k + 1) takes))

-- the places by the ways of one array are those by all ways
pub direct_same : (o : ℤ) (before behind arrays : List ℤ) (ks : List ℕ) (w : ℕ → ℤ) → arrays ≡ map w ks
    → flat_map (λ b. flat_map (λ k. map (λ z. place_on (((o +ℤ b) +ℤ w k) +ℤ z)) behind) ks) before ≡ flat_map (λ b. flat_map (λ a. map (λ z. place_on (((o +ℤ b) +ℤ a) +ℤ z)) behind) arrays) before
direct_same o before behind arrays ks w e =
    flat_map_same (λ b. flat_map (λ k. map (λ z. place_on (((o +ℤ b) +ℤ w k) +ℤ z)) behind) ks) (λ b. flat_map (λ a. map (λ z. place_on (((o +ℤ b) +ℤ a) +ℤ z)) behind) arrays)
    (λ b. sym (flat_map-map (λ a. map (λ z. place_on (((o +ℤ b) +ℤ a) +ℤ z)) behind) w ks) ∙ ap (flat_map (λ a. map (λ z. place_on (((o +ℤ b) +ℤ a) +ℤ z)) behind)) (sym e)) before

pub not_spread : (t : code.Take) → ((s : spread.Spread) → t ≡ variants.Spread s → ⊥) → is_spread (take_of t) ≡ false
not_spread variants.Whole other = refl
not_spread variants.Added other = refl
not_spread (variants.Spread s) other = absurd (other s refl)

-- the positions of the runs that are left, where the next one is at hand
pub positions_parts : (size : ℕ) (e : Element) (bytes runs run rest : List ℕ) → runs ≡ run ++ rest
    → map (counted_from size) (numbers_at e bytes runs) ≡ map (counted_from size) (numbers_at e bytes run) ++ map (counted_from size) (numbers_at e bytes rest)
positions_parts size e bytes runs run rest is =
    ap (λ ps. map (counted_from size) (numbers_at e bytes ps)) is ∙ ap (map (counted_from size)) (map-append (number_at e bytes) run rest)
    ∙ map-append (counted_from size) (numbers_at e bytes run) (numbers_at e bytes rest)
