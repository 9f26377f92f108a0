-- A walk over the rows of a view in a greater shape, one byte offset further.
use Rattle.std.proofs.Common.{◌≡◌, ℕ, suc, ◌+◌, ◌-◌, ◌%◌, ◌<◌, ◌≤◌, ◌^◌, true, List, ◌∷◌, length, drop, get_or, to_z, of_z, sym, ap, ◌∙◌, arith, drop-cons, length-drop}
use Rattle.std.specs.Prelude.{ℤ, pos, ◌+ℤ◌, unsigned_abs}
use Rattle.std.specs.Int.{w128}
use Rattle.std.specs.Int.RustNames.{FitsSigned}
use Rattle.std.proofs.Math.Nat.{mod-lt}
use Rattle.std.proofs.lemmas.Int.{ints, to_z-of_z}
use Rattle.nd_model.specs.Arrays.Broadcast.{broadcast_view, broadcasts_to}
use Rattle.nd_model.specs.Arrays.Tuple.{elements_of}
use Rattle.nd_ufunc.specs.Elementwise.Spread.{AreBehind, AreRows, IsSpread, left_of}
use Rattle.nd_ufunc.specs.declared.elementwise.spread.Spread.TheInside.{Inside}
use Rattle.nd_ufunc.proofs.elementwise.Rows.{begun, spot, stepped}
use Rattle.nd_ufunc.proofs.elementwise.Spreads.{length-spread}

abbrev pub places_of : Inside → List ℕ
places_of s = (broadcast_view s.view.now s.shape.now).places

-- the byte offset at hand is the first one that is left
pub record IsTaken (s : Inside) (list : List ℕ) : Type 0 where
  pub fits : broadcasts_to s.view.now.shape s.shape.now ≡ true
  pub few : elements_of s.shape.now ≤ 2 ^ 24
  pub rows : AreRows (places_of s) s.row.length s.row.stride
  pub some : 0 < elements_of s.shape.now → 0 < s.row.length
  pub inside : s.at < elements_of s.shape.now
  pub more : 0 < s.more
  pub place : s.place ≡ get_or (places_of s) s.at 0
  pub behind : AreBehind (places_of s) (s.at + 1) (s.more - 1) s.place s.row.stride
  pub left : list ≡ drop s.at (places_of s)

module _ (s : Inside) (list : List ℕ) (is : IsSpread s) (list_is : left_of s ≡ list) (some : 0 < length list) where
  pub at_inside : s.at < elements_of s.shape.now
  at_inside = omega (arith, some, ap length list_is, length-drop s.at (places_of s), length-spread s.view.now s.shape.now)

  pub row_some : 0 < s.row.length
  row_some = is.some (omega (arith, at_inside))

  -- at the first of a row
  pub taken_first : (p : ℕ) → p ≡ get_or (places_of s) s.at 0 → IsTaken (record s { place = p; more = s.row.length - s.at % s.row.length }) list
  taken_first p same = record {
    fits = is.fits;
    few = is.few;
    rows = is.rows;
    some = is.some;
    inside = at_inside;
    more = omega (arith, mod-lt s.at row_some);
    place = same;
    behind = begun (places_of s) s.row.length s.at p s.row.stride is.rows (omega (arith, at_inside, length-spread s.view.now s.shape.now)) same;
    left = sym list_is;
  }

  -- further in a row
  pub taken_next : 0 < s.more → (p : ℕ) → pos p ≡ pos s.place +ℤ s.row.stride → IsTaken (record s { place = p }) list
  taken_next more p same =
      let next = stepped (places_of s) s.at s.more s.place p s.row.stride is.behind more same in
      record {
        fits = is.fits;
        few = is.few;
        rows = is.rows;
        some = is.some;
        inside = at_inside;
        more = more;
        place = next.0;
        behind = next.1;
        left = sym list_is;
      }

  -- as the code adds
  module _ (more : 0 < s.more) (x : ℤ) (x_is : x ≡ pos s.place) (fits : FitsSigned w128 x) (fits_stride : FitsSigned w128 s.row.stride) where
    pub spot_is : (pos s.place +ℤ s.row.stride ≡ pos (get_or (places_of s) s.at 0)) × (get_or (places_of s) s.at 0 < 2 ^ 64)
    spot_is = spot (places_of s) s.at s.more s.place s.row.stride is.behind more

    pub sum_is : to_z w128 (of_z w128 x) +ℤ to_z w128 (of_z w128 s.row.stride) ≡ pos (get_or (places_of s) s.at 0)
    sum_is = (λ i. to_z-of_z w128 x fits i +ℤ to_z-of_z w128 s.row.stride fits_stride i) ∙ ap (λ y. y +ℤ s.row.stride) x_is ∙ spot_is.0

    pub sum_fits : FitsSigned w128 (pos (get_or (places_of s) s.at 0))
    sum_fits = omega (arith, ints, spot_is.1)

    pub taken_sum : IsTaken (record s { place = unsigned_abs (to_z w128 (of_z w128 (to_z w128 (of_z w128 x) +ℤ to_z w128 (of_z w128 s.row.stride)))) }) list
    taken_sum =
        let value = ap (λ z. unsigned_abs (to_z w128 (of_z w128 z))) sum_is ∙ ap unsigned_abs (to_z-of_z w128 (pos (get_or (places_of s) s.at 0)) sum_fits) in
        taken_next more (unsigned_abs (to_z w128 (of_z w128 (to_z w128 (of_z w128 x) +ℤ to_z w128 (of_z w128 s.row.stride))))) (ap pos value ∙ sym spot_is.0)

-- what is left then
module _ (s : Inside) (list : List ℕ) (is : IsTaken s list) where
  pub further : IsSpread (record s { at = s.at + 1; more = s.more - 1 })
  further = record { fits = is.fits; few = is.few; rows = is.rows; some = is.some; behind = is.behind }

  pub first_left : list ≡ s.place ∷ drop (s.at + 1) (places_of s)
  first_left =
      let next : suc s.at ≡ s.at + 1 = omega arith in
      is.left ∙ drop-cons (places_of s) s.at 0 (omega (arith, is.inside, length-spread s.view.now s.shape.now)) ∙ (λ i. sym is.place i ∷ drop (next i) (places_of s))
