-- From the number of an element to its place, axis by axis.
use Rattle.std.proofs.Common.{◌≡◌, ℕ, zero, suc, ◌+◌, ◌/◌, ◌%◌, ◌<◌, ◌≤◌, ◌^◌, List, [], ◌∷◌, length, get_or, drop, sym, ap, subst, ◌∙◌, arith, add-one, drop-cons}
use Rattle.std.specs.Prelude.{ℤ, pos, ◌+ℤ◌, ◌*ℤ◌, unsigned_abs}
use Rattle.std.proofs.Math.Nat.{mod-lt, div-lt_iff_lt-mul, mul-div_cancel_left}
use Rattle.std.proofs.lemmas.Int.{ints}
use Rattle.std.proofs.lemmas.List.{drop_all}
use Rattle.nd_model.specs.Arrays.Strides.{place_at}
use Rattle.nd_model.specs.Arrays.Tuple.{elements_of}
use Rattle.nd_view.proofs.Counts.{rest_some}
use Rattle.nd_view.proofs.Extents.{Lies, step, onward}
use Rattle.nd_view.proofs.Numbered.{tuple_of}

-- the axes from `axis` on are left, and the element has the number `left` among theirs
pub record IsAt (size : ℕ) (items : List ℕ) (strides : List ℤ) (axis each left place whole : ℕ) : Type 0 where
  pub many : each ≡ elements_of (drop axis items)
  pub below : left < each
  pub lies : Lies size (2 ^ 64) (drop axis items) (drop axis strides) place
  pub same : place_at place (drop axis strides) (tuple_of (drop axis items) left) ≡ whole

-- one axis further
pub record Next (size : ℕ) (n : ℕ) (xs : List ℕ) (s : ℤ) (ss : List ℤ) (left place : ℕ) : Type 0 where
  pub some : 0 < n
  pub many : 0 < elements_of xs
  pub each : elements_of (n ∷ xs) / n ≡ elements_of xs
  pub rest : left % elements_of xs < elements_of xs
  pub to : ℕ
  pub is : pos place +ℤ (pos (left / elements_of xs) *ℤ s) ≡ pos to
  pub lies : Lies size (2 ^ 64) xs ss to
  pub same : place_at to ss (tuple_of xs (left % elements_of xs)) ≡ place_at place (s ∷ ss) (tuple_of (n ∷ xs) left)

pub next : (size n : ℕ) (xs : List ℕ) (s : ℤ) (ss : List ℤ) (left place : ℕ) → left < elements_of (n ∷ xs) → Lies size (2 ^ 64) (n ∷ xs) (s ∷ ss) place → Next size n xs s ss left place
next size zero xs s ss left place lt lies = absurd (omega (arith, lt))
next size (suc n) xs s ss left place lt lies =
    let many : 0 < elements_of xs = rest_some (suc n) (elements_of xs) (omega (arith, lt)) in
    let index : left / elements_of xs < suc n = (div-lt_iff_lt-mul many).1 lt in
    let go = step size (2 ^ 64) (suc n) (left / elements_of xs) s xs ss place index lies in
    record {
      some = omega arith;
      many = many;
      each = mul-div_cancel_left (elements_of xs) {n = suc n} (omega arith);
      rest = mod-lt left many;
      to = go.to;
      is = go.is;
      lies = go.lies;
      same = sym (ap unsigned_abs (onward place go.to (left / elements_of xs) s ss (tuple_of xs (left % elements_of xs)) go.is));
    }

module _ (size : ℕ) (items : List ℕ) (strides : List ℤ) (axis each left place whole : ℕ) (at : IsAt size items strides axis each left place whole) (some : 0 < size) (lt : axis < length items) (same : length strides ≡ length items) where
  abbrev n : ℕ
  n = get_or items axis 0

  abbrev s : ℤ
  s = get_or strides axis (pos 0)

  lengths : drop axis items ≡ n ∷ drop (suc axis) items
  lengths = drop-cons items axis 0 lt

  steps : drop axis strides ≡ s ∷ drop (suc axis) strides
  steps = drop-cons strides axis (pos 0) (omega arith)

  below : left < elements_of (n ∷ drop (suc axis) items)
  below = subst (λ xs. left < elements_of xs) lengths (omega (arith, at.below, at.many))

  pub go : Next size n (drop (suc axis) items) s (drop (suc axis) strides) left place
  go = next size n (drop (suc axis) items) s (drop (suc axis) strides) left place below
      (subst (λ xs. Lies size (2 ^ 64) xs (s ∷ drop (suc axis) strides) place) lengths (subst (λ ss. Lies size (2 ^ 64) (drop axis items) ss place) steps at.lies))

  pub length_some : 0 < n
  length_some = go.some

  pub each_is : each / n ≡ elements_of (drop (suc axis) items)
  each_is = ap (λ k. k / n) (at.many ∙ ap elements_of lengths) ∙ go.each

  pub each_some : 0 < each / n
  each_some = rw each_is go.many

  pub way : pos place +ℤ (pos (left / (each / n)) *ℤ s) ≡ pos go.to
  way = (λ i. pos place +ℤ (pos (left / each_is i) *ℤ s)) ∙ go.is

  pub to_below : go.to < 2 ^ 64
  to_below = omega (arith, go.lies.high, some)

  pub onwards : IsAt size items strides (axis + 1) (each / n) (left % (each / n)) go.to whole
  onwards =
      let rest : left % (each / n) ≡ left % elements_of (drop (suc axis) items) = ap (λ k. left % k) each_is in
      rw add-one (record {
        many = each_is;
        below = rw (rest, each_is) go.rest;
        lies = go.lies;
        same = rw rest (go.same ∙ (λ i. place_at place (sym steps i) (tuple_of (sym lengths i) left)) ∙ at.same);
      })

-- no axis is left
pub arrived : (size : ℕ) (items : List ℕ) (strides : List ℤ) (axis each left place whole : ℕ) → IsAt size items strides axis each left place whole → length items ≤ axis → place ≡ whole
arrived size items strides axis each left place whole at le =
    let none : drop axis items ≡ [] = drop_all axis items le in
    sym (no_axes place (drop axis strides)) ∙ (λ i. place_at place (drop axis strides) (tuple_of (sym none i) left)) ∙ at.same
  where
    stays : (n : ℕ) → pos n +ℤ pos 0 ≡ pos n
    stays n = omega (arith, ints)

    no_axes : (n : ℕ) (ss : List ℤ) → place_at n ss [] ≡ n
    no_axes n ss = ap unsigned_abs (stays n)
