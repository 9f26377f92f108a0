-- What is transposed of a view lies where the view lies.
use Rattle.std.proofs.Common.{◌≡◌, ℕ, zero, suc, ◌+◌, ◌*◌, ◌<◌, ◌≤◌, ◌^◌, Bool, true, false, ◌&&◌, ◌||◌, eqb, ℤ, List, [], ◌∷◌, map, length, get_or, Result, Ok, refl, sym, ap, subst, ◌∙◌, inl, inr, arith, eqb-true}
use Rattle.std.specs.Prelude.{nat_lt, ◌==◌, if◌then◌else◌, Some, None}
use Rattle.std.specs.List.{list_all, list_any}
use Rattle.std.proofs.lemmas.Bool.{cases_Bool}
use Rattle.std.proofs.lemmas.Bool.Decides.{nat_tests}
use Rattle.std.proofs.lemmas.List.{length-map, get_or-map}
use Rattle.nd_model.specs.Cells.Session.{is_in}
use Rattle.nd_model.specs.Cells.Fault.{TooManyAxes, TooManyElements}
use Rattle.nd_model.specs.Arrays.Strides.{limit_fault}
use Rattle.nd_model.specs.Arrays.Tuple.{count_up, elements_of}
use Rattle.nd_model.specs.Arrays.View.{Geo, item_size}
use Rattle.nd_model.specs.Indexing.Selecting.{is_within}
use Rattle.nd_model.specs.Cells.Fault.{Fault}
use Rattle.nd_model.specs.Cells.Refusing.{when}
use Rattle.nd_model.specs.Indexing.Transposing.{axes_of, is_order, position_in, ordered_tuple, transposed_view, transpose, count_down, reversed_view}
use Rattle.nd_model.specs.Cells.Sound.{LiesIn}
use Rattle.nd_model.proofs.Tuples.{IsTuple, tuple_at, tuple_by}
use Rattle.nd_model.proofs.Taking.{taking_within}
use Rattle.nd_model.proofs.Orders.{IsOrder, gather, over_order, position_is, in_more}

pub both : (a b : Bool) → (a && b) ≡ true → (a ≡ true) × (b ≡ true)
both true b e = (refl, e)
both false b e = cc

pub when_ok : {A : Type 0} (b : Bool) (f : Fault) (x : Result A Fault) (y : A) → when b f x ≡ Ok y → (b ≡ true) × (x ≡ Ok y)
when_ok true f x y e = (refl, e)
when_ok false f x y e = absurd (cc)

pub ok_same : {A : Type 0} (x y : A) → ◌≡◌ {A = Result A Fault} (Ok x) (Ok y) → x ≡ y
ok_same x y e = cc

-- ---- orders

all_in : (axes : List ℕ) (from many a : ℕ) → list_all (λ a. is_in a axes) (count_up from many) ≡ true → from ≤ a → a < from + many → is_in a axes ≡ true
all_in axes from zero a h low high = absurd (omega arith)
all_in axes from (suc many) a h low high =
    let parts = both (is_in from axes) (list_all (λ a. is_in a axes) (count_up (from + 1) many)) h in
    elim (cases_Bool (eqb from a)) [
      | inl is ↦ let e : from ≡ a = eqb-true _ _ is in rw (← e) parts.0
      | inr other ↦ all_in axes (from + 1) many a parts.1 (grind (arith, nat_tests)) (omega arith)
    ]

pub order_is : (n : ℕ) (zs : List ℤ) → is_order n zs ≡ true → IsOrder n (axes_of n zs)
order_is n zs e =
    let one = both (length zs == n) (list_all (is_within n) zs && list_all (λ a. is_in a (axes_of n zs)) (count_up 0 n)) e in
    let two = both (list_all (is_within n) zs) (list_all (λ a. is_in a (axes_of n zs)) (count_up 0 n)) one.1 in
    record { long = length-map zs _ ∙ eqb-true (length zs) n one.0; each = λ a lt. all_in (axes_of n zs) 0 n a two.1 (omega arith) (omega arith) }

pub down_is : (n : ℕ) → IsOrder n (count_down n)
down_is n = record { long = long n; each = λ a lt. each a n lt }
  where
    long : (n : ℕ) → length (count_down n) ≡ n
    long zero = refl
    long (suc n) = ap suc (long n)

    each : (a n : ℕ) → a < n → is_in a (count_down n) ≡ true
    each a zero lt = absurd (omega arith)
    each a (suc n) lt = elim (cases_Bool (eqb a n)) [
      | inl is ↦ rw is refl
      | inr other ↦ in_more a n (count_down n) (each a n (grind (arith, nat_tests)))
    ]

-- ---- lengths

abbrev at : {A : Type 0} → A → List A → ℕ → A
at d xs k = get_or xs k d

-- a list by its places
pub by_place : {A : Type 0} (d : A) (xs : List A) (f : ℕ → A) (from : ℕ) → ((k : ℕ) → k < length xs → f (from + k) ≡ get_or xs k d) → map f (count_up from (length xs)) ≡ xs
by_place d [] f from same = refl
by_place d (x ∷ xs) f from same = λ i. first (same 0 (omega arith)) i ∷ by_place d xs f (from + 1) (λ k lt. later k (same (suc k) (omega arith))) i
  where
    first : f (from + 0) ≡ x → f from ≡ x
    first e = let z : from + 0 ≡ from = omega arith in rw z at e

    later : (k : ℕ) → f (from + suc k) ≡ get_or xs k d → f (from + 1 + k) ≡ get_or xs k d
    later k e = let z : from + suc k ≡ from + 1 + k = omega arith in rw z at e

plain : (k : ℕ) → 0 + k ≡ k
plain k = omega arith

whole : {A : Type 0} (d : A) (xs : List A) → map (λ k. get_or xs k d) (count_up 0 (length xs)) ≡ xs
whole d xs = by_place d xs (λ k. get_or xs k d) 0 (λ k lt. ap (λ m. get_or xs m d) (plain k))

gather_elements : (f : ℕ → ℕ) (xs : List ℕ) → elements_of (map f xs) ≡ gather (λ a b. a * b) 1 f xs
gather_elements f [] = refl
gather_elements f (x ∷ xs) = ap (λ e. f x * e) (gather_elements f xs)

gather_any : (p : ℕ → Bool) (f : ℕ → ℕ) (xs : List ℕ) → list_any p (map f xs) ≡ gather (λ a b. a || b) false (λ x. p (f x)) xs
gather_any p f [] = refl
gather_any p f (x ∷ xs) = ap (λ e. p (f x) || e) (gather_any p f xs)

swap_product : (x y z : ℕ) → x * (y * z) ≡ y * (x * z)
swap_product x y z = omega (arith, comm)
  where
    comm : x * y * z ≡ y * x * z
    comm = omega arith

swap_or : (x y z : Bool) → (x || (y || z)) ≡ (y || (x || z))
swap_or true true z = refl
swap_or true false z = refl
swap_or false true z = refl
swap_or false false z = refl

module _ (shape order : List ℕ) (is : IsOrder (length shape) order) where
  abbrev lengths : List ℕ
  lengths = map (λ k. get_or shape k 0) order

  pub same_elements : elements_of lengths ≡ elements_of shape
  same_elements =
      gather_elements (λ k. get_or shape k 0) order ∙ over_order (length shape) order is (λ a b. a * b) 1 (λ k. get_or shape k 0) swap_product
      ∙ sym (gather_elements (λ k. get_or shape k 0) (count_up 0 (length shape))) ∙ ap elements_of (whole 0 shape)

  pub same_any : (p : ℕ → Bool) → list_any p lengths ≡ list_any p shape
  same_any p =
      gather_any p (λ k. get_or shape k 0) order ∙ over_order (length shape) order is (λ a b. a || b) false (λ x. p (get_or shape x 0)) swap_or
      ∙ sym (gather_any p (λ k. get_or shape k 0) (count_up 0 (length shape))) ∙ ap (list_any p) (whole 0 shape)

  pub same_limits : (size : ℕ) → limit_fault size lengths ≡ limit_fault size shape
  same_limits size =
      let long : length lengths ≡ length shape = length-map order (λ k. get_or shape k 0) ∙ is.long in
      (λ i. if nat_lt 32 (long i) then Some TooManyAxes else (if same_any (nat_lt (2 ^ 32)) i || (nat_lt (2 ^ 24) (same_elements i) || nat_lt (2 ^ 27) (same_elements i * size)) then Some TooManyElements else None))

  pub ordered_is_tuple : (t : List ℕ) → IsTuple lengths t → IsTuple shape (ordered_tuple order (length shape) t)
  ordered_is_tuple t tuple = tuple_by shape (λ a. get_or t (position_in order a) 0) 0 (λ k lt.
      let at = position_is (0 + k) order (is.each (0 + k) (omega arith)) in
      below k at.0 at.1 (tuple_at lengths t (position_in order (0 + k)) tuple (omega (arith, at.0, length-map order (λ k. get_or shape k 0)))))
    where
      below : (k : ℕ) → position_in order (0 + k) < length order → get_or order (position_in order (0 + k)) 0 ≡ 0 + k
          → get_or t (position_in order (0 + k)) 0 < get_or lengths (position_in order (0 + k)) 0 → get_or t (position_in order (0 + k)) 0 < get_or shape k 0
      below k low same lt =
          let e : get_or lengths (position_in order (0 + k)) 0 ≡ get_or shape k 0
          = get_or-map (λ k. get_or shape k 0) order (position_in order (0 + k)) 0 0 low ∙ ap (λ k. get_or shape k 0) (same ∙ plain k) in
          rw e at lt

ordered_lies : (g : Geo) (order : List ℕ) (len : ℕ) → IsOrder (length g.shape) order → LiesIn len g → LiesIn len (transposed_view g order)
ordered_lies g order len is lies =
    let within = taking_within len g (map (λ k. get_or g.shape k 0) order) (ordered_tuple order (length g.shape)) lies (λ t tuple. ordered_is_tuple g.shape order is t tuple) in
    record { count = within.0; limits = same_limits g.shape order is (item_size g.element) ∙ lies.limits; inside = within.1 }

pub transposed_lies : (zs : List ℤ) (g h : Geo) (len : ℕ) → LiesIn len g → transpose zs g ≡ Ok h → LiesIn len h
transposed_lies zs g h len lies e =
    let made = when_ok _ _ _ h e in
    subst (LiesIn len) (ok_same (transposed_view g (axes_of (length g.shape) zs)) h made.1) (ordered_lies g (axes_of (length g.shape) zs) len (order_is (length g.shape) zs made.0) lies)

pub reversed_lies : (g : Geo) (len : ℕ) → LiesIn len g → LiesIn len (reversed_view g)
reversed_lies g len lies = ordered_lies g (count_down (length g.shape)) len (down_is (length g.shape)) lies
