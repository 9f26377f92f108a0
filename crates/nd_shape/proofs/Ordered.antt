-- The way to an element where the axes are in another order.
use Rattle.std.proofs.Common.{◌≡◌, ℕ, suc, ◌+◌, ◌<◌, ◌^◌, false, List, [], ◌∷◌, map, length, get_or, refl, sym, ap, ◌∙◌, inl, inr, arith, eqb-true}
use Rattle.std.specs.Prelude.{ℤ, pos, ◌+ℤ◌, ◌*ℤ◌, Bool, true, nat_eq, None}
use Rattle.std.proofs.lemmas.Bool.{cases_Bool}
use Rattle.std.proofs.lemmas.Int.{ints}
use Rattle.std.proofs.lemmas.List.{length-map}
use Rattle.nd_model.specs.Cells.Session.{is_in}
use Rattle.nd_model.specs.Arrays.Strides.{way_to, places_by, parts_fault}
use Rattle.nd_model.specs.Indexing.Transposing.{position_in, ordered_tuple, transposed_view}
use Rattle.nd_model.specs.Arrays.Tuple.{count_up}
use Rattle.nd_model.specs.Arrays.View.{ElementType, Geo, item_size}
use Rattle.nd_model.proofs.Orders.{IsOrder, AreDistinct, gather, gather_same, over_order, order_distinct, same_is}
use Rattle.nd_model.proofs.Transposed.{same_limits, ordered_is_tuple}
use Rattle.nd_view.specs.Indexes.{IsIndex}
use Rattle.nd_view.proofs.Made.{facts, axes}
use Rattle.nd_shape.specs.Layouts.{lengths_on, strides_on}
use Rattle.nd_shape.proofs.Rearranged.{HasStrides, LeadsTo, tuple_of_index, index_of_tuple, built_fault, built_view}

abbrev sum : (ℕ → ℤ) → List ℕ → ℤ
sum f xs = gather (λ a b. a +ℤ b) (pos 0) f xs

swap_sum : (x y z : ℤ) → x +ℤ (y +ℤ z) ≡ y +ℤ (x +ℤ z)
swap_sum x y z = omega (arith, ints)

-- in the array's own order
way_along : (h : ℕ → ℕ) (g : ℕ → ℤ) (from : ℕ) (ss : List ℤ) → ((k : ℕ) → k < length ss → g (from + k) ≡ get_or ss k (pos 0))
    → way_to (map h (count_up from (length ss))) ss ≡ sum (λ a. pos (h a) *ℤ g a) (count_up from (length ss))
way_along h g from [] same = refl
way_along h g from (s ∷ ss) same =
    (λ i. (pos (h from) *ℤ sym (first (same 0 (omega arith))) i) +ℤ way_to (map h (count_up (from + 1) (length ss))) ss)
    ∙ ap (λ z. (pos (h from) *ℤ g from) +ℤ z) (way_along h g (from + 1) ss (λ k lt. later k (same (suc k) (omega arith))))
  where
    first : g (from + 0) ≡ s → g from ≡ s
    first e = let z : from + 0 ≡ from = omega arith in rw z at e

    later : (k : ℕ) → g (from + suc k) ≡ get_or ss k (pos 0) → g (from + 1 + k) ≡ get_or ss k (pos 0)
    later k e = let z : from + suc k ≡ from + 1 + k = omega arith in rw z at e

-- in the order of the view
way_ordered : (g : ℕ → ℤ) (order t : List ℕ) → AreDistinct order → length t ≡ length order
    → way_to t (map g order) ≡ sum (λ a. pos (get_or t (position_in order a) 0) *ℤ g a) order
way_ordered g [] [] d same = refl
way_ordered g [] (i ∷ t) d same = absurd (omega arith)
way_ordered g (a ∷ order) [] d same = absurd (omega arith)
way_ordered g (a ∷ order) (i ∷ t) d same =
    let here : position_in (a ∷ order) a ≡ 0 = rw (same_is a) refl in
    let rest : way_to t (map g order) ≡ sum (λ b. pos (get_or (i ∷ t) (position_in (a ∷ order) b) 0) *ℤ g b) order
    = way_ordered g order t d.1 (omega arith) ∙ gather_same (λ a b. a +ℤ b) (pos 0) _ _ order (λ b is. ap (λ n. pos (get_or (i ∷ t) n 0) *ℤ g b) (sym (further b is))) in
    (λ k. (pos (get_or (i ∷ t) (sym here k) 0) *ℤ g a) +ℤ rest k)
  where
    not_first : (b : ℕ) → is_in b order ≡ true → nat_eq b a ≡ false
    not_first b is = elim (cases_Bool (nat_eq b a)) [
      | inl e ↦ let e' : b ≡ a = eqb-true b a e in let f : is_in a order ≡ true = rw e' at is in let g : is_in a order ≡ false = d.0 in absurd (cc)
      | inr other ↦ other
    ]

    further : (b : ℕ) → is_in b order ≡ true → position_in (a ∷ order) b ≡ suc (position_in order b)
    further b is = rw (not_first b is) refl

plain : (k : ℕ) → 0 + k ≡ k
plain k = omega arith

module _ (shape : List ℕ) (strides : List ℤ) (order : List ℕ) (is : IsOrder (length shape) order) (same : length strides ≡ length shape) where
  abbrev stride : ℕ → ℤ
  stride a = get_or strides a (pos 0)

  abbrev index : List ℕ → ℕ → ℕ
  index t a = get_or t (position_in order a) 0

  pub ordered_way : (t : List ℕ) → length t ≡ length order → way_to (ordered_tuple order (length shape) t) strides ≡ way_to t (strides_on strides order)
  ordered_way t long =
      (λ i. way_to (map (index t) (count_up 0 (sym same i))) strides)
      ∙ way_along (index t) stride 0 strides (λ k lt. ap stride (plain k))
      ∙ (λ i. sum (λ a. pos (index t a) *ℤ stride a) (count_up 0 (same i)))
      ∙ sym (over_order (length shape) order is (λ a b. a +ℤ b) (pos 0) (λ a. pos (index t a) *ℤ stride a) swap_sum)
      ∙ sym (way_ordered stride order t (order_distinct (length shape) order is) long)

pub length_index : (shape t : List ℕ) → IsIndex shape t → length t ≡ length shape
length_index [] [] is = refl
length_index [] (i ∷ t) is = absurd is
length_index (n ∷ shape) [] is = absurd is
length_index (n ∷ shape) (i ∷ t) is = ap suc (length_index shape t is.1)

pub ordered_leads : (g : Geo) (strides : List ℤ) (order : List ℕ) → HasStrides g strides → IsOrder (length g.shape) order → length strides ≡ length g.shape
    → LeadsTo g strides (lengths_on g.shape order) (strides_on strides order) (ordered_tuple order (length g.shape))
ordered_leads g strides order has is same = record {
  limits = same_limits g.shape order is (item_size g.element) ∙ (facts (item_size g.element) g.shape strides (get_or g.places 0 0) (2 ^ 64) has.held).1;
  long = length-map order _ ∙ sym (length-map order _);
  index = λ t tuple. index_of_tuple g.shape (ordered_tuple order (length g.shape) t) (ordered_is_tuple g.shape order is t (tuple_of_index (lengths_on g.shape order) t tuple));
  way = λ t tuple. ordered_way g.shape strides order is same t (length_index (lengths_on g.shape order) t tuple ∙ length-map order _);
}

-- by what the code has of it
module _ (g : Geo) (strides : List ℤ) (has : HasStrides g strides) (order : ℕ → List ℕ) (is : IsOrder (length g.shape) (order (length g.shape))) (shape : List ℕ) (shape_is : shape ≡ g.shape)
    (t : ElementType) (lengths : List ℕ) (steps : List ℤ) (at : ℕ) (type_is : t ≡ g.element) (lengths_are : lengths ≡ lengths_on shape (order (length shape))) (steps_are : steps ≡ strides_on strides (order (length shape)))
    (at_is : at ≡ get_or g.places 0 0) where
  abbrev own : List ℕ
  own = order (length g.shape)

  leads : LeadsTo g strides (lengths_on g.shape own) (strides_on strides own) (ordered_tuple own (length g.shape))
  leads = ordered_leads g strides own has is (axes (item_size g.element) g.shape strides (get_or g.places 0 0) (2 ^ 64) has.held)

  lengths' : lengths ≡ lengths_on g.shape own
  lengths' = lengths_are ∙ (λ i. lengths_on (shape_is i) (order (length (shape_is i))))

  steps' : steps ≡ strides_on strides own
  steps' = steps_are ∙ (λ i. strides_on strides (order (length (shape_is i))))

  pub order_fault : parts_fault (item_size t) lengths steps at (2 ^ 64) ≡ None
  order_fault = built_fault g strides has (lengths_on g.shape own) (strides_on strides own) (ordered_tuple own (length g.shape)) leads t lengths steps at type_is lengths' steps' at_is

  pub order_view : (writable : Bool) → writable ≡ g.writable
      → ◌≡◌ {A = Geo} (record { element = t; shape = lengths; writable = writable; places = places_by at steps lengths }) (transposed_view g own)
  order_view writable write =
      built_view g strides has (lengths_on g.shape own) (strides_on strides own) (ordered_tuple own (length g.shape)) leads t lengths steps at type_is lengths' steps' at_is writable g.writable write
