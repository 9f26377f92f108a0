-- The axis along which is folded, put back at its place: index tuples and strides.
use Rattle.std.proofs.Common.{◌≡◌, ℕ, zero, suc, ◌-◌, ◌<◌, ◌^◌, List, [], ◌∷◌, ◌++◌, length, get_or, take, drop, refl, sym, ap, ◌∙◌, subst, arith}
use Rattle.std.specs.Prelude.{ℤ, pos, ◌+ℤ◌, ◌*ℤ◌}
use Rattle.std.proofs.lemmas.Int.{ints}
use Rattle.nd_model.specs.Arrays.Strides.{limit_fault, way_to}
use Rattle.nd_model.specs.Arrays.View.{Geo, item_size}
use Rattle.nd_view.specs.Indexes.{IsIndex}
use Rattle.nd_view.proofs.Made.{facts, axes}
use Rattle.nd_shape.proofs.Ordered.{length_index}
use Rattle.nd_shape.proofs.Rearranged.{HasStrides, LeadsTo}
use Rattle.nd_reduce.specs.Axes.LastAxis.{to_end, last_of, front_of, put_last}
use Rattle.nd_reduce.proofs.axes.Moved.{length-to_end, limits_to_end}

-- ---- lists

last_is : {X : Type 0} (x d : X) (xs : List X) → get_or (x ∷ xs) (length xs) d ≡ last_of x xs
last_is x d [] = refl
last_is x d (y ∷ ys) = last_is y d ys

front_is : {X : Type 0} (x : X) (xs : List X) → take (length xs) (x ∷ xs) ≡ front_of x xs
front_is x [] = refl
front_is x (y ∷ ys) = ap (λ l. x ∷ l) (front_is y ys)

pub put_last_is : {X : Type 0} (a : ℕ) (xs : List X) (d : X) → a < length xs → put_last a xs ≡ take a (take (length xs - 1) xs) ++ get_or xs (length xs - 1) d ∷ drop a (take (length xs - 1) xs)
put_last_is zero [] d lt = absurd (omega arith)
put_last_is (suc a) [] d lt = absurd (omega arith)
put_last_is zero (x ∷ xs) d lt = let e : suc (length xs) - 1 ≡ length xs = omega arith in rw e (λ i. sym (last_is x d xs) i ∷ sym (front_is x xs) i)
put_last_is (suc a) (x ∷ []) d lt = absurd (omega arith)
put_last_is (suc a) (x ∷ y ∷ ys) d lt =
    let e : suc (suc (length ys)) - 1 ≡ suc (suc (length ys) - 1) = omega arith in rw e (ap (λ l. x ∷ l) (put_last_is a (y ∷ ys) d (omega arith)))

pub length-put_last : {X : Type 0} (a : ℕ) (xs : List X) → length (put_last a xs) ≡ length xs
length-put_last zero [] = refl
length-put_last (suc a) [] = refl
length-put_last zero (x ∷ xs) = ap suc (long x xs)
  where
    long : {X : Type 0} (x : X) (xs : List X) → length (front_of x xs) ≡ length xs
    long x [] = refl
    long x (y ∷ ys) = ap suc (long y ys)
length-put_last (suc a) (x ∷ xs) = ap suc (length-put_last a xs)

-- ---- index tuples

inside_last : (s t : List ℕ) (n i : ℕ) → i < n → IsIndex s t → IsIndex (s ++ n ∷ []) (t ++ i ∷ [])
inside_last [] [] n i lt is = (lt, tt)
inside_last [] (j ∷ t) n i lt is = absurd is
inside_last (m ∷ s) [] n i lt is = absurd is
inside_last (m ∷ s) (j ∷ t) n i lt is = (is.0, inside_last s t n i lt is.1)

pub inside_to_end : (a : ℕ) (s t : List ℕ) → IsIndex s t → IsIndex (to_end a s) (to_end a t)
inside_to_end zero [] [] is = tt
inside_to_end (suc a) [] [] is = tt
inside_to_end a [] (i ∷ t) is = absurd is
inside_to_end a (n ∷ s) [] is = absurd is
inside_to_end zero (n ∷ s) (i ∷ t) is = inside_last s t n i is.0 is.1
inside_to_end (suc a) (n ∷ s) (i ∷ t) is = (is.0, inside_to_end a s t is.1)

-- ---- strides

swap_sum : (x y z : ℤ) → x +ℤ (y +ℤ z) ≡ y +ℤ (x +ℤ z)
swap_sum x y z = omega (arith, ints)

last_way : (t : List ℕ) (i : ℕ) (s : ℤ) (ss : List ℤ) → length t ≡ length ss → way_to (t ++ i ∷ []) (s ∷ ss) ≡ (pos i *ℤ last_of s ss) +ℤ way_to t (front_of s ss)
last_way [] i s [] same = refl
last_way [] i s (u ∷ us) same = absurd (omega arith)
last_way (j ∷ t) i s [] same = absurd (omega arith)
last_way (j ∷ t) i s (u ∷ us) same =
    ap (λ z. (pos j *ℤ s) +ℤ z) (last_way t i u us (omega arith)) ∙ swap_sum (pos j *ℤ s) (pos i *ℤ last_of u us) (way_to t (front_of u us))

way_back : (a : ℕ) (t : List ℕ) (ss : List ℤ) → length t ≡ length ss → way_to (to_end a t) ss ≡ way_to t (put_last a ss)
way_back zero [] [] same = refl
way_back (suc a) [] [] same = refl
way_back a [] (s ∷ ss) same = absurd (omega arith)
way_back a (i ∷ t) [] same = absurd (omega arith)
way_back zero (i ∷ t) (s ∷ ss) same = last_way t i s ss (omega arith)
way_back (suc a) (i ∷ t) (s ∷ ss) same = ap (λ z. (pos i *ℤ s) +ℤ z) (way_back a t ss (omega arith))

-- THE SAME ELEMENTS by the lengths and strides with the last axis at its place
pub unmoved_leads : (g : Geo) (strides : List ℤ) (a : ℕ) (shape : List ℕ) → HasStrides g strides → g.shape ≡ to_end a shape → LeadsTo g strides shape (put_last a strides) (to_end a)
unmoved_leads g strides a shape has is =
    let same : length strides ≡ length g.shape = axes (item_size g.element) g.shape strides (get_or g.places 0 0) (2 ^ 64) has.held in
    let long : length g.shape ≡ length shape = ap length is ∙ length-to_end a shape in
    record {
      limits = sym (ap (λ s. limit_fault (item_size g.element) s) is ∙ limits_to_end (item_size g.element) a shape) ∙ (facts (item_size g.element) g.shape strides (get_or g.places 0 0) (2 ^ 64) has.held).1;
      long = length-put_last a strides ∙ same ∙ long;
      index = λ t inside. subst (λ s. IsIndex s (to_end a t)) (sym is) (inside_to_end a shape t inside);
      way = λ t inside. way_back a t strides (length_index shape t inside ∙ sym long ∙ sym same);
    }
