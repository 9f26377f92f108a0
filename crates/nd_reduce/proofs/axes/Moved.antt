-- The axis along which is folded, put behind the others: index tuples and strides.
use Rattle.std.proofs.Common.{◌≡◌, ℕ, zero, suc, ◌+◌, ◌*◌, ◌<◌, ◌≤◌, ◌^◌, Bool, true, false, List, [], ◌∷◌, ◌++◌, length, get_or, take, drop, refl, sym, ap, ◌∙◌, arith, length-append}
use Rattle.std.specs.Prelude.{ℤ, pos, ◌+ℤ◌, ◌*ℤ◌, ◌||◌, nat_lt, None, Some, if◌then◌else◌}
use Rattle.std.specs.List.{list_any}
use Rattle.std.proofs.lemmas.Int.{ints}
use Rattle.std.proofs.lemmas.List.Folds.{list_any-append}
use Rattle.nd_model.specs.Cells.Fault.{TooManyAxes, TooManyElements}
use Rattle.nd_model.specs.Arrays.Strides.{way_to, limit_fault}
use Rattle.nd_model.specs.Arrays.Tuple.{elements_of}
use Rattle.nd_model.specs.Arrays.View.{Geo, item_size}
use Rattle.nd_view.specs.Indexes.{IsIndex}
use Rattle.nd_view.proofs.Made.{facts, axes}
use Rattle.nd_shape.proofs.Ordered.{length_index}
use Rattle.nd_shape.proofs.Rearranged.{HasStrides, LeadsTo}
use Rattle.nd_reduce.specs.Axes.LastAxis.{to_end, last_index, front_indexes, from_end}

-- ---- lists

pub to_end_is : {X : Type 0} (a : ℕ) (xs : List X) (d : X) → a < length xs → to_end a xs ≡ (take a xs ++ drop (a + 1) xs) ++ get_or xs a d ∷ []
to_end_is zero [] d lt = absurd (omega arith)
to_end_is (suc a) [] d lt = absurd (omega arith)
to_end_is zero (x ∷ xs) d lt = refl
to_end_is (suc a) (x ∷ xs) d lt = let e : suc a + 1 ≡ suc (a + 1) = omega arith in rw e (ap (λ l. x ∷ l) (to_end_is a xs d (omega arith)))

pub length-to_end : {X : Type 0} (a : ℕ) (xs : List X) → length (to_end a xs) ≡ length xs
length-to_end zero [] = refl
length-to_end (suc a) [] = refl
length-to_end zero (x ∷ xs) = length-append xs (x ∷ []) ∙ omega arith
length-to_end (suc a) (x ∷ xs) = ap suc (length-to_end a xs)

or_last : (a b : Bool) → (a || (b || false)) ≡ (b || a)
or_last true true = refl
or_last true false = refl
or_last false true = refl
or_last false false = refl

swap_or : (a b c : Bool) → a ≡ b → (c || a) ≡ (c || b)
swap_or a b c e = ap (λ d. c || d) e

any_to_end : (p : ℕ → Bool) (a : ℕ) (xs : List ℕ) → list_any p (to_end a xs) ≡ list_any p xs
any_to_end p zero [] = refl
any_to_end p (suc a) [] = refl
any_to_end p zero (x ∷ xs) = list_any-append p xs (x ∷ []) ∙ or_last (list_any p xs) (p x)
any_to_end p (suc a) (x ∷ xs) = ap (λ b. p x || b) (any_to_end p a xs)

pub elements-append : (xs ys : List ℕ) → elements_of (xs ++ ys) ≡ elements_of xs * elements_of ys
elements-append [] ys = omega arith
elements-append (x ∷ xs) ys = ap (λ n. x * n) (elements-append xs ys) ∙ omega arith

elements_to_end : (a : ℕ) (xs : List ℕ) → elements_of (to_end a xs) ≡ elements_of xs
elements_to_end zero [] = refl
elements_to_end (suc a) [] = refl
elements_to_end zero (x ∷ xs) = elements-append xs (x ∷ []) ∙ omega arith
elements_to_end (suc a) (x ∷ xs) = ap (λ n. x * n) (elements_to_end a xs)

pub limits_to_end : (size a : ℕ) (xs : List ℕ) → limit_fault size (to_end a xs) ≡ limit_fault size xs
limits_to_end size a xs =
    λ i. if nat_lt 32 (length-to_end a xs i) then Some TooManyAxes
    else (if any_to_end (nat_lt (2 ^ 32)) a xs i || (nat_lt (2 ^ 24) (elements_to_end a xs i) || nat_lt (2 ^ 27) (elements_to_end a xs i * size)) then Some TooManyElements else None)

-- ---- index tuples

no_index : (s : List ℕ) (n : ℕ) → IsIndex (s ++ n ∷ []) [] → ⊥
no_index [] n is = is
no_index (m ∷ s) n is = is

last_inside : (s : List ℕ) (n : ℕ) (t : List ℕ) → IsIndex (s ++ n ∷ []) t → (last_index t < n) × IsIndex s (front_indexes t)
last_inside s n [] is = absurd (no_index s n is)
last_inside [] n (i ∷ []) is = (is.0, tt)
last_inside [] n (i ∷ j ∷ t) is = absurd is.1
last_inside (m ∷ s) n (i ∷ []) is = absurd (no_index s n is.1)
last_inside (m ∷ s) n (i ∷ j ∷ t) is = let rest = last_inside s n (j ∷ t) is.1 in (rest.0, (is.0, rest.1))

pub inside_moved : (a : ℕ) (s t : List ℕ) → a < length s → IsIndex (to_end a s) t → IsIndex s (from_end a t)
inside_moved zero [] t lt is = absurd (omega arith)
inside_moved (suc a) [] t lt is = absurd (omega arith)
inside_moved zero (n ∷ s) t lt is = last_inside s n t is
inside_moved (suc a) (n ∷ s) [] lt is = absurd is
inside_moved (suc a) (n ∷ s) (i ∷ t) lt is = (is.0, inside_moved a s t (omega arith) is.1)

pub last_of_row : (t : List ℕ) (j : ℕ) → last_index (t ++ j ∷ []) ≡ j
last_of_row [] j = refl
last_of_row (i ∷ []) j = refl
last_of_row (i ∷ k ∷ t) j = last_of_row (k ∷ t) j

pub front_of_row : (t : List ℕ) (j : ℕ) → front_indexes (t ++ j ∷ []) ≡ t
front_of_row [] j = refl
front_of_row (i ∷ []) j = refl
front_of_row (i ∷ k ∷ t) j = ap (λ l. i ∷ l) (front_of_row (k ∷ t) j)

-- the last index of a row of a tuple
pub row_moved : (a : ℕ) (t : List ℕ) (j : ℕ) → a ≤ length t → from_end a (t ++ j ∷ []) ≡ take a t ++ j ∷ drop a t
row_moved zero t j le = λ i. last_of_row t j i ∷ front_of_row t j i
row_moved (suc a) [] j le = absurd (omega arith)
row_moved (suc a) (i ∷ t) j le = ap (λ l. i ∷ l) (row_moved a t j (omega arith))

-- a tuple of what is left with an index put between
pub inside_put : (a : ℕ) (s t : List ℕ) (j : ℕ) → a < length s → IsIndex (take a s ++ drop (a + 1) s) t → j < get_or s a 0 → IsIndex s (take a t ++ j ∷ drop a t)
inside_put zero [] t j lt is below = absurd (omega arith)
inside_put (suc a) [] t j lt is below = absurd (omega arith)
inside_put zero (n ∷ s) t j lt is below = (below, is)
inside_put (suc a) (n ∷ s) [] j lt is below = absurd is
inside_put (suc a) (n ∷ s) (i ∷ t) j lt is below =
    let e : suc a + 1 ≡ suc (a + 1) = omega arith in let rest : IsIndex (take a s ++ drop (a + 1) s) t = rw e at is.1 in
    (is.0, inside_put a s t j (omega arith) rest below)

-- and one with another index there
pub inside_at : (a : ℕ) (s t : List ℕ) (j : ℕ) → IsIndex s t → j < get_or s a 0 → IsIndex s (take a t ++ j ∷ drop (a + 1) t)
inside_at zero [] t j is below = absurd (omega arith)
inside_at (suc a) [] t j is below = absurd (omega arith)
inside_at zero (n ∷ s) [] j is below = absurd is
inside_at zero (n ∷ s) (i ∷ t) j is below = (below, is.1)
inside_at (suc a) (n ∷ s) [] j is below = absurd is
inside_at (suc a) (n ∷ s) (i ∷ t) j is below = let e : suc a + 1 ≡ suc (a + 1) = omega arith in rw e (is.0, inside_at a s t j is.1 below)

-- ---- strides

swap_sum : (x y z : ℤ) → x +ℤ (y +ℤ z) ≡ y +ℤ (x +ℤ z)
swap_sum x y z = omega (arith, ints)

last_way : (t : List ℕ) (ss : List ℤ) (x : ℤ) → length t ≡ suc (length ss) → way_to (last_index t ∷ front_indexes t) (x ∷ ss) ≡ way_to t (ss ++ x ∷ [])
last_way [] ss x same = absurd (omega arith)
last_way (i ∷ []) [] x same = refl
last_way (i ∷ []) (s ∷ ss) x same = absurd (omega arith)
last_way (i ∷ j ∷ t) [] x same = absurd (omega arith)
last_way (i ∷ j ∷ t) (s ∷ ss) x same =
    swap_sum (pos (last_index (j ∷ t)) *ℤ x) (pos i *ℤ s) (way_to (front_indexes (j ∷ t)) ss) ∙ ap (λ z. (pos i *ℤ s) +ℤ z) (last_way (j ∷ t) ss x (omega arith))

way_moved : (a : ℕ) (t : List ℕ) (ss : List ℤ) → a < length ss → length t ≡ length ss → way_to (from_end a t) ss ≡ way_to t (to_end a ss)
way_moved zero t [] lt same = absurd (omega arith)
way_moved (suc a) t [] lt same = absurd (omega arith)
way_moved zero t (x ∷ ss) lt same = last_way t ss x same
way_moved (suc a) [] (x ∷ ss) lt same = absurd (omega arith)
way_moved (suc a) (i ∷ t) (x ∷ ss) lt same = ap (λ z. (pos i *ℤ x) +ℤ z) (way_moved a t ss (omega arith) (omega arith))

-- THE SAME ELEMENTS by the lengths and strides with the axis behind the others
pub moved_leads : (g : Geo) (strides : List ℤ) (a : ℕ) → HasStrides g strides → a < length g.shape → LeadsTo g strides (to_end a g.shape) (to_end a strides) (from_end a)
moved_leads g strides a has lt =
    let same : length strides ≡ length g.shape = axes (item_size g.element) g.shape strides (get_or g.places 0 0) (2 ^ 64) has.held in
    record {
      limits = limits_to_end (item_size g.element) a g.shape ∙ (facts (item_size g.element) g.shape strides (get_or g.places 0 0) (2 ^ 64) has.held).1;
      long = length-to_end a strides ∙ same ∙ sym (length-to_end a g.shape);
      index = λ t is. inside_moved a g.shape t lt is;
      way = λ t is. way_moved a t strides (omega (arith, same)) (length_index (to_end a g.shape) t is ∙ length-to_end a g.shape ∙ sym same);
    }
