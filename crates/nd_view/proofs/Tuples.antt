-- Index tuples and their numbers.
use Rattle.std.proofs.Common.{◌≡◌, ℕ, zero, suc, ◌+◌, ◌*◌, ◌<◌, List, [], ◌∷◌, ◌++◌, map, length, get_or, refl, sym, ap, ◌∙◌, arith}
use Rattle.std.specs.List.{flat_map}
use Rattle.std.proofs.lemmas.List.{map-append}
use Rattle.nd_model.specs.Arrays.Tuple.{count_up, elements_of, indices, number}

-- ---- lists

pub map-map : {A B C : Type 0} (g : B → C) (f : A → B) (xs : List A) → map g (map f xs) ≡ map (λ x. g (f x)) xs
map-map g f [] = refl
map-map g f (x ∷ xs) = ap (λ ys. g (f x) ∷ ys) (map-map g f xs)

pub map-flat_map : {A B C : Type 0} (g : B → C) (f : A → List B) (xs : List A) → map g (flat_map f xs) ≡ flat_map (λ x. map g (f x)) xs
map-flat_map g f [] = refl
map-flat_map g f (x ∷ xs) = map-append g (f x) (flat_map f xs) ∙ ap (λ zs. map g (f x) ++ zs) (map-flat_map g f xs)

pub map_same : {A B : Type 0} (f g : A → B) (same : (x : A) → f x ≡ g x) (xs : List A) → map f xs ≡ map g xs
map_same f g same xs = λ i. map (λ x. same x i) xs

pub flat_map_same : {A B : Type 0} (f g : A → List B) (same : (x : A) → f x ≡ g x) (xs : List A) → flat_map f xs ≡ flat_map g xs
flat_map_same f g same xs = λ i. flat_map (λ x. same x i) xs

pub nil_of_map : {A B : Type 0} (f : A → B) (xs : List A) → map f xs ≡ [] → xs ≡ []
nil_of_map f [] e = refl
nil_of_map f (x ∷ xs) e = cc

-- ---- numbers in order

pub length-count_up : (from n : ℕ) → length (count_up from n) ≡ n
length-count_up from zero = refl
length-count_up from (suc n) = ap suc (length-count_up (from + 1) n)

pub count_up-append : (from m n : ℕ) → count_up from (m + n) ≡ count_up from m ++ count_up (from + m) n
count_up-append from zero n = let e : 0 + n ≡ n = omega arith in let z : from + 0 ≡ from = omega arith in rw (e, z) refl
count_up-append from (suc m) n =
    let e : suc m + n ≡ suc (m + n) = omega arith in let s : from + suc m ≡ (from + 1) + m = omega arith in
    rw (e, s) (ap (λ xs. from ∷ xs) (count_up-append (from + 1) m n))

-- one number more
pub count_up_more : (from n : ℕ) → count_up from (n + 1) ≡ count_up from n ++ (from + n) ∷ []
count_up_more from n = count_up-append from n 1

pub get_or-count_up : (from n k d : ℕ) → k < n → get_or (count_up from n) k d ≡ from + k
get_or-count_up from zero k d lt = absurd (omega arith)
get_or-count_up from (suc n) zero d lt = omega arith
get_or-count_up from (suc n) (suc k) d lt = get_or-count_up (from + 1) n k d (omega arith) ∙ omega arith

pub shifted : (a from n : ℕ) → map (λ k. a + k) (count_up from n) ≡ count_up (a + from) n
shifted a from zero = refl
shifted a from (suc n) = let e : a + (from + 1) ≡ (a + from) + 1 = omega arith in rw (← e) (ap (λ xs. (a + from) ∷ xs) (shifted a (from + 1) n))

-- n runs of the same length, one behind another
pub runs : (each from n : ℕ) → flat_map (λ i. count_up (i * each) each) (count_up from n) ≡ count_up (from * each) (n * each)
runs each from zero = let e : 0 * each ≡ 0 = omega arith in rw e refl
runs each from (suc n) =
    let e : suc n * each ≡ each + n * each = omega arith in let s : (from + 1) * each ≡ from * each + each = omega arith in
    ap (λ xs. count_up (from * each) each ++ xs) (runs each (from + 1) n ∙ ap (λ k. count_up k (n * each)) s)
    ∙ sym (count_up-append (from * each) each (n * each)) ∙ ap (count_up (from * each)) (sym e)

-- ---- tuples

-- the tuples of a shape have the numbers from 0 on, in order
pub numbers : (shape : List ℕ) → map (number shape) (indices shape) ≡ count_up 0 (elements_of shape)
numbers [] = refl
numbers (n ∷ shape) =
    let each : ℕ = elements_of shape in
    map-flat_map (number (n ∷ shape)) (λ i. map (λ t. i ∷ t) (indices shape)) (count_up 0 n)
    ∙ flat_map_same _ (λ i. count_up (i * each) each) (λ i. map-map (number (n ∷ shape)) (λ t. i ∷ t) (indices shape)
    ∙ sym (map-map (λ k. i * each + k) (number shape) (indices shape)) ∙ ap (map (λ k. i * each + k)) (numbers shape)
    ∙ shifted (i * each) 0 each ∙ ap (λ k. count_up k each) (omega arith)) (count_up 0 n)
    ∙ runs each 0 n ∙ ap (λ k. count_up k (n * each)) (omega arith)

-- where there are no elements there are no tuples
pub no_tuples : (shape : List ℕ) → elements_of shape ≡ 0 → indices shape ≡ []
no_tuples shape e = nil_of_map (number shape) (indices shape) (numbers shape ∙ ap (count_up 0) e)
