-- How many keys and bytes a change has.
use Rattle.std.proofs.Common.{◌≡◌, ℕ, ◌+◌, suc, zero, List, [], ◌∷◌, map, take, length, slice_get, Global, Some, refl, sym, ap, ◌∙◌, arith}
use Rattle.std.specs.List.{sum, sum_by}
use Rattle.std.proofs.lemmas.List.Sums.{sum-map, sum_by-cons}
use Rattle.std.specs.declared.rc.RcStr.{RcStr}
use Rattle.nd_heap.specs.declared.value.Base.{Base}
use Rattle.nd_model.specs.Arrays.Value as model
use Rattle.nd_heap.specs.Values.{base_of, entries_of}
use Rattle.nd_session.specs.Session.Found.{by_base}
use Rattle.nd_session.proofs.session.Standing.{none_some, same_some}

pub length-entries : {V A : Type 0} (f : V → A) (es : List (RcStr Global × V)) → length (entries_of f es) ≡ length es
length-entries f [] = refl
length-entries f (e ∷ es) = ap suc (length-entries f es)

-- the sum with one more
by_more : {X : Type 0} (f : X → ℕ) (xs : List X) (i : ℕ) (x : X) → slice_get xs i ≡ Some x → sum_by f (take (suc i) xs) ≡ sum_by f (take i xs) + f x
by_more f [] i x at = none_some x at
by_more {X} f (y ∷ ys) zero x at = let here : f y ≡ f x = ap f (same_some y x at) in let one = sum_by-cons f y [] in omega (arith, here, one)
by_more f (y ∷ ys) (suc i) x at =
    let rest = by_more f ys i x at in
    let more = sum_by-cons f y (take (suc i) ys) in
    let fewer = sum_by-cons f y (take i ys) in
    omega (arith, rest, more, fewer)

pub sum_more : {X : Type 0} (f : X → ℕ) (xs : List X) (i : ℕ) (x : X) → slice_get xs i ≡ Some x → sum (map f (take (suc i) xs)) ≡ sum (map f (take i xs)) + f x
sum_more f xs i x at = sum-map f (take (suc i) xs) ∙ by_more f xs i x at ∙ ap (λ n. n + f x) (sym (sum-map f (take i xs)))

by_base_sum : {V A : Type 0} (f : V → A) (g : A → ℕ) (es : List (Base × V)) → sum_by (λ (e : Base × V). g (f e.1)) es ≡ sum_by (λ (e : model.Base × A). g e.1) (by_base f es)
by_base_sum f g [] = refl
by_base_sum f g (e ∷ es) = sum_by-cons (λ e. g (f e.1)) e es ∙ ap (λ n. g (f e.1) + n) (by_base_sum f g es) ∙ sym (sum_by-cons (λ e. g e.1) (base_of e.0, f e.1) (by_base f es))

pub sum-by_base : {V A : Type 0} (f : V → A) (g : A → ℕ) (es : List (Base × V)) → sum (map (λ (e : Base × V). g (f e.1)) es) ≡ sum (map (λ (e : model.Base × A). g e.1) (by_base f es))
sum-by_base f g es = sum-map (λ e. g (f e.1)) es ∙ by_base_sum f g es ∙ sym (sum-map (λ e. g e.1) (by_base f es))
