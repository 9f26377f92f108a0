-- Whether an axis other than the one that is folded has length 0.
use Rattle.std.proofs.Common.{◌≡◌, ℕ, ◌+◌, ◌-◌, ◌*◌, ◌<◌, ◌≤◌, Bool, true, false, nat_eq, List, length, take, drop, Option, Some, sym, ap, ◌∙◌, arith, length-drop, take_all}
use Rattle.std.specs.Prelude.{◌==◌}
use Rattle.std.specs.List.{list_any}
use Rattle.std.proofs.lemmas.Bool.Decides.{nat_tests}
use Rattle.std.proofs.Math.Nat.{mul-le-mul_left}
use Rattle.nd_model.specs.Making.Reductions.{reduced_shape}
use Rattle.nd_model.specs.Arrays.Tuple.{elements_of}
use Rattle.nd_view.proofs.Counts.{none, some}
use Rattle.nd_reduce.proofs.axes.Moved.{elements-append}

-- the items behind a place
pub tail_is : {X : Type 0} (k : ℕ) (xs : List X) → take (length xs - k) (drop k xs) ≡ drop k xs
tail_is k xs = take_all (length xs - k) (drop k xs) (omega (arith, length-drop k xs))

abbrev has_zero : List ℕ → Bool
has_zero xs = list_any (λ y. nat_eq y 0) xs

zero_test : (n : ℕ) → n ≡ 0 → (n == 0) ≡ true
zero_test n e = ap (λ m. m == 0) e

some_test : (n : ℕ) → 0 < n → (n == 0) ≡ false
some_test n lt = grind (arith, nat_tests)

module _ (axis : Option ℕ) (a : ℕ) (shape : List ℕ) (is : axis ≡ Some a) where
  abbrev front : List ℕ
  front = take a shape

  abbrev behind : List ℕ
  behind = drop (a + 1) shape

  all : elements_of (reduced_shape axis false shape) ≡ elements_of front * elements_of behind
  all = ap (λ o. elements_of (reduced_shape o false shape)) is ∙ elements-append front behind

  pub front_empty : (r : Bool) → r ≡ has_zero front → r ≡ true → r ≡ (elements_of (reduced_shape axis false shape) == 0)
  front_empty r e t =
      let z : elements_of (reduced_shape axis false shape) ≡ 0 = all ∙ ap (λ n. n * elements_of behind) (none front (sym e ∙ t)) ∙ omega arith in
      t ∙ sym (zero_test (elements_of (reduced_shape axis false shape)) z)

  pub behind_empty : (q r : Bool) (xs : List ℕ) → q ≡ has_zero front → q ≡ false → xs ≡ behind → r ≡ has_zero xs → r ≡ (elements_of (reduced_shape axis false shape) == 0)
  behind_empty q true xs e f same g =
      let z : elements_of (reduced_shape axis false shape) ≡ 0 = all ∙ ap (λ n. elements_of front * n) (none behind (ap has_zero (sym same) ∙ sym g)) ∙ omega arith in
      sym (zero_test (elements_of (reduced_shape axis false shape)) z)
  behind_empty q false xs e f same g =
      let x : 0 < elements_of front = some front (sym e ∙ f) in
      let y : 0 < elements_of behind = some behind (ap has_zero (sym same) ∙ sym g) in
      sym (some_test (elements_of (reduced_shape axis false shape)) (positive (elements_of front) (elements_of behind) (elements_of (reduced_shape axis false shape)) x y all))
    where
      positive : (x y n : ℕ) → 0 < x → 0 < y → n ≡ x * y → 0 < n
      positive x y n lt lt' e = let le : x * 1 ≤ x * y = mul-le-mul_left x lt' in omega arith
