-- Booleans by their bytes, and what is known of some of them.
use Rattle.std.proofs.Common.{◌≡◌, ℕ, zero, suc, ◌*◌, ◌<◌, Bool, true, false, not, nat_lt, List, [], ◌∷◌, map, refl, sym, ◌∙◌, arith}
use Rattle.std.specs.Prelude.{ℤ, pos, int_lt, ◌&&◌, ◌||◌, ◌==◌, if◌then◌else◌}
use Rattle.std.specs.List.{list_any, list_all}
use Rattle.std.specs.Int.{w8}
use Rattle.std.proofs.lemmas.Bool.Decides.{nat_tests}
use Rattle.nd_model.specs.Arrays.Content.{number_at}
use Rattle.nd_model.specs.Arrays.Element.{Boolean, UInt8, bytes_at, number_in, size_of, wrap}
use Rattle.nd_model.specs.Making.Elementwise.{little}
use Rattle.nd_model.specs.Making.Operand.{truth_number}
use Rattle.nd_model.specs.Making.Operators.{is_zero}
use Rattle.nd_model.specs.Making.Reductions.{best, greater}
use Rattle.nd_model.specs.Arrays.Tuple.{count_up}
use Rattle.nd_reduce.specs.Folds.Lanes.{numbers_in}
use Rattle.nd_reduce.proofs.folds.Better.{greater_apart, greater_between, less_apart, less_between}
use Rattle.nd_reduce.proofs.folds.Joined.{any_better}
use Rattle.nd_reduce.proofs.folds.Taken.{has_numbers}

true_byte : (n : ℕ) → greater (pos n) (pos 0) ≡ not (is_zero (if n == 0 then pos 0 else pos 1))
true_byte zero = refl
true_byte (suc n) = let some : nat_lt 0 (suc n) ≡ true = grind (arith, nat_tests) in let other : (suc n == 0) ≡ false = grind (arith, nat_tests) in rw other some

false_byte : (n : ℕ) → int_lt (pos n) (pos 1) ≡ is_zero (if n == 0 then pos 0 else pos 1)
false_byte zero = refl
false_byte (suc n) = let none : nat_lt (suc n) 1 ≡ false = grind (arith, nat_tests) in let other : (suc n == 0) ≡ false = grind (arith, nat_tests) in rw other none

any_of_maps : (p q : ℤ → Bool) (f g : ℕ → ℤ) → ((j : ℕ) → p (f j) ≡ q (g j)) → (js : List ℕ) → list_any p (map f js) ≡ list_any q (map g js)
any_of_maps p q f g same [] = refl
any_of_maps p q f g same (j ∷ js) = λ i. same j i || any_of_maps p q f g same js i

module _ (bytes : List ℕ) (n : ℕ) (some : 0 < n) where
  abbrev byte : ℕ → ℕ
  byte j = number_in w8 false (bytes_at bytes (j * 1) 1)

  pub true_by_bytes : greater (best greater (numbers_in UInt8 bytes n)) (pos 0) ≡ list_any (λ z. not (is_zero z)) (numbers_in Boolean bytes n)
  true_by_bytes =
      sym (any_better greater greater_between greater_apart (pos 0) (numbers_in UInt8 bytes n) (has_numbers (λ j. number_at (little UInt8) bytes (j * size_of UInt8)) n some))
      ∙ any_of_maps (λ w. greater w (pos 0)) (λ z. not (is_zero z)) (λ j. number_at (little UInt8) bytes (j * size_of UInt8)) (λ j. number_at (little Boolean) bytes (j * size_of Boolean))
      (λ j. true_byte (byte j)) (count_up 0 n)

  pub false_by_bytes : int_lt (best int_lt (numbers_in UInt8 bytes n)) (pos 1) ≡ list_any is_zero (numbers_in Boolean bytes n)
  false_by_bytes =
      sym (any_better int_lt less_between less_apart (pos 1) (numbers_in UInt8 bytes n) (has_numbers (λ j. number_at (little UInt8) bytes (j * size_of UInt8)) n some))
      ∙ any_of_maps (λ w. int_lt w (pos 1)) is_zero (λ j. number_at (little UInt8) bytes (j * size_of UInt8)) (λ j. number_at (little Boolean) bytes (j * size_of Boolean))
      (λ j. false_byte (byte j)) (count_up 0 n)

-- all pass a test where none passes the other one
pub all_by_any : {A : Type 0} (p : A → Bool) (xs : List A) → list_all (λ x. not (p x)) xs ≡ not (list_any p xs)
all_by_any p [] = refl
all_by_any p (x ∷ xs) = elim (p x) as (λ b. (not b && list_all (λ y. not (p y)) xs) ≡ not (b || list_any p xs)) [ true ↦ refl | false ↦ all_by_any p xs ]

-- a Boolean is known by its number
pub truth_again : (b : Bool) → not (is_zero (wrap Boolean (truth_number b))) ≡ b
truth_again true = refl
truth_again false = refl
