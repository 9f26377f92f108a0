-- The numbers of a side part by part, and what a function gives of them.
use Rattle.std.proofs.Common.{◌≡◌, ℕ, ◌+◌, ◌*◌, ◌≤◌, ℤ, ◌++◌, map, length, sym, ap, ◌∙◌, arith}
use Rattle.std.proofs.Math.Nat.{mul-le-mul_right}
use Rattle.std.proofs.lemmas.List.{length-map, map-append}
use Rattle.nd_model.specs.Arrays.Element.{Element, size_of}
use Rattle.nd_model.specs.Arrays.Tuple.{count_up}
use Rattle.nd_view.proofs.Tuples.{count_up-append, length-count_up, map-map, map_same, shifted}
use Rattle.nd_ufunc.specs.Loops.Results.{result_bytes}
use Rattle.nd_ufunc.specs.Loops.Sides.{HasNumbers, number_on, numbers_on}
use Rattle.nd_types.specs.Kinds.{kind_of}
use Rattle.nd_ufunc.specs.declared.loops.kernel.Side.{Side}
use Rattle.nd_ufunc.specs.declared.loops.kernel.Side.TheVariants.{Same, Each}
use Rattle.nd_ufunc.proofs.loops.Zipped.{result-append}

pub length-numbers : (s : Side) (n : ℕ) → length (numbers_on s n) ≡ n
length-numbers s n = length-map (count_up 0 n) (number_on s) ∙ length-count_up 0 n

pub on_behind : (s t : Side) (m n : ℕ) → ((j : ℕ) → number_on t j ≡ number_on s (m + j)) → numbers_on s (m + n) ≡ numbers_on s m ++ numbers_on t n
on_behind s t m n same =
    let from : 0 + m ≡ m + 0 = omega arith in
    ap (map (number_on s)) (count_up-append 0 m n) ∙ map-append (number_on s) (count_up 0 m) (count_up (0 + m) n)
    ∙ ap (λ l. numbers_on s m ++ l) (ap (λ k. map (number_on s) (count_up k n)) from ∙ ap (map (number_on s)) (sym (shifted m 0 n))
    ∙ map-map (number_on s) (λ j. m + j) (count_up 0 n) ∙ sym (map_same (number_on t) (λ j. number_on s (m + j)) same (count_up 0 n)))

pub joined : (e : Element) (f : ℤ → ℤ → ℤ) (s t u v : Side) (m n : ℕ) → ((j : ℕ) → number_on u j ≡ number_on s (m + j)) → ((j : ℕ) → number_on v j ≡ number_on t (m + j))
    → result_bytes e f (numbers_on s m) (numbers_on t m) ++ result_bytes e f (numbers_on u n) (numbers_on v n) ≡ result_bytes e f (numbers_on s (m + n)) (numbers_on t (m + n))
joined e f s t u v m n left right =
    sym (result-append e f (numbers_on s m) (numbers_on t m) (numbers_on u n) (numbers_on v n) (length-numbers s m ∙ sym (length-numbers t m)))
    ∙ (λ i. result_bytes e f (sym (on_behind s u m n left) i) (sym (on_behind t v m n right) i))

-- a side that has many numbers has fewer
pub fewer : (s : Side) (m n : ℕ) → m ≤ n → HasNumbers s n → HasNumbers s m
fewer (Same z) m n le has = has
fewer (Each bytes k) m n le has = omega (arith, has, mul-le-mul_right (size_of (kind_of k)) le)
