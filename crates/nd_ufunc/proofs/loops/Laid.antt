-- A number that is laid out is read back.
use Rattle.std.proofs.Common.{◌≡◌, ℕ, ℤ, pos, ◌*◌, ◌<◌, Bool, true, false, List, [], map, length, get_or, refl, sym, ap, ◌∙◌, arith}
use Rattle.std.specs.Prelude.{if◌then◌else◌, int_le}
use Rattle.std.specs.List.{flat_map}
use Rattle.nd_model.specs.Arrays.Content.{number_at}
use Rattle.nd_model.specs.Arrays.Element.{Element, Kind, IsValue, bytes_of, size_of, wrap}
use Rattle.nd_model.specs.Arrays.Tuple.{count_up}
use Rattle.nd_model.specs.Making.Elementwise.{little}
use Rattle.nd_model.specs.Making.Operators.{Maximum}
use Rattle.nd_model.proofs.Values.{wrap_value, wrap_in_range}
use Rattle.nd_view.proofs.Tuples.{length-count_up}
use Rattle.nd_ufunc.specs.Loops.Results.{binary_result, result_bytes}
use Rattle.nd_ufunc.proofs.loops.Cycles.{at_counted}
use Rattle.nd_ufunc.proofs.loops.SideBySide.{behind}
use Rattle.nd_ufunc.proofs.loops.Zipped.{by_items}

either : (t : Bool) (z : ℤ) → (if t then z else z) ≡ z
either true z = refl
either false z = refl

greater : (k : Kind) (z : ℤ) → IsValue k z → binary_result Maximum k z z ≡ z
greater k z held = ap (wrap k) (either (int_le z z) z) ∙ wrap_value k z held

pub laid : (k : Kind) (z : ℤ) (m : ℕ) (out : List ℕ) → IsValue k z
    → out ≡ result_bytes (little k) (binary_result Maximum k) (map (λ j. z) (count_up 0 m)) (map (λ j. z) (count_up 0 m))
    → (j : ℕ) → j < m → number_at (little k) out (j * size_of k) ≡ z
laid k z m out held is j lt =
    let e : Element = little k in let xs : List ℕ = count_up 0 m in let y : ℤ = binary_result Maximum k z z in
    let bytes : List ℕ = flat_map (λ x. bytes_of e y) xs in
    let whole : out ≡ bytes = is ∙ sym (by_items e (binary_result Maximum k) (λ j. z) (λ j. z) xs) in
    let counted : length xs ≡ m = length-count_up 0 m in
    let back : map (λ i. number_at e bytes (i * size_of k)) (count_up 0 (length xs)) ≡ map (λ x. y) xs
    = behind e (λ x. y) (λ x. wrap_in_range k _) [] xs 0 (omega arith) in
    ap (λ l. number_at e l (j * size_of k)) whole
    ∙ sym (at_counted (λ i. number_at e bytes (i * size_of k)) m j lt)
    ∙ ap (λ n. get_or (map (λ i. number_at e bytes (i * size_of k)) (count_up 0 n)) j (pos 0)) (sym counted)
    ∙ ap (λ l. get_or l j (pos 0)) back ∙ at_counted (λ x. y) m j lt ∙ greater k z held
