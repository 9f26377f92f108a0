-- A new array of numbers lies alone in its block, and has the numbers that were written there.
use Rattle.std.proofs.Common.{◌≡◌, ℕ, ℤ, zero, suc, ◌+◌, ◌*◌, ◌<◌, ◌≤◌, List, [], map, length, refl, sym, ap, subst, ◌∙◌, arith}
use Rattle.std.specs.List.{All, flat_map}
use Rattle.std.proofs.Math.Nat.{mul-le-mul_right}
use Rattle.std.proofs.lemmas.List.{length-map}
use Rattle.std.proofs.lemmas.List.Elements.{All-nil, All-cons}
use Rattle.nd_model.specs.Arrays.Content.{Num, content_at, number_at}
use Rattle.nd_model.specs.Arrays.Element.{Element, IsValue, bytes_of, size_of}
use Rattle.nd_model.specs.Arrays.Tuple.{count_up, elements_of, indices}
use Rattle.nd_model.specs.Arrays.View.{One, contiguous}
use Rattle.nd_model.proofs.Tuples.{length-count_up, length-indices}
use Rattle.nd_model.proofs.Uses.{used_numbers}
use Rattle.nd_view.proofs.Tuples.{map-map}
use Rattle.nd_ufunc.specs.Elementwise.Arguments.{contents_over}
use Rattle.nd_ufunc.proofs.loops.SideBySide.{behind}
use Rattle.nd_ufunc.proofs.loops.Zipped.{by_items, length-result}

in_run : (size k n : ℕ) → k < n → k * size + size ≤ n * size
in_run size k n lt = omega (arith, mul-le-mul_right size lt)

places_in_run : (size : ℕ) (from many n : ℕ) → from + many ≤ n → All (λ p. p + size ≤ n * size) (map (λ k. k * size) (count_up from many))
places_in_run size from zero n le = All-nil (λ p. p + size ≤ n * size)
places_in_run size from (suc many) n le =
    All-cons (λ p. p + size ≤ n * size) (from * size) _ (in_run size from n (omega arith)) (places_in_run size (from + 1) many n (omega arith))

module _ (e : Element) (shape : List ℕ) where
  -- each number ends in the block
  pub held_alone : (len : ℕ) → len ≡ elements_of shape * size_of e.kind → All (λ p. p + size_of e.kind ≤ len) (contiguous (One e) shape).places
  held_alone len same = subst (λ n. All (λ p. p + size_of e.kind ≤ n) (contiguous (One e) shape).places) (sym same) (places_in_run (size_of e.kind) 0 (elements_of shape) (elements_of shape) (omega arith))

  pub count_alone : length (contiguous (One e) shape).places ≡ elements_of shape
  count_alone = length-map (count_up 0 (elements_of shape)) (λ k. k * size_of e.kind) ∙ length-count_up 0 (elements_of shape)

  module _ (f : List ℕ → ℤ) (valid : (t : List ℕ) → IsValue e.kind (f t)) (block : List ℕ) (is : block ≡ flat_map (λ t. bytes_of e (f t)) (indices shape)) where
    pub length-alone : length block ≡ elements_of shape * size_of e.kind
    length-alone =
        ap length (is ∙ by_items e (λ x y. x) f f (indices shape)) ∙ length-result e (λ x y. x) (map f (indices shape)) (map f (indices shape)) refl
        ∙ ap (λ n. n * size_of e.kind) (length-map (indices shape) f ∙ length-indices shape)

    -- the contents at the places
    pub contents_at : map (content_at (One e) block) (contiguous (One e) shape).places ≡ map (λ t. Num (f t)) (indices shape)
    contents_at =
        map-map (content_at (One e) block) (λ k. k * size_of e.kind) (count_up 0 (elements_of shape))
        ∙ (λ i. map (λ j. Num (number_at e (is i) (j * size_of e.kind))) (count_up 0 (sym (length-indices shape) i)))
        ∙ sym (map-map Num (λ j. number_at e (flat_map (λ t. bytes_of e (f t)) (indices shape)) (j * size_of e.kind)) (count_up 0 (length (indices shape))))
        ∙ ap (map Num) (behind e f valid [] (indices shape) 0 (omega arith)) ∙ map-map Num f (indices shape)

    pub contents_alone : contents_over (contiguous (One e) shape) block ≡ map (λ t. Num (f t)) (indices shape)
    contents_alone = used_numbers e block (contiguous (One e) shape).places (held_alone (length block) length-alone) ∙ contents_at
