-- The numbers of an operand as they stand in a greater shape.
use Rattle.std.proofs.Common.{◌≡◌, ℕ, ◌+◌, ◌<◌, ◌≤◌, ℤ, pos, true, false, List, [], ◌∷◌, map, length, replicate, get_or, refl, sym, ap, ◌∙◌, subst, arith}
use Rattle.std.specs.List.{All}
use Rattle.std.proofs.lemmas.List.{get_or-map}
use Rattle.nd_model.specs.Arrays.Broadcast.{broadcasts_to, broadcast_view, own_tuple}
use Rattle.nd_model.specs.Arrays.Content.{Num, number_at, content_at, content_or, number_in, array_bytes}
use Rattle.nd_model.specs.Arrays.Element.{Element, Kind}
use Rattle.nd_model.specs.Making.Elementwise.{number_beside, little}
use Rattle.nd_model.specs.Making.Operand as operand
use Rattle.nd_model.specs.Cells.Sound.{LiesIn}
use Rattle.nd_model.specs.Arrays.Tuple.{indices, number, elements_of}
use Rattle.nd_model.specs.Arrays.View.{One, Geo, item_size}
use Rattle.nd_model.proofs.Contents.{numbers_bytes}
use Rattle.nd_model.proofs.Taking.{spread_within}
use Rattle.nd_model.proofs.Tuples.{length-indices, number_below}
use Rattle.nd_model.proofs.Uses.{used_numbers}
use Rattle.nd_element.specs.Elements.{AreHeld, numbers_at}
use Rattle.nd_view.proofs.Indexed.{same_indexes}
use Rattle.nd_view.proofs.Tuples.{map-map}
use Rattle.nd_shape.proofs.Rearranged.{tuple_of_index}
use Rattle.nd_shape.proofs.Stretches.{own_index}
use Rattle.nd_ufunc.specs.Elementwise.Arguments.{contents_over, numbers_beside}
use Rattle.nd_ufunc.specs.Loops.Results.{result_bytes}
use Rattle.nd_ufunc.proofs.loops.Zipped.{by_items}

-- one number stands everywhere
pub all_alike : {A : Type 0} (z : ℤ) (xs : List A) → map (λ x. z) xs ≡ replicate (length xs) z
all_alike z [] = refl
all_alike z (x ∷ xs) = ap (λ l. z ∷ l) (all_alike z xs)

pub plain_beside : (n : operand.Number) (shape : List ℕ) → replicate (elements_of shape) (operand.number_of n) ≡ numbers_beside (operand.Plain n) shape
plain_beside n shape = sym (all_alike (operand.number_of n) (indices shape) ∙ ap (λ m. replicate m (operand.number_of n)) (length-indices shape))

module _ (g : Geo) (e : Element) (bytes : List ℕ) (one : g.element ≡ One e) (lies : LiesIn (length bytes) g) where
  held : AreHeld e bytes g.places
  held = subst (λ t. All (λ p. p + item_size t ≤ length bytes) g.places) one lies.inside

  contents_are : contents_over g bytes ≡ map (content_at (One e) bytes) g.places
  contents_are = rw one (used_numbers e bytes g.places held)

  at_number : (k : ℕ) → k < length g.places → number_at e bytes (get_or g.places k 0) ≡ number_in (content_or (contents_over g bytes) k)
  at_number k lt = sym (ap (λ cs. number_in (content_or cs k)) contents_are ∙ ap number_in (get_or-map (content_at (One e) bytes) g.places k 0 (Num (pos 0)) lt))

  module _ (shape : List ℕ) (fits : broadcasts_to g.shape shape ≡ true) where
    pub beside_is : numbers_at e bytes (broadcast_view g shape).places ≡ numbers_beside (operand.Elements false g (contents_over g bytes)) shape
    beside_is =
        map-map (number_at e bytes) (λ t. get_or g.places (number g.shape (own_tuple g.shape t)) 0) (indices shape)
        ∙ same_indexes (λ t. number_at e bytes (get_or g.places (number g.shape (own_tuple g.shape t)) 0)) (number_beside (operand.Elements false g (contents_over g bytes))) shape
        (λ t is. at_number (number g.shape (own_tuple g.shape t))
        (let below = number_below g.shape (own_tuple g.shape t) (tuple_of_index g.shape (own_tuple g.shape t) (own_index g.shape shape t fits is)) in omega (arith, below, lies.count)))

    pub beside_held : AreHeld e bytes (broadcast_view g shape).places
    beside_held = subst (λ t. All (λ p. p + item_size t ≤ length bytes) (broadcast_view g shape).places) one (spread_within (length bytes) g shape lies fits).1

-- the bytes of an array of what a function gives
pub array_of_results : (k : Kind) (f : ℤ → ℤ → ℤ) (shape : List ℕ) (x y : List ℕ → ℤ)
    → result_bytes (little k) f (map x (indices shape)) (map y (indices shape)) ≡ array_bytes (One (little k)) shape (λ t. Num (f (x t) (y t)))
array_of_results k f shape x y = sym (numbers_bytes (little k) shape (λ t. f (x t) (y t)) ∙ by_items (little k) f x y (indices shape))
