-- Shapes with their axes the other way round.
use Rattle.std.proofs.Common.{◌≡◌, ℕ, zero, suc, ◌-◌, ◌<◌, List, [], ◌∷◌, map, length, get_or, refl, sym, ap, ◌∙◌, arith}
use Rattle.std.specs.Prelude.{true, false, reverse}
use Rattle.std.proofs.lemmas.List.{length-map, get_or-map, same_lists, get_or-reverse, length-reverse, reverse-reverse}
use Rattle.nd_model.specs.Arrays.Content.{array_bytes, content_at, content_in_order}
use Rattle.nd_model.specs.Arrays.Strides.{limit_fault, IsInLimits}
use Rattle.nd_model.specs.Indexing.Transposing.{count_down, reversed_view}
use Rattle.nd_model.specs.Arrays.View.{ElementType, Geo, item_size, contiguous}
use Rattle.nd_model.proofs.Transposed.{down_is, same_limits}
use Rattle.nd_npy.specs.Header.Gives.{elements_block}

at_default : (xs : List ℕ) (k d e : ℕ) → k < length xs → get_or xs k d ≡ get_or xs k e
at_default [] k d e lt = absurd (omega arith)
at_default (x ∷ xs) zero d e lt = refl
at_default (x ∷ xs) (suc k) d e lt = at_default xs k d e (omega arith)

down_at : (n k d : ℕ) → k < n → get_or (count_down n) k d ≡ n - 1 - k
down_at zero k d lt = absurd (omega arith)
down_at (suc n) zero d lt = omega arith
down_at (suc n) (suc k) d lt = down_at n k d (omega arith) ∙ omega arith

-- the lengths by a count downwards
turned_lengths : (s : List ℕ) → map (λ a. get_or s a 0) (count_down (length s)) ≡ reverse s
turned_lengths s =
    let n = length s in let long : length (count_down n) ≡ n = (down_is n).long in
    same_lists (map (λ a. get_or s a 0) (count_down n)) (reverse s) (length-map (count_down n) (λ a. get_or s a 0) ∙ long ∙ sym (length-reverse s)) (λ k d lt.
    let few : k < n = omega (arith, length-map (count_down n) (λ a. get_or s a 0)) in
    let back : n - 1 - k < n = omega arith in
    get_or-map (λ a. get_or s a 0) (count_down n) k 0 d (omega arith) ∙ ap (λ a. get_or s a 0) (down_at n k 0 few)
    ∙ at_default s (n - 1 - k) 0 d back ∙ sym (get_or-reverse s k d few))

-- the other way round there are as many axes and elements
turned_limits : (size : ℕ) (s : List ℕ) → IsInLimits size s → IsInLimits size (reverse s)
turned_limits size s limits = ap (limit_fault size) (sym (turned_lengths s)) ∙ same_limits s (count_down (length s)) (down_is (length s)) size ∙ limits

pub in_limits : (t u : ElementType) (s r : List ℕ) → u ≡ t → r ≡ reverse s → IsInLimits (item_size t) s → IsInLimits (item_size u) r
in_limits t u s r type_is is limits = (λ i. limit_fault (item_size (type_is i)) (is i)) ∙ turned_limits (item_size t) s limits

-- the view of elements in Fortran order
pub fortran_view : (t u : ElementType) (s r : List ℕ) (file view : Geo) → u ≡ t → r ≡ reverse s → file ≡ contiguous u r → view ≡ reversed_view file
    → view ≡ reversed_view (contiguous t (reverse s))
fortran_view t u s r file view type_is is file_is view_is = view_is ∙ ap reversed_view (file_is ∙ (λ i. contiguous (type_is i) (is i)))

-- the block of elements in Fortran order
pub fortran_block : (t : ElementType) (shape bytes : List ℕ) (v : Geo) (b : List ℕ) → v ≡ reversed_view (contiguous t (reverse shape))
    → b ≡ array_bytes v.element v.shape (content_in_order v.shape (map (content_at v.element bytes) v.places))
    → b ≡ elements_block t true shape bytes
fortran_block t shape bytes v b is block =
    block ∙ ap (λ (g : Geo). array_bytes g.element g.shape (content_in_order g.shape (map (content_at g.element bytes) g.places))) is
    ∙ ap (λ s. array_bytes t s (content_in_order s (map (content_at t bytes) (reversed_view (contiguous t (reverse shape))).places))) (turned_lengths (reverse shape) ∙ reverse-reverse shape)

-- the block of elements in C order
pub c_block : (v : Geo) (bytes b : List ℕ) → v ≡ contiguous v.element v.shape
    → b ≡ array_bytes v.element v.shape (content_in_order v.shape (map (content_at v.element bytes) v.places))
    → b ≡ elements_block v.element false v.shape bytes
c_block v bytes b alone block =
    block ∙ ap (λ ps. array_bytes v.element v.shape (content_in_order v.shape (map (content_at v.element bytes) ps))) (ap (λ (g : Geo). g.places) alone)
