-- What is assigned to a target, by the places of the values beside it.
use Rattle.std.proofs.Common.{◌≡◌, ℕ, ℤ, ◌+◌, ◌-◌, ◌*◌, true, List, [], ◌∷◌, map, length, drop, get_or, sym, ap, ◌∙◌, arith}
use Rattle.std.specs.Prelude.{pos, Result, Ok, Err, IfOk}
use Rattle.std.proofs.lemmas.List.{get_or-map, take_at}
use Rattle.nd_model.specs.Making.Assigning.{value_shape, fits_into, assigned_writes}
use Rattle.nd_model.specs.Arrays.Broadcast.{own_tuple}
use Rattle.nd_model.specs.Arrays.Content.{Content, Num, number_at, content_at, all_writes, content_or}
use Rattle.nd_model.specs.Making.Conversion.{converted_content}
use Rattle.nd_model.specs.Cells.Session.{put}
use Rattle.nd_model.specs.Arrays.Tuple.{elements_of, indices, number}
use Rattle.nd_model.specs.Arrays.View.{Geo, One, contiguous}
use Rattle.nd_model.specs.Arrays.Element.{Element, size_of, IsValue, value_of, bytes_of, with_bytes, wrap}
use Rattle.nd_model.proofs.Values.{length-bytes_of, round_trip, wrap_value, wrap_in_range}
use Rattle.nd_view.proofs.Indexed.{same_indexes}
use Rattle.nd_view.proofs.Tuples.{map-map, map_same}
use Rattle.nd_assign.specs.Assigned.{with_elements, with_number}
use Rattle.nd_assign.specs.Copies.{copied_content, with_copies}
use Rattle.nd_assign.specs.Stretched.{value_places}
use Rattle.nd_assign.proofs.Stretched.{own_below, without_nil}

-- what two facts about a value give
pub of_both : {X Y : Type 0} (r : Result X Y) (P Q R : X → Type 0) → ((x : X) → P x → Q x → R x) → IfOk r P → IfOk r Q → IfOk r R
of_both (Ok x) P Q R f p q = f x p q
of_both (Err e) P Q R f p q = tt

pub assigned : (g s : Geo) (bytes old : List ℕ) → fits_into s.shape g.shape ≡ true → length s.places ≡ elements_of s.shape
    → with_copies g.element s.element bytes g.places (value_places s g.shape) old ≡ with_elements g s bytes old
assigned g s bytes old fits count =
    let own = value_shape s.shape g.shape in
    let cs : List Content = map (content_at s.element bytes) s.places in
    ap (λ l. put (all_writes g.element g.places l) old)
    (map-map (copied_content g.element s.element bytes) (λ t. get_or s.places (number own (own_tuple own t)) 0) (indices g.shape)
    ∙ same_indexes (λ t. copied_content g.element s.element bytes (get_or s.places (number own (own_tuple own t)) 0)) (λ t. converted_content g.element (content_or cs (number own (own_tuple own t)))) g.shape
    (λ t is. ap (converted_content g.element) (sym (get_or-map (content_at s.element bytes) s.places (number own (own_tuple own t)) 0 (Num (pos 0)) (own_below s g.shape fits count t is)))))

-- ---- one number

-- a number is read back from the bytes that hold it
pub number_back : (e : Element) (y z : ℤ) (xs bytes : List ℕ) → bytes ≡ with_bytes xs 0 (bytes_of e y) → y ≡ z → IsValue e.kind z → number_at e bytes 0 ≡ z
number_back e y z xs bytes is same value =
    ap (λ l. number_at e l 0) (is ∙ ap (λ v. with_bytes xs 0 (bytes_of e v)) same)
    ∙ ap (value_of e) (take_at (bytes_of e z) (drop (0 + length (bytes_of e z)) xs) (size_of e.kind) (length-bytes_of e z)) ∙ round_trip e z value

pub number_assigned : (g v : Geo) (e : Element) (z : ℤ) (bytes old : List ℕ) → g.element ≡ One e → v ≡ contiguous (One e) [] → number_at e bytes 0 ≡ wrap e.kind z
    → with_elements g v bytes old ≡ with_number g z old
number_assigned g v e z bytes old type is back =
    let own : value_shape v.shape g.shape ≡ [] = ap (λ s. value_shape s g.shape) (ap (λ (h : Geo). h.shape) is) ∙ without_nil (0 - length g.shape) in
    let none : 0 * size_of e.kind ≡ 0 = omega arith in
    let contents : map (content_at v.element bytes) v.places ≡ Num (wrap e.kind z) ∷ []
    = ap (λ (h : Geo). map (content_at h.element bytes) h.places) is ∙ ap (λ p. Num (number_at e bytes p) ∷ []) none ∙ ap (λ y. Num y ∷ []) back in
    let one : (t : List ℕ) → converted_content g.element (content_or (Num (wrap e.kind z) ∷ []) (number [] (own_tuple [] t))) ≡ converted_content g.element (content_or (Num z ∷ []) (number [] (own_tuple [] t)))
    = λ t. (λ i. converted_content (type i) (Num (wrap e.kind z))) ∙ ap Num (wrap_value e.kind (wrap e.kind z) (wrap_in_range e.kind z)) ∙ sym (λ i. converted_content (type i) (Num z)) in
    (λ i. put (assigned_writes g (own i) (contents i)) old)
    ∙ ap (λ l. put (all_writes g.element g.places l) old)
    (map_same (λ t. converted_content g.element (content_or (Num (wrap e.kind z) ∷ []) (number [] (own_tuple [] t)))) (λ t. converted_content g.element (content_or (Num z ∷ []) (number [] (own_tuple [] t)))) one (indices g.shape))
