-- The places that are written: those of the bytes of the elements.
use Rattle.std.proofs.Common.{◌≡◌, ℕ, ℤ, pos, ◌+◌, ◌<◌, Bool, true, false, List, [], ◌∷◌, ◌++◌, map, length, get_or, refl, sym, ap, ap₂, ◌∙◌, arith}
use Rattle.std.specs.Prelude.{nat_eq, ◌||◌}
use Rattle.std.specs.List.{flat_map, zip}
use Rattle.std.proofs.lemmas.List.{length-map, get_or-map}
use Rattle.nd_model.specs.Making.Assigning.{value_shape}
use Rattle.nd_model.specs.Arrays.Broadcast.{own_tuple}
use Rattle.nd_model.specs.Arrays.Content.{Content, Num, Rec, number_in, number_at, content_at, number_writes, field_writes, writes, all_writes, content_or}
use Rattle.nd_model.specs.Making.Conversion.{converts, converted_content}
use Rattle.nd_model.specs.Making.Creation.{is_number_type}
use Rattle.nd_model.specs.Arrays.Element.{Element, size_of, bytes_of, wrap}
use Rattle.nd_model.specs.Cells.Session.{is_in, is_place}
use Rattle.nd_model.specs.Arrays.Tuple.{count_up, elements_of, indices, number}
use Rattle.nd_model.specs.Arrays.View.{Field, ElementType, One, Structure, element_places, field_places}
use Rattle.nd_model.proofs.Values.{length-bytes_of}
use Rattle.nd_view.specs.Indexes.{IsIndex}
use Rattle.nd_view.proofs.Indexed.{length-indices, same_indexes}
use Rattle.nd_view.proofs.Tuples.{length-count_up}
use Rattle.nd_assign.specs.AssignedPlaces.{AssignedPlaces}
use Rattle.nd_assign.proofs.SameTypes.{same_structure}
use Rattle.nd_assign.proofs.Stretched.{own_below}

or_assoc : (a b c : Bool) → ((a || b) || c) ≡ (a || (b || c))
or_assoc true b c = refl
or_assoc false b c = refl

module _ (p : ℕ) where
  in_append : (xs ys : List ℕ) → is_in p (xs ++ ys) ≡ (is_in p xs || is_in p ys)
  in_append [] ys = refl
  in_append (x ∷ xs) ys = ap (λ b. nat_eq p x || b) (in_append xs ys) ∙ sym (or_assoc (nat_eq p x) (is_in p xs) (is_in p ys))

  place_append : (vs ws : List (ℕ × ℕ)) → is_place p (vs ++ ws) ≡ (is_place p vs || is_place p ws)
  place_append [] ws = refl
  place_append (v ∷ vs) ws = ap (λ b. nat_eq p v.0 || b) (place_append vs ws) ∙ sym (or_assoc (nat_eq p v.0) (is_place p vs) (is_place p ws))

  -- what two parts write
  both_parts : (xs ys : List ℕ) (vs ws : List (ℕ × ℕ)) → is_in p xs ≡ is_place p vs → is_in p ys ≡ is_place p ws → is_in p (xs ++ ys) ≡ is_place p (vs ++ ws)
  both_parts xs ys vs ws first rest = in_append xs ys ∙ ap₂ (λ a b. a || b) first rest ∙ sym (place_append vs ws)

  zipped : (xs ys : List ℕ) → length xs ≡ length ys → is_in p xs ≡ is_place p (zip xs ys)
  zipped [] ys same = refl
  zipped (x ∷ xs) [] same = absurd (omega (arith, same))
  zipped (x ∷ xs) (y ∷ ys) same = ap (λ b. nat_eq p x || b) (zipped xs ys (omega (arith, same)))

  of_number : (e : Element) (q : ℕ) (z : ℤ) → is_in p (count_up q (size_of e.kind)) ≡ is_place p (number_writes e q z)
  of_number e q z = zipped (count_up q (size_of e.kind)) (bytes_of e z) (length-count_up q (size_of e.kind) ∙ sym (length-bytes_of e z))

  of_fields : (q : ℕ) (fs : List Field) (zs : List ℤ) → length zs ≡ length fs → is_in p (field_places q fs) ≡ is_place p (field_writes q fs zs)
  of_fields q [] zs same = refl
  of_fields q (f ∷ fs) [] same = absurd (omega (arith, same))
  of_fields q (f ∷ fs) (z ∷ zs) same =
      both_parts (count_up (q + f.at) (size_of f.element.kind)) (field_places q fs) (number_writes f.element (q + f.at) z) (field_writes q fs zs)
      (of_number f.element (q + f.at) z) (of_fields q fs zs (omega (arith, same)))

  -- each of the contents is of the type
  of_all : {X : Type 0} (t : ElementType) (content : X → Content) → ((q : ℕ) (x : X) → is_in p (element_places t q) ≡ is_place p (writes t q (content x)))
      → (qs : List ℕ) (xs : List X) → length qs ≡ length xs → is_in p (flat_map (element_places t) qs) ≡ is_place p (all_writes t qs (map content xs))
  of_all t content each [] xs same = refl
  of_all t content each (q ∷ qs) [] same = absurd (omega (arith, same))
  of_all t content each (q ∷ qs) (x ∷ xs) same =
      both_parts (element_places t q) (flat_map (element_places t) qs) (writes t q (content x)) (all_writes t qs (map content xs))
      (each q x) (of_all t content each qs xs (omega (arith, same)))

  module _ (places shape : List ℕ) (count : length places ≡ elements_of shape) where
    -- numbers, whatever is assigned
    numbers : (e : Element) (content : List ℕ → Content)
        → is_in p (flat_map (element_places (One e)) places) ≡ is_place p (all_writes (One e) places (map (λ t. converted_content (One e) (content t)) (indices shape)))
    numbers e content = of_all (One e) (λ t. converted_content (One e) (content t)) (λ q t. of_number e q (wrap e.kind (number_in (content t)))) places (indices shape) (count ∙ sym (length-indices shape))

    structures : (fs : List Field) (size : ℕ) (own qs bytes : List ℕ) → ((t : List ℕ) → IsIndex shape t → number own (own_tuple own t) < length qs)
        → is_in p (flat_map (element_places (Structure fs size)) places)
        ≡ is_place p (all_writes (Structure fs size) places (map (λ t. content_or (map (content_at (Structure fs size) bytes) qs) (number own (own_tuple own t))) (indices shape)))
    structures fs size own qs bytes below =
        let n : List ℕ → ℕ = λ t. number own (own_tuple own t) in
        let zs : List ℕ → List ℤ = λ t. map (λ (f : Field). number_at f.element bytes (get_or qs (n t) 0 + f.at)) fs in
        of_all (Structure fs size) (λ t. Rec (zs t)) (λ q t. of_fields q fs (zs t) (length-map fs (λ (f : Field). number_at f.element bytes (get_or qs (n t) 0 + f.at)))) places (indices shape) (count ∙ sym (length-indices shape))
        ∙ ap (λ cs. is_place p (all_writes (Structure fs size) places cs))
        (same_indexes (λ t. Rec (zs t)) (λ t. content_or (map (content_at (Structure fs size) bytes) qs) (n t)) shape
        (λ t is. sym (get_or-map (content_at (Structure fs size) bytes) qs (n t) 0 (Num (pos 0)) (below t is))))

    elements : (to from : ElementType) (own qs bytes : List ℕ) → converts from to ≡ true → ((t : List ℕ) → IsIndex shape t → number own (own_tuple own t) < length qs)
        → is_in p (flat_map (element_places to) places)
        ≡ is_place p (all_writes to places (map (λ t. converted_content to (content_or (map (content_at from bytes) qs) (number own (own_tuple own t)))) (indices shape)))
    elements (One e) from own qs bytes types below = numbers e (λ t. content_or (map (content_at from bytes) qs) (number own (own_tuple own t)))
    elements (Structure fs n) (One d) own qs bytes types below = cc
    elements (Structure fs n) (Structure gs m) own qs bytes types below =
        structures fs n own qs bytes below
        ∙ ap (λ t. is_place p (all_writes (Structure fs n) places (map (λ i. content_or (map (content_at t bytes) qs) (number own (own_tuple own i))) (indices shape)))) (sym (same_structure gs fs m n types))

    one_number : (t : ElementType) (content : List ℕ → Content) → is_number_type t ≡ true
        → is_in p (flat_map (element_places t) places) ≡ is_place p (all_writes t places (map (λ i. converted_content t (content i)) (indices shape)))
    one_number (One e) content is = numbers e content
    one_number (Structure fs n) content is = cc

pub assigned_places : AssignedPlaces
assigned_places = record {
  elements = λ g s bytes count from_count types fits p.
      elements p g.places g.shape count g.element s.element (value_shape s.shape g.shape) s.places bytes types (own_below s g.shape fits from_count);
  number = λ g z count is p. one_number p g.places g.shape count g.element (λ t. content_or (Num z ∷ []) (number [] (own_tuple [] t))) is;
  numbers = λ g content count is p. one_number p g.places g.shape count g.element content is;
}
