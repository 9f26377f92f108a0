-- The bits of listed elements.
use Rattle.std.proofs.Common.{◌≡◌, ℕ, zero, suc, ◌+◌, ◌%◌, ◌<◌, ◌≤◌, ◌||◌, ◌&&◌, Bool, true, false, not, nat_eq, nat_le, nat_lt, List, [], ◌∷◌, ◌++◌, add-one, length, get_or, take, refl, sym, ap, ap₂, subst, ◌∙◌, inl, inr, arith}
use Rattle.std.specs.List.{All}
use Rattle.std.proofs.lemmas.Grind.{flat_map-append}
use Rattle.std.proofs.lemmas.List.{append-nil, get_or-map, length-map, map-append}
use Rattle.nd_model.specs.Arrays.Tuple.{count_up}
use Rattle.nd_model.specs.Arrays.View.{field_places}
use Rattle.nd_view.proofs.Tuples.{count_up-append}
use Rattle.nd_model.specs.Arrays.Element.{size_of}
use Rattle.nd_types.specs.Fields.{field_of, fields_of}
use Rattle.nd_types.specs.declared.field.Field.{Field}
use Rattle.std.proofs.lemmas.Bool.{cases_lt}
use Rattle.std.proofs.lemmas.Bool.Decides.{nat_tests}
use Rattle.std.proofs.lemmas.Nat.Bits.{bit_at-zero}
use Rattle.nd_marks.specs.Marks.{has_bit}
use Rattle.nd_marks.proofs.Ranges.{combine, unexcepted}

-- the fields of a structure end before a limit
pub ends_before : (limit place : ℕ) (fields : List Field) (i : ℕ) (f : Field) → All (λ h. place + (h.at + size_of h.element.kind) ≤ limit) (fields_of fields) → i < length fields → f ≡ get_or fields i f
    → place + (f.at + size_of f.elem.kind) ≤ limit
ends_before limit place fields i f all lt is =
    let here : get_or (fields_of fields) i (field_of f) ≡ field_of f = get_or-map field_of fields i f (field_of f) lt ∙ sym (ap field_of is) in
    let long : i < length (fields_of fields) = omega (arith, lt, length-map fields field_of) in
    subst (λ h. place + (h.at + size_of h.element.kind) ≤ limit) here (all i (field_of f) long)

-- one field more that begins where those before it end
pub packed_more : (fields : List Field) (i : ℕ) (f : Field) (q end new : ℕ) → i < length fields → f ≡ get_or fields i f → f.at ≡ end → new ≡ end + size_of f.elem.kind
    → field_places q (fields_of (take i fields)) ≡ count_up q end → field_places q (fields_of (take (i + 1) fields)) ≡ count_up q new
packed_more fields i f q end new lt is at more before =
    let split : take (i + 1) fields ≡ take i fields ++ (f ∷ []) = rw add-one (last_taken fields i f lt is) in
    ap (λ fs. field_places q (fields_of fs)) split
    ∙ ap (field_places q) (map-append field_of (take i fields) (f ∷ []))
    ∙ flat_map-append (λ h. count_up (q + h.at) (size_of h.element.kind)) (fields_of (take i fields)) (field_of f ∷ [])
    ∙ ap₂ (λ xs ys. xs ++ ys) before (append-nil (count_up (q + f.at) (size_of f.elem.kind)) ∙ ap (λ a. count_up (q + a) (size_of f.elem.kind)) at)
    ∙ sym (count_up-append q end (size_of f.elem.kind)) ∙ ap (count_up q) (sym more)
  where
    last_taken : (fields : List Field) (i : ℕ) (f : Field) → i < length fields → f ≡ get_or fields i f → take (suc i) fields ≡ take i fields ++ (f ∷ [])
    last_taken [] i f lt is = elim lt [ ]
    last_taken (h ∷ fields) zero f lt is = ap (λ h. h ∷ []) (sym is)
    last_taken (h ∷ fields) (suc i) f lt is = ap (λ fs. h ∷ fs) (last_taken fields i f (omega arith) is)

-- one place more of a range
grown_by_one : (p first k : ℕ) → ((nat_le first p && nat_lt p (first + k)) || (nat_le (first + k) p && nat_lt p ((first + k) + 1))) ≡ (nat_le first p && nat_lt p (first + (k + 1)))
grown_by_one p first k = grind (arith, nat_tests)

at_most_one : (e : ℕ → Bool) (p q : ℕ) → e q ≡ false → (nat_le q p && nat_lt p (q + 1)) ≡ ((nat_le q p && nat_lt p (q + 1)) && not (e p))
at_most_one e p q free = elim (cases_lt p q) [
  | inl lt ↦ let no : (nat_le q p && nat_lt p (q + 1)) ≡ false = grind (arith, nat_tests) in rw no refl
  | inr ge ↦ elim (cases_lt q p) [
    | inl gt ↦ let no : (nat_le q p && nat_lt p (q + 1)) ≡ false = grind (arith, nat_tests) in rw no refl
    | inr le ↦ let at : p ≡ q = omega arith in sym (unexcepted (nat_le q p && nat_lt p (q + 1)) (e p) (ap e at ∙ free))
  ]
]

-- the bit of one place more is set, which is not excepted
pub one_put : (n o w : Bool) (e : ℕ → Bool) (p first k : ℕ) → n ≡ (o || (nat_le (first + k) p && nat_lt p ((first + k) + 1)))
    → o ≡ (w || ((nat_le first p && nat_lt p (first + k)) && not (e p))) → e (first + k) ≡ false
    → n ≡ (w || ((nat_le first p && nat_lt p (first + (k + 1))) && not (e p)))
one_put n o w e p first k set before free =
    set ∙ ap (λ t. t || (nat_le (first + k) p && nat_lt p ((first + k) + 1))) before
    ∙ ap (λ t. (w || ((nat_le first p && nat_lt p (first + k)) && not (e p))) || t) (at_most_one e p (first + k) free)
    ∙ combine w (nat_le first p && nat_lt p (first + k)) (nat_le (first + k) p && nat_lt p ((first + k) + 1)) (e p) true
    ∙ ap (λ t. w || (t && not (e p))) (grown_by_one p first k)

both_excepted : (t u e : Bool) → e ≡ true → (t && not e) ≡ (u && not e)
both_excepted true true e is = refl
both_excepted true false e is = ap not is
both_excepted false true e is = sym (ap not is)
both_excepted false false e is = refl

-- one place more is excepted
pub one_left : (o w : Bool) (e : ℕ → Bool) (p first k : ℕ) → o ≡ (w || ((nat_le first p && nat_lt p (first + k)) && not (e p))) → e (first + k) ≡ true
    → o ≡ (w || ((nat_le first p && nat_lt p (first + (k + 1))) && not (e p)))
one_left o w e p first k before held = before ∙ ap (λ t. w || t) (elim (cases_lt p (first + k)) [
  | inl lt ↦ let same : (nat_le first p && nat_lt p (first + k)) ≡ (nat_le first p && nat_lt p (first + (k + 1))) = grind (arith, nat_tests) in ap (λ t. t && not (e p)) same
  | inr ge ↦ elim (cases_lt (first + k) p) [
    | inl gt ↦ let same : (nat_le first p && nat_lt p (first + k)) ≡ (nat_le first p && nat_lt p (first + (k + 1))) = grind (arith, nat_tests) in ap (λ t. t && not (e p)) same
    | inr le ↦ let at : p ≡ first + k = omega arith in both_excepted (nat_le first p && nat_lt p (first + k)) (nat_le first p && nat_lt p (first + (k + 1))) (e p) (ap e at ∙ held)
  ]
])

-- the words except which bits are set are none
pub nothing_excepted : (h t : Bool) (p : ℕ) → (h || (t && not (has_bit [] p))) ≡ (h || t)
nothing_excepted h t p = ap (λ t. h || t) (unexcepted t (has_bit [] p) (no_bit p))
  where
    no_bit : (p : ℕ) → has_bit [] p ≡ false
    no_bit p = ap (λ b. nat_eq b 1) (bit_at-zero (p % 64))
