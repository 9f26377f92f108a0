-- What is written for an element: a byte for each place in it.
use Rattle.std.proofs.Common.{◌≡◌, ◌≢◌, ◌⊎◌, ℕ, ℤ, ◌+◌, ◌<◌, ◌≤◌, zero, suc, true, false, List, [], ◌∷◌, ◌++◌, inl, inr, map, length, refl, sym, ap, ap₂, ◌∙◌, arith, length-append}
use Rattle.std.specs.Prelude.{nat_eq}
use Rattle.std.specs.List.{All, zip}
use Rattle.std.proofs.lemmas.Bool.{or_cases, or_from, or_left, or_right, or_parts, eqb-true, eqb-false, ne_eqb}
use Rattle.std.proofs.lemmas.List.{map-append}
use Rattle.std.proofs.lemmas.List.Elements.{All-head, All-tail}
use Rattle.nd_model.specs.Arrays.Content.{Content, Num, Rec, number_writes, field_writes, writes}
use Rattle.nd_model.specs.Arrays.Element.{size_of, bytes_of}
use Rattle.nd_model.specs.Cells.Session.{is_in, is_place}
use Rattle.nd_model.specs.Arrays.Tuple.{count_up}
use Rattle.nd_model.specs.Arrays.View.{Field, ElementType, One, Structure, item_size, element_places, field_places}
use Rattle.nd_model.proofs.Values.{length-bytes_of}
use Rattle.nd_view.proofs.Tuples.{length-count_up, shifted}
use Rattle.nd_assign.specs.HeldFields.{HoldsFields}

-- ---- places in an element

-- the places in an element at p are those in an element at 0, p further on
pub places_by : (t : ElementType) (p : ℕ) → element_places t p ≡ map (λ o. p + o) (element_places t 0)
places_by (One e) p = let none : p ≡ p + 0 = omega arith in ap (λ q. count_up q (size_of e.kind)) none ∙ sym (shifted p 0 (size_of e.kind))
places_by (Structure fields size) p = all fields
  where
    all : (fs : List Field) → field_places p fs ≡ map (λ o. p + o) (field_places 0 fs)
    all [] = refl
    all (f ∷ fs) =
        let n = size_of f.element.kind in let same : p + f.at ≡ p + (0 + f.at) = omega arith in
        ap₂ (λ xs ys. xs ++ ys) (ap (λ q. count_up q n) same ∙ sym (shifted p (0 + f.at) n)) (all fs)
        ∙ sym (map-append (λ o. p + o) (count_up (0 + f.at) n) (field_places 0 fs))

in_run : (i from n : ℕ) → is_in i (count_up from n) ≡ true → i < from + n
in_run i from zero is = absurd cc
in_run i from (suc n) is = elim (or_cases (nat_eq i from) (is_in i (count_up (from + 1) n)) is) [
  | inl here ↦ let e : i ≡ from = eqb-true i from here in omega (arith, e)
  | inr rest ↦ let less = in_run i (from + 1) n rest in omega (arith, less)
]

in_append : (i : ℕ) (xs ys : List ℕ) → is_in i (xs ++ ys) ≡ true → (is_in i xs ≡ true) ⊎ (is_in i ys ≡ true)
in_append i [] ys is = inr is
in_append i (x ∷ xs) ys is = elim (or_cases (nat_eq i x) (is_in i (xs ++ ys)) is) [
  | inl here ↦ inl (or_left (nat_eq i x) (is_in i xs) here)
  | inr rest ↦ elim (in_append i xs ys rest) [ inl a ↦ inl (or_right (nat_eq i x) (is_in i xs) a) | inr b ↦ inr b ]
]

-- the places in an element at 0 lie before its end
pub in_element : (t : ElementType) (i : ℕ) → HoldsFields t → is_in i (element_places t 0) ≡ true → i < item_size t
in_element (One e) i holds is = let less = in_run i 0 (size_of e.kind) is in omega (arith, less)
in_element (Structure fields size) i holds is = all fields holds is
  where
    all : (fs : List Field) → All (λ (f : Field). f.at + size_of f.element.kind ≤ size) fs → is_in i (field_places 0 fs) ≡ true → i < size
    all [] inside none = absurd cc
    all (f ∷ fs) inside some = elim (in_append i (count_up (0 + f.at) (size_of f.element.kind)) (field_places 0 fs) some) [
      | inl here ↦
          let less = in_run i (0 + f.at) (size_of f.element.kind) here in
          let end : f.at + size_of f.element.kind ≤ size = All-head (λ (g : Field). g.at + size_of g.element.kind ≤ size) f fs inside in
          omega (arith, less, end)
      | inr rest ↦ all fs (All-tail (λ (g : Field). g.at + size_of g.element.kind ≤ size) f fs inside) rest
    ]

-- ---- bytes beside places

pub zip_parts : (xs ys us bs : List ℕ) → length xs ≡ length us → zip (xs ++ ys) (us ++ bs) ≡ zip xs us ++ zip ys bs
zip_parts [] ys [] bs same = refl
zip_parts [] ys (u ∷ us) bs same = absurd (omega (arith, same))
zip_parts (x ∷ xs) ys [] bs same = absurd (omega (arith, same))
zip_parts (x ∷ xs) ys (u ∷ us) bs same = ap (λ l. (x, u) ∷ l) (zip_parts xs ys us bs (omega (arith, same)))

abbrev nothing : List (ℕ × ℕ)
nothing = []

zip_none : (xs : List ℕ) → zip xs [] ≡ nothing
zip_none [] = refl
zip_none (x ∷ xs) = refl

-- no byte goes before a place that all lie behind
pub none_before : (x p : ℕ) (os bs : List ℕ) → x < p → is_place x (zip (map (λ o. p + o) os) bs) ≡ false
none_before x p [] bs lt = refl
none_before x p (o ∷ os) [] lt = refl
none_before x p (o ∷ os) (b ∷ bs) lt = or_from (nat_eq x (p + o)) (is_place x (zip (map (λ o. p + o) os) bs)) (ne_eqb x (p + o) (λ e. omega (arith, lt, e))) (none_before x p os bs lt)

-- nor to one that no place in the element is
pub none_there : (p i : ℕ) (os bs : List ℕ) → is_in i os ≡ false → is_place (p + i) (zip (map (λ o. p + o) os) bs) ≡ false
none_there p i [] bs is = refl
none_there p i (o ∷ os) [] is = refl
none_there p i (o ∷ os) (b ∷ bs) is =
    let parts : (nat_eq i o ≡ false) × (is_in i os ≡ false) = or_parts (nat_eq i o) (is_in i os) is in
    let other : i ≢ o = eqb-false i o parts.0 in
    or_from (nat_eq (p + i) (p + o)) (is_place (p + i) (zip (map (λ o. p + o) os) bs)) (ne_eqb (p + i) (p + o) (λ e. other (omega (arith, e)))) (none_there p i os bs parts.1)

-- ---- contents

-- a number for each field
abbrev pub IsWhole : ElementType → Content → Type 0
IsWhole (One e) (Num z) = Unit {0}
IsWhole (One e) (Rec zs) = ⊥
IsWhole (Structure fields size) (Num z) = ⊥
IsWhole (Structure fields size) (Rec zs) = length zs ≡ length fields

abbrev fields_bytes : List Field → List ℤ → List ℕ
fields_bytes [] zs = []
fields_bytes (f ∷ fs) [] = []
fields_bytes (f ∷ fs) (z ∷ zs) = bytes_of f.element z ++ fields_bytes fs zs

abbrev pub content_bytes : ElementType → Content → List ℕ
content_bytes (One e) (Num z) = bytes_of e z
content_bytes (One e) (Rec zs) = []
content_bytes (Structure fields size) (Num z) = []
content_bytes (Structure fields size) (Rec zs) = fields_bytes fields zs

run_long : (p : ℕ) (f : Field) (z : ℤ) → length (count_up p (size_of f.element.kind)) ≡ length (bytes_of f.element z)
run_long p f z = length-count_up p (size_of f.element.kind) ∙ sym (length-bytes_of f.element z)

-- as many bytes as there are places
pub length-content : (t : ElementType) (c : Content) → IsWhole t c → length (content_bytes t c) ≡ length (element_places t 0)
length-content (One e) (Num z) is = length-bytes_of e z ∙ sym (length-count_up 0 (size_of e.kind))
length-content (One e) (Rec zs) is = absurd is
length-content (Structure fields size) (Num z) is = absurd is
length-content (Structure fields size) (Rec zs) is = all fields zs is
  where
    all : (fs : List Field) (zs : List ℤ) → length zs ≡ length fs → length (fields_bytes fs zs) ≡ length (field_places 0 fs)
    all [] zs same = refl
    all (f ∷ fs) [] same = absurd (omega (arith, same))
    all (f ∷ fs) (z ∷ zs) same =
        length-append (bytes_of f.element z) (fields_bytes fs zs)
        ∙ ap₂ (λ m n. m + n) (sym (run_long (0 + f.at) f z)) (all fs zs (omega (arith, same)))
        ∙ sym (length-append (count_up (0 + f.at) (size_of f.element.kind)) (field_places 0 fs))

-- a content's bytes go to the places in its element in order
pub writes_by : (t : ElementType) (p : ℕ) (c : Content) → IsWhole t c → writes t p c ≡ zip (map (λ o. p + o) (element_places t 0)) (content_bytes t c)
writes_by t p c is = all_in t c is ∙ ap (λ ps. zip ps (content_bytes t c)) (places_by t p)
  where
    in_fields : (fs : List Field) (zs : List ℤ) → field_writes p fs zs ≡ zip (field_places p fs) (fields_bytes fs zs)
    in_fields [] zs = refl
    in_fields (f ∷ fs) [] = sym (zip_none (field_places p (f ∷ fs)))
    in_fields (f ∷ fs) (z ∷ zs) =
        ap (λ l. number_writes f.element (p + f.at) z ++ l) (in_fields fs zs)
        ∙ sym (zip_parts (count_up (p + f.at) (size_of f.element.kind)) (field_places p fs) (bytes_of f.element z) (fields_bytes fs zs) (run_long (p + f.at) f z))

    all_in : (t : ElementType) (c : Content) → IsWhole t c → writes t p c ≡ zip (element_places t p) (content_bytes t c)
    all_in (One e) (Num z) is = refl
    all_in (One e) (Rec zs) is = absurd is
    all_in (Structure fields size) (Num z) is = absurd is
    all_in (Structure fields size) (Rec zs) is = in_fields fields zs
