-- What the fields of a written structure do, one behind the other.
use Rattle.std.proofs.Common.{◌≡◌, ℕ, suc, ◌+◌, ◌-◌, ◌==◌, ◌≤◌, nat_le, nat_lt, bytes_eq, Bool, true, false, not, ◌&&◌, ◌||◌, List, [], ◌∷◌, ◌++◌, length, map, slice_get, if◌then◌else◌, Ok, Err, refl, sym, ap, ◌∙◌, arith, append_assoc, append-nil, length-append, subst}
use Rattle.std.proofs.lemmas.Bool.{leb-true}
use Rattle.std.proofs.lemmas.Slice.Eq.{bytes_eq-Decides}
use Rattle.std.specs.Str.{is_utf8}
use Rattle.nd_model.specs.Arrays.Element.{Kind, Boolean, Int8, Int16, Int32, Int64, UInt8, UInt16, UInt32, UInt64, Element, size_of, is_canonical}
use Rattle.nd_model.specs.Arrays.View.{Field, ElementType, One, Structure, item_size}
use Rattle.nd_model.specs.Arrays.Structure.{has_name, are_apart, are_named, are_distinct, are_name_bytes, is_field_name, is_structure}
use Rattle.nd_model.specs.Formats.FormatFault.{LargerThanItem, BadItemSize}
use Rattle.nd_model.specs.Formats.FormatGrammar.{SINGLE_ROLE, TEE_ROLE, OPEN_ROLE, CLOSE_ROLE}
use Rattle.nd_model.specs.Formats.FormatReading.{Progress, start, number_type, whole_type, type_or_fault, outcome}
use Rattle.nd_round_trip.specs.Formats.FormatLaws.{are_fields, is_type}
use Rattle.nd_round_trip.proofs.formats.Marks.{role_of, byte_of, code_byte, type_marks, pad_marks, order_marks, body_marks, fields_marks}
use Rattle.nd_round_trip.proofs.formats.Following.{take_is, Goes, Stands, IsReady, goes_on, pads_go, order_go, body_go}

pub first : (a b : Bool) → (a && b) ≡ true → a ≡ true
first true b e = refl
first false b e = e

pub second : (a b : Bool) → (a && b) ≡ true → b ≡ true
second true b e = e
second false b e = absurd (cc)

turned : (b : Bool) → not b ≡ true → b ≡ false
turned true e = sym e
turned false e = refl

neither : (a b : Bool) → (a || b) ≡ false → (a ≡ false) × (b ≡ false)
neither true b e = absurd (cc)
neither false b e = (refl, e)

other_way : (a b : List ℕ) → bytes_eq a b ≡ false → bytes_eq b a ≡ false
other_way a b e = by (bytes_eq b a) refl
  where
    by : (c : Bool) → bytes_eq b a ≡ c → c ≡ false
    by true f = let same : a ≡ b = sym ((bytes_eq-Decides b a).0 f) in sym ((bytes_eq-Decides a b).1 same) ∙ e
    by false f = refl

-- the last field has no name of those before it
no_name_behind : (n : List ℕ) (xs : List Field) (f : Field) (ys : List Field) → has_name n (xs ++ f ∷ ys) ≡ false → bytes_eq n f.name ≡ false
no_name_behind n [] f ys e = (neither (bytes_eq n f.name) (has_name n ys) e).0
no_name_behind n (x ∷ xs) f ys e = no_name_behind n xs f ys (neither (bytes_eq n x.name) (has_name n (xs ++ f ∷ ys)) e).1

fresh : (xs : List Field) (f : Field) (ys : List Field) → are_distinct (xs ++ f ∷ ys) ≡ true → has_name f.name xs ≡ false
fresh [] f ys e = refl
fresh (x ∷ xs) f ys e =
    let here : bytes_eq f.name x.name ≡ false
    = other_way x.name f.name (no_name_behind x.name xs f ys (turned (has_name x.name (xs ++ f ∷ ys)) (first (not (has_name x.name (xs ++ f ∷ ys))) (are_distinct (xs ++ f ∷ ys)) e))) in
    ap (λ b. b || has_name f.name xs) here ∙ fresh xs f ys (second (not (has_name x.name (xs ++ f ∷ ys))) (are_distinct (xs ++ f ∷ ys)) e)

pub name_length : (n : List ℕ) → is_field_name n ≡ true → length n ≤ 64
name_length n e = leb-true (length n) 64 (second (nat_lt 0 (length n)) (nat_le (length n) 64) (first (nat_lt 0 (length n) && nat_le (length n) 64) (are_name_bytes 0 n) e))

pub ends_inside : (p : ℕ) (fs : List Field) (size : ℕ) → are_apart p fs size ≡ true → p ≤ size
ends_inside p [] size e = leb-true p size e
ends_inside p (f ∷ fs) size e =
    let rest = ends_inside (f.at + size_of f.element.kind) fs size (second (nat_le p f.at) (are_apart (f.at + size_of f.element.kind) fs size) e) in
    let here : p ≤ f.at = leb-true p f.at (first (nat_le p f.at) (are_apart (f.at + size_of f.element.kind) fs size) e) in
    omega (arith, rest, here)

pub fields_go : (acc : List Field) (place size : ℕ) (rest : List Field) (s : Progress) → Stands acc place s → length acc + length rest ≤ 256 → size ≤ 65536
    → are_apart place rest size ≡ true → are_named rest ≡ true → are_fields rest ≡ true → are_distinct (acc ++ rest) ≡ true
    → Goes s (fields_marks place size rest) (Stands (acc ++ rest) size)
fields_go acc place size [] s st many small apart named known distinct =
    let inside : place ≤ size = ends_inside place [] size apart in
    let same : place + (size - place) ≡ size = omega (arith, inside) in
    let end = pads_go acc place (size - place) s st (omega (arith, inside, small)) in
    subst (λ q. Goes s (pad_marks (size - place)) (Stands (acc ++ []) q)) same (subst (λ l. Goes s (pad_marks (size - place)) (Stands l (place + (size - place)))) (sym (append-nil acc)) end)
fields_go acc place size (f ∷ fs) s st many small apart named known distinct =
    let e = f.element in
    let q = f.at + size_of e.kind in
    let before : place ≤ f.at = leb-true place f.at (first (nat_le place f.at) (are_apart q fs size) apart) in
    let apart_on : are_apart q fs size ≡ true = second (nat_le place f.at) (are_apart q fs size) apart in
    let inside : q ≤ size = ends_inside q fs size apart_on in
    let here : place + (f.at - place) ≡ f.at = omega (arith, before) in
    let own : (is_canonical e.kind e.big && is_utf8 f.name) ≡ true = first (is_canonical e.kind e.big && is_utf8 f.name) (are_fields fs) known in
    let canonical : is_canonical e.kind e.big ≡ true = first (is_canonical e.kind e.big) (is_utf8 f.name) own in
    let text : is_utf8 f.name ≡ true = second (is_canonical e.kind e.big) (is_utf8 f.name) own in
    let short : length f.name ≤ 64 = name_length f.name (first (is_field_name f.name) (are_named fs) named) in
    let apply : (acc ++ f ∷ []) ++ fs ≡ acc ++ f ∷ fs = append_assoc acc (f ∷ []) fs in
    let longer : length (acc ++ f ∷ []) ≡ length acc + 1 = length-append acc (f ∷ []) in
    let goal = Stands (acc ++ f ∷ fs) size in
    let pads : Goes s (pad_marks (f.at - place)) (Stands acc f.at)
    = subst (λ n. Goes s (pad_marks (f.at - place)) (Stands acc n)) here (pads_go acc place (f.at - place) s st (omega (arith, here, inside, small))) in
    goes_on s (pad_marks (f.at - place)) (order_marks e ++ (body_marks f ++ fields_marks q size fs)) (Stands acc f.at) goal pads
    (λ t standing. goes_on t (order_marks e) (body_marks f ++ fields_marks q size fs) (IsReady acc f.at e) goal (order_go acc f.at e t canonical standing)
    (λ u ready. goes_on u (body_marks f) (fields_marks q size fs) (Stands (acc ++ f ∷ []) q) goal
    (body_go acc f u (omega (arith, many)) short text (fresh acc f fs distinct) (omega (arith, inside, small)) ready)
    (λ v ended. subst (λ l. Goes v (fields_marks q size fs) (Stands l size)) apply
    (fields_go (acc ++ f ∷ []) q size fs v ended (omega (arith, longer, many)) small apart_on (second (is_field_name f.name) (are_named fs) named) (second (is_canonical e.kind e.big && is_utf8 f.name) (are_fields fs) known) (subst (λ l. are_distinct l ≡ true) (sym apply) distinct)))))

start_stands : Stands [] 0 start
start_stands = record { fields_are = refl; ends = refl; no_count = refl }

-- ---- whole formats

own_size : (k : Kind) → (nat_lt (size_of k) (size_of k) ≡ false) × ((size_of k == size_of k) ≡ true)
own_size Boolean = (refl, refl)
own_size Int8 = (refl, refl)
own_size Int16 = (refl, refl)
own_size Int32 = (refl, refl)
own_size Int64 = (refl, refl)
own_size UInt8 = (refl, refl)
own_size UInt16 = (refl, refl)
own_size UInt32 = (refl, refl)
own_size UInt64 = (refl, refl)

number_whole : (e : Element) → number_type e (size_of e.kind) ≡ Ok (One e)
number_whole e =
    (λ i. if (own_size e.kind).0 i then Err LargerThanItem else (if size_of e.kind == size_of e.kind then Ok (One e) else Err BadItemSize))
    ∙ (λ i. if (own_size e.kind).1 i then Ok (One e) else Err BadItemSize)

number_outcome : (e : Element) → is_canonical e.kind e.big ≡ true → Goes start (type_marks (One e)) (λ s. whole_type s (size_of e.kind) ≡ Ok (One e))
number_outcome e ok =
    goes_on start (order_marks e) ((SINGLE_ROLE, code_byte e.kind) ∷ []) (IsReady [] 0 e) (λ s. whole_type s (size_of e.kind) ≡ Ok (One e))
    (order_go [] 0 e start ok start_stands)
    (λ t ready at. (record t { code = code_byte e.kind; last = SINGLE_ROLE }, refl, ap (λ f. number_type f (size_of e.kind)) ready.element_is ∙ number_whole e))

not_less : (n : ℕ) → nat_lt n n ≡ false
not_less n = by (nat_lt n n) refl
  where
    by : (c : Bool) → nat_lt n n ≡ c → c ≡ false
    by true e = let lt : suc n ≤ n = leb-true (suc n) n e in absurd (omega (arith, lt))
    by false e = refl

structure_outcome : (fields : List Field) (size : ℕ) → are_fields fields ≡ true → is_structure fields size ≡ true
    → Goes start (type_marks (Structure fields size)) (λ s. whole_type s size ≡ Ok (Structure fields size))
structure_outcome fields size known ok =
    goes_on start ((TEE_ROLE, 84) ∷ (OPEN_ROLE, 123) ∷ []) (fields_marks 0 size fields ++ (CLOSE_ROLE, 125) ∷ []) (Stands [] 0) (λ s. whole_type s size ≡ Ok (Structure fields size))
    (λ at. (_, refl, record { fields_are = refl; ends = refl; no_count = refl }))
    (λ t st. goes_on t (fields_marks 0 size fields) ((CLOSE_ROLE, 125) ∷ []) (Stands fields size) (λ s. whole_type s size ≡ Ok (Structure fields size))
    (fields_go [] 0 size fields t st few small apart named known distinct)
    (λ u all at. (
      record u { inside = false; last = CLOSE_ROLE },
      refl,
      (λ i. if nat_lt size (all.ends i) then Err LargerThanItem else (if is_structure (all.fields_are i) size then Ok (Structure (all.fields_are i) size) else Err BadItemSize))
          ∙ (λ i. if not_less size i then Err LargerThanItem else (if is_structure fields size then Ok (Structure fields size) else Err BadItemSize))
          ∙ (λ i. if ok i then Ok (Structure fields size) else Err BadItemSize),
    )))
  where
    some : Bool
    some = nat_lt 0 (length fields)

    five : (some && nat_le (length fields) 256 && nat_le size 65536 && are_apart 0 fields size && are_named fields) ≡ true
    five = first (some && nat_le (length fields) 256 && nat_le size 65536 && are_apart 0 fields size && are_named fields) (are_distinct fields) ok

    distinct : are_distinct fields ≡ true
    distinct = second (some && nat_le (length fields) 256 && nat_le size 65536 && are_apart 0 fields size && are_named fields) (are_distinct fields) ok

    four : (some && nat_le (length fields) 256 && nat_le size 65536 && are_apart 0 fields size) ≡ true
    four = first (some && nat_le (length fields) 256 && nat_le size 65536 && are_apart 0 fields size) (are_named fields) five

    named : are_named fields ≡ true
    named = second (some && nat_le (length fields) 256 && nat_le size 65536 && are_apart 0 fields size) (are_named fields) five

    three : (some && nat_le (length fields) 256 && nat_le size 65536) ≡ true
    three = first (some && nat_le (length fields) 256 && nat_le size 65536) (are_apart 0 fields size) four

    apart : are_apart 0 fields size ≡ true
    apart = second (some && nat_le (length fields) 256 && nat_le size 65536) (are_apart 0 fields size) four

    small : size ≤ 65536
    small = leb-true size 65536 (second (some && nat_le (length fields) 256) (nat_le size 65536) three)

    few : 0 + length fields ≤ 256
    few = let le : length fields ≤ 256 = leb-true (length fields) 256 (second some (nat_le (length fields) 256) (first (some && nat_le (length fields) 256) (nat_le size 65536) three)) in omega (arith, le)

-- the roles of the written form lead to its type
pub outcome_is : (t : ElementType) → is_type t ≡ true → outcome (map role_of (type_marks t)) true (map byte_of (type_marks t)) (item_size t) ≡ Ok t
outcome_is t ok = by t ok
  where
    from : (u : ElementType) → Goes start (type_marks u) (λ s. whole_type s (item_size u) ≡ Ok u) → outcome (map role_of (type_marks u)) true (map byte_of (type_marks u)) (item_size u) ≡ Ok u
    from u g = let a = g 0 in ap (λ r. type_or_fault r true (item_size u) (length (map role_of (type_marks u))) (slice_get (map byte_of (type_marks u)) (length (map role_of (type_marks u))))) (take_is start 0 (type_marks u) ∙ a.1) ∙ a.2

    by : (u : ElementType) → is_type u ≡ true → outcome (map role_of (type_marks u)) true (map byte_of (type_marks u)) (item_size u) ≡ Ok u
    by (One e) ok = from (One e) (number_outcome e ok)
    by (Structure fields size) ok = from (Structure fields size) (structure_outcome fields size (first (are_fields fields) (is_structure fields size) ok) (second (are_fields fields) (is_structure fields size) ok))
