-- Literals are short.
use Rattle.std.proofs.Common.{◌≡◌, ℕ, suc, ◌+◌, ◌-◌, ◌*◌, ◌<◌, ◌≤◌, ◌==◌, ◌^◌, nat_le, nat_lt, Bool, true, false, ◌&&◌, List, [], ◌∷◌, ◌++◌, map, length, codes, decimal, refl, sym, ap, ◌∙◌, arith, if◌then◌else◌, length-append, append-nil, subst}
use Rattle.std.specs.List.{flat_map}
use Rattle.std.specs.Int.Digits.{digits_of}
use Rattle.std.proofs.lemmas.Int.Digits.{length-digits_of-le}
use Rattle.std.proofs.lemmas.Fmt.{decimal-digits_of}
use Rattle.std.proofs.lemmas.Bool.{eqb-true, eqb-false, leb-true}
use Rattle.std.proofs.lemmas.List.{length-map}
use Rattle.nd_model.specs.Arrays.Element.{Kind, Boolean, Int8, Int16, Int32, Int64, UInt8, UInt16, UInt32, UInt64, Element, size_of}
use Rattle.nd_model.specs.Arrays.View.{Field, ElementType, One, Structure}
use Rattle.nd_model.specs.Arrays.Structure.{is_field_name, are_name_bytes, are_named, are_apart}
use Rattle.nd_model.specs.Text.Text.{joined}
use Rattle.nd_model.specs.Formats.NpyWriting.{quote, pair_text, element_text, field_pair, pad_pairs, field_pairs, descr_text, tuple_text, literal}
use Rattle.nd_round_trip.proofs.files.Fields.{items, first, second, ends_inside}
use Rattle.nd_round_trip.proofs.files.Letters.{letters, letters_are, decimal_zero}
use Rattle.nd_round_trip.proofs.files.Pairs.{comma}
use Rattle.nd_round_trip.proofs.files.Shapes.{AreShort}
use Rattle.nd_round_trip.proofs.files.Walked.{joined_is}

decimal_length : (k n : ℕ) → 0 < k → n < 10 ^ k → n < 2 ^ 64 → length (decimal n) ≤ k
decimal_length k n some lt small = by (n == 0) refl
  where
    by : (b : Bool) → (n == 0) ≡ b → length (decimal n) ≤ k
    by true e = subst (λ l. length l ≤ k) (sym (ap decimal (eqb-true n 0 e) ∙ decimal_zero)) some
    by false e =
        let ds = digits_of 10 n in
        let few = length-digits_of-le 10 k n (omega arith) lt in
        let same = ap length (decimal-digits_of n (omega (arith, eqb-false n 0 e)) small) ∙ length-map ds (λ d. 48 + d) in
        omega (arith, few, same)

element_length : (e : Element) → length (element_text e) ≡ 3
element_length e = ap length (letters_are e) ∙ by e.kind e.big
  where
    by : (k : Kind) (big : Bool) → length (letters (record { kind = k; big = big })) ≡ 3
    by Boolean true = refl
    by Boolean false = refl
    by Int8 true = refl
    by Int8 false = refl
    by UInt8 true = refl
    by UInt8 false = refl
    by Int16 true = refl
    by Int16 false = refl
    by Int32 true = refl
    by Int32 false = refl
    by Int64 true = refl
    by Int64 false = refl
    by UInt16 true = refl
    by UInt16 false = refl
    by UInt32 true = refl
    by UInt32 false = refl
    by UInt64 true = refl
    by UInt64 false = refl

pair_length : (name text : List ℕ) → length (pair_text name text) ≡ length name + length text + 8
pair_length name text =
    let q = codes "(" ++ quote name in
    let a : length (pair_text name text) ≡ length (q ++ codes ", " ++ quote text) + 1 = length-append (q ++ codes ", " ++ quote text) (codes ")") in
    let b : length (q ++ codes ", " ++ quote text) ≡ length (q ++ codes ", ") + length (quote text) = length-append (q ++ codes ", ") (quote text) in
    let c : length (q ++ codes ", ") ≡ length q + 2 = length-append q (codes ", ") in
    let d : length (name ++ codes "'") ≡ length name + 1 = length-append name (codes "'") in
    let e : length (text ++ codes "'") ≡ length text + 1 = length-append text (codes "'") in
    let f : length q ≡ suc (suc (length (name ++ codes "'"))) = refl in
    let g : length (quote text) ≡ suc (length (text ++ codes "'")) = refl in
    omega (arith, a, b, c, d, e, f, g)

-- ---- the items of a list

comma_length : (b : Bool) → length (comma b) ≤ 2
comma_length true = omega arith
comma_length false = omega arith

item_length : (b : Bool) (p : List ℕ) (ps : List (List ℕ)) → length (items b (p ∷ ps)) ≤ 2 + length p + length (items false ps)
item_length b p ps =
    let short = comma_length b in
    let x = length-append (comma b) (p ++ items false ps) in
    let y = length-append p (items false ps) in
    omega (arith, short, x, y)

first_length : (b : Bool) (ps : List (List ℕ)) → length (items b ps) ≤ length (items false ps)
first_length b [] = omega arith
first_length true (p ∷ ps) = let x = length-append (codes ", ") (p ++ items false ps) in omega (arith, x)
first_length false (p ∷ ps) = omega arith

pads_length : (is_first : Bool) (n : ℕ) (ps : List (List ℕ)) → n ≤ 65536 → length (items is_first (pad_pairs n ++ ps)) ≤ 17 + length (items false ps)
pads_length is_first n ps small = by (n == 0)
  where
    text : List ℕ
    text = codes "|V" ++ decimal n

    by : (b : Bool) → length (items is_first ((if b then [] else pair_text [] text ∷ []) ++ ps)) ≤ 17 + length (items false ps)
    by true = let le = first_length is_first ps in omega (arith, le)
    by false =
        let digits = decimal_length 5 n (omega arith) (omega (arith, small)) (omega (arith, small)) in
        let long : length (pair_text [] text) ≡ 0 + suc (suc (length (decimal n))) + 8 = pair_length [] text in
        let item = item_length is_first (pair_text [] text) ps in
        omega (arith, digits, long, item)

fields_length : (is_first : Bool) (place size : ℕ) (fs : List Field) → are_named fs ≡ true → are_apart place fs size ≡ true → size ≤ 65536
    → length (items is_first (field_pairs place size fs)) ≤ length fs * 94 + 17
fields_length is_first place size [] named inside small =
    let pads = pads_length is_first (size - place) [] (omega (arith, small)) in
    let same : length (items is_first (pad_pairs (size - place) ++ [])) ≡ length (items is_first (pad_pairs (size - place))) = ap (λ (ps : List (List ℕ)). length (items is_first ps)) (append-nil (pad_pairs (size - place))) in
    let none : length (items false []) ≡ 0 = refl in
    omega (arith, pads, same, none)
fields_length is_first place size (f ∷ fs) named inside small =
    let end = f.at + size_of f.element.kind in
    let on = second (nat_le place f.at) (are_apart end fs size) inside in
    let high = ends_inside end size fs on in
    let ps = field_pairs end size fs in
    let own = first (is_field_name f.name) (are_named fs) named in
    let short : length f.name ≤ 64 = leb-true (length f.name) 64 (second (nat_lt 0 (length f.name)) (nat_le (length f.name) 64) (first (nat_lt 0 (length f.name) && nat_le (length f.name) 64) (are_name_bytes 0 f.name) own)) in
    let text = element_length f.element in
    let long = pair_length f.name (element_text f.element) in
    let item = item_length false (field_pair f) ps in
    let pads = pads_length is_first (f.at - place) (field_pair f ∷ ps) (omega (arith, high, small)) in
    let rest = fields_length false end size fs (second (is_field_name f.name) (are_named fs) named) on small in
    let count : length (f ∷ fs) * 94 ≡ 94 + length fs * 94 = omega arith in
    omega (arith, short, text, long, item, pads, rest, count)

-- ---- the literal

numbers_length : (ns : List ℕ) → AreShort ns → length (flat_map (λ q. codes ", " ++ q) (map decimal ns)) ≤ length ns * 12
numbers_length [] all = omega arith
numbers_length (n ∷ ns) all =
    let le = all.0 in
    let own = decimal_length 10 n (omega arith) (omega (arith, le)) (omega (arith, le)) in
    let rest = numbers_length ns all.1 in
    let a = length-append (codes ", " ++ decimal n) (flat_map (λ q. codes ", " ++ q) (map decimal ns)) in
    let b : length (codes ", " ++ decimal n) ≡ 2 + length (decimal n) = length-append (codes ", ") (decimal n) in
    let count : length (n ∷ ns) * 12 ≡ 12 + length ns * 12 = omega arith in
    omega (arith, own, rest, a, b, count)

lengths_length : (ns : List ℕ) → AreShort ns → length (joined (codes ", ") (map decimal ns)) ≤ length ns * 12
lengths_length [] all = omega arith
lengths_length (n ∷ ns) all =
    let le = all.0 in
    let own = decimal_length 10 n (omega arith) (omega (arith, le)) (omega (arith, le)) in
    let rest = numbers_length ns all.1 in
    let a = length-append (decimal n) (flat_map (λ q. codes ", " ++ q) (map decimal ns)) in
    let count : length (n ∷ ns) * 12 ≡ 12 + length ns * 12 = omega arith in
    omega (arith, own, rest, a, count)

shape_length : (shape : List ℕ) → AreShort shape → length (tuple_text shape) ≤ length shape * 12 + 3
shape_length shape all =
    let numbers = joined (codes ", ") (map decimal shape) in
    let last = if length shape == 1 then codes "," else [] in
    let own = lengths_length shape all in
    let a : length (tuple_text shape) ≡ length (codes "(" ++ numbers ++ last) + 1 = length-append (codes "(" ++ numbers ++ last) (codes ")") in
    let b : length (codes "(" ++ numbers ++ last) ≡ suc (length numbers) + length last = length-append (codes "(" ++ numbers) last in
    let c = by (length shape == 1) in
    omega (arith, own, a, b, c)
  where
    by : (b : Bool) → length (if b then codes "," else []) ≤ 1
    by true = omega arith
    by false = omega arith

pub descr_length : (fields : List Field) (size : ℕ) → are_named fields ≡ true → are_apart 0 fields size ≡ true → size ≤ 65536 → length (descr_text (Structure fields size)) ≤ length fields * 94 + 19
descr_length fields size named inside small =
    let list = joined (codes ", ") (field_pairs 0 size fields) in
    let own = fields_length true 0 size fields named inside small in
    let same = ap length (joined_is (field_pairs 0 size fields)) in
    let a : length (descr_text (Structure fields size)) ≡ suc (length list) + 1 = length-append (codes "[" ++ list) (codes "]") in
    omega (arith, own, same, a)

pub one_length : (e : Element) → length (descr_text (One e)) ≤ 5
one_length e =
    let own = element_length e in
    let a : length (quote (element_text e)) ≡ suc (length (element_text e)) + 1 = length-append (codes "'" ++ element_text e) (codes "'") in
    omega (arith, own, a)

pub literal_length : (t : ElementType) (shape : List ℕ) (n : ℕ) → length (descr_text t) ≤ n → length shape ≤ 32 → AreShort shape → length (literal t shape) ≤ n + 500
literal_length t shape n le axes all =
    let a = codes "{'descr': " in let b = codes ", 'fortran_order': False, 'shape': " in let c = codes ", }" in
    let d = descr_text t in let s = tuple_text shape in
    let own = shape_length shape all in
    let x : length (literal t shape) ≡ length (a ++ d ++ b ++ s) + 3 = length-append (a ++ d ++ b ++ s) c in
    let y : length (a ++ d ++ b ++ s) ≡ length (a ++ d ++ b) + length s = length-append (a ++ d ++ b) s in
    let z : length (a ++ d ++ b) ≡ length (a ++ d) + 35 = length-append (a ++ d) b in
    let w : length (a ++ d) ≡ 10 + length d = length-append a d in
    omega (arith, own, le, axes, x, y, z, w)
