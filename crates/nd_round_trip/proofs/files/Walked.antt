-- What holds of the parts of a literal, and so of the whole.
use Rattle.std.proofs.Common.{◌≡◌, ℕ, ◌+◌, ◌-◌, ◌≤◌, ◌==◌, nat_le, Bool, true, false, List, [], ◌∷◌, ◌++◌, map, length, codes, decimal, refl, sym, ap, arith, if◌then◌else◌, append-nil, subst}
use Rattle.std.specs.List.{flat_map}
use Rattle.nd_model.specs.Arrays.Element.{size_of}
use Rattle.nd_model.specs.Arrays.View.{Field, ElementType, One, Structure}
use Rattle.nd_model.specs.Arrays.Structure.{are_apart}
use Rattle.nd_model.specs.Text.Text.{joined}
use Rattle.nd_model.specs.Formats.NpyWriting.{quote, pair_text, element_text, field_pair, pad_pairs, field_pairs, descr_text, tuple_text, literal}
use Rattle.nd_round_trip.proofs.files.Ascii.{AreAscii, are_ascii, tested, ascii-append, element_ascii, decimal_ascii}
use Rattle.nd_round_trip.proofs.files.Fields.{items, store, ends_inside, second}
use Rattle.nd_round_trip.proofs.files.Pairs.{comma}
use Rattle.nd_round_trip.proofs.files.Shapes.{AreShort}

joined_tail : (ps : List (List ℕ)) → flat_map (λ q. codes ", " ++ q) ps ≡ items false ps
joined_tail [] = refl
joined_tail (p ∷ ps) = ap (λ l. codes ", " ++ (p ++ l)) (joined_tail ps)

pub joined_is : (ps : List (List ℕ)) → joined (codes ", ") ps ≡ items true ps
joined_is [] = refl
joined_is (p ∷ ps) = ap (λ l. p ++ l) (joined_tail ps)

-- ---- shapes are ASCII

numbers_ascii : (ns : List ℕ) → AreShort ns → AreAscii (flat_map (λ q. codes ", " ++ q) (map decimal ns))
numbers_ascii [] all = tt
numbers_ascii (n ∷ ns) all =
    let lt = all.0 in
    ascii-append (codes ", " ++ decimal n) (flat_map (λ q. codes ", " ++ q) (map decimal ns)) (ascii-append (codes ", ") (decimal n) (tested (codes ", ") refl) (decimal_ascii n (omega (arith, lt)))) (numbers_ascii ns all.1)

lengths_ascii : (ns : List ℕ) → AreShort ns → AreAscii (joined (codes ", ") (map decimal ns))
lengths_ascii [] all = tt
lengths_ascii (n ∷ ns) all = let lt = all.0 in ascii-append (decimal n) (flat_map (λ q. codes ", " ++ q) (map decimal ns)) (decimal_ascii n (omega (arith, lt))) (numbers_ascii ns all.1)

shape_ascii : (shape : List ℕ) → AreShort shape → AreAscii (tuple_text shape)
shape_ascii shape all =
    let numbers = joined (codes ", ") (map decimal shape) in
    let last = if length shape == 1 then codes "," else [] in
    ascii-append (codes "(" ++ numbers ++ last) (codes ")") (ascii-append (codes "(" ++ numbers) last (ascii-append (codes "(") numbers (tested (codes "(") refl) (lengths_ascii shape all)) (by (length shape == 1))) (tested (codes ")") refl)
  where
    by : (b : Bool) → AreAscii (if b then codes "," else [])
    by true = tested (codes ",") refl
    by false = tt

-- ---- a relation between texts and what is stored for them

module _ (stored : List ℕ → List ℕ) where
  abbrev pub store_type : ElementType → ElementType
  store_type (One e) = One e
  store_type (Structure fields size) = Structure (map (store stored) fields) size

  module _ (R : List ℕ → List ℕ → Type 0) where
    abbrev pub HasNames : List Field → Type 0
    HasNames [] = Unit {0}
    HasNames (f ∷ fs) = R f.name (stored f.name) × HasNames fs

    -- a structure with such names
    abbrev pub HasParts : ElementType → Type 0
    HasParts (One e) = Unit {0}
    HasParts (Structure fields size) = HasNames fields × ((are_apart 0 fields size ≡ true) × (size ≤ 65536))

    module _ (ascii : (bs : List ℕ) → AreAscii bs → R bs bs) (append : (xs ys us vs : List ℕ) → R xs ys → R us vs → R (xs ++ us) (ys ++ vs)) where
      around : (a b xs ys : List ℕ) → are_ascii a ≡ true → are_ascii b ≡ true → R xs ys → R (a ++ xs ++ b) (a ++ ys ++ b)
      around a b xs ys p q r = append (a ++ xs) (a ++ ys) b b (append a a xs ys (ascii a (tested a p)) r) (ascii b (tested b q))

      quoted : (xs ys : List ℕ) → R xs ys → R (quote xs) (quote ys)
      quoted xs ys r = around (codes "'") (codes "'") xs ys refl refl r

      paired : (name other text : List ℕ) → R name other → AreAscii text → R (pair_text name text) (pair_text other text)
      paired name other text r all =
          append (codes "(" ++ quote name ++ codes ", " ++ quote text) (codes "(" ++ quote other ++ codes ", " ++ quote text) (codes ")") (codes ")")
          (append (codes "(" ++ quote name ++ codes ", ") (codes "(" ++ quote other ++ codes ", ") (quote text) (quote text)
          (around (codes "(") (codes ", ") (quote name) (quote other) refl refl (quoted name other r)) (quoted text text (ascii text all)))
          (ascii (codes ")") (tested (codes ")") refl))

      comma_walked : (is_first : Bool) → R (comma is_first) (comma is_first)
      comma_walked true = ascii [] tt
      comma_walked false = ascii (codes ", ") (tested (codes ", ") refl)

      item_walked : (is_first : Bool) (p q : List ℕ) (ps qs : List (List ℕ)) → R p q → R (items false ps) (items false qs) → R (items is_first (p ∷ ps)) (items is_first (q ∷ qs))
      item_walked is_first p q ps qs r rest =
          append (comma is_first) (comma is_first) (p ++ items false ps) (q ++ items false qs) (comma_walked is_first) (append p q (items false ps) (items false qs) r rest)

      pads_walked : (is_first : Bool) (n : ℕ) (ps qs : List (List ℕ)) → n ≤ 65536 → ((b : Bool) → R (items b ps) (items b qs)) → R (items is_first (pad_pairs n ++ ps)) (items is_first (pad_pairs n ++ qs))
      pads_walked is_first n ps qs small rest = by (n == 0)
        where
          text : List ℕ
          text = codes "|V" ++ decimal n

          plain : AreAscii text
          plain = ascii-append (codes "|V") (decimal n) (tested (codes "|V") refl) (decimal_ascii n (omega (arith, small)))

          by : (b : Bool) → R (items is_first ((if b then [] else pair_text [] text ∷ []) ++ ps)) (items is_first ((if b then [] else pair_text [] text ∷ []) ++ qs))
          by true = rest is_first
          by false = item_walked is_first (pair_text [] text) (pair_text [] text) ps qs (paired [] [] text (ascii [] tt) plain) (rest false)

      fields_walked : (is_first : Bool) (place size : ℕ) (fs : List Field) → HasNames fs → are_apart place fs size ≡ true → size ≤ 65536
          → R (items is_first (field_pairs place size fs)) (items is_first (field_pairs place size (map (store stored) fs)))
      fields_walked is_first place size [] names inside small =
          subst (λ ps. R (items is_first ps) (items is_first ps)) (append-nil (pad_pairs (size - place))) (pads_walked is_first (size - place) [] [] (omega (arith, small)) (λ b. ascii [] tt))
      fields_walked is_first place size (f ∷ fs) names inside small =
          let end = f.at + size_of f.element.kind in
          let on = second (nat_le place f.at) (are_apart end fs size) inside in
          let high = ends_inside end size fs on in
          let ps = field_pairs end size fs in
          let qs = field_pairs end size (map (store stored) fs) in
          pads_walked is_first (f.at - place) (field_pair f ∷ ps) (field_pair (store stored f) ∷ qs) (omega (arith, high, small))
          (λ b. item_walked b (field_pair f) (field_pair (store stored f)) ps qs (paired f.name (stored f.name) (element_text f.element) names.0 (element_ascii f.element))
          (fields_walked false end size fs names.1 on small))

      descr_walked : (t : ElementType) → HasParts t → R (descr_text t) (descr_text (store_type t))
      descr_walked (One e) parts = quoted (element_text e) (element_text e) (ascii (element_text e) (element_ascii e))
      descr_walked (Structure fields size) parts =
          let ps = field_pairs 0 size fields in
          let qs = field_pairs 0 size (map (store stored) fields) in
          around (codes "[") (codes "]") (joined (codes ", ") ps) (joined (codes ", ") qs) refl refl
          (subst (λ l. R (joined (codes ", ") ps) l) (sym (joined_is qs)) (subst (λ l. R l (items true qs)) (sym (joined_is ps)) (fields_walked true 0 size fields parts.0 parts.1.0 parts.1.1)))

      pub literal_walked : (t : ElementType) (shape : List ℕ) → HasParts t → AreShort shape → R (literal t shape) (literal (store_type t) shape)
      literal_walked t shape parts small =
          let a = codes "{'descr': " in let b = codes ", 'fortran_order': False, 'shape': " in let c = codes ", }" in
          let d = descr_text t in let e = descr_text (store_type t) in let s = tuple_text shape in
          append (a ++ d ++ b ++ s) (a ++ e ++ b ++ s) c c
          (append (a ++ d ++ b) (a ++ e ++ b) s s (around a b d e refl refl (descr_walked t parts)) (ascii s (shape_ascii shape small)))
          (ascii c (tested c refl))
