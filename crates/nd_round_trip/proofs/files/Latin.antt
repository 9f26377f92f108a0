-- Where no character of a literal stands past Latin-1, none of a name does.
use Rattle.std.proofs.Common.{◌≡◌, ℕ, ◌+◌, ◌-◌, ◌==◌, Bool, true, false, List, [], ◌∷◌, ◌++◌, codes, decimal, sym, ap, ◌∙◌, if◌then◌else◌}
use Rattle.nd_model.specs.Arrays.Element.{size_of}
use Rattle.nd_model.specs.Arrays.View.{Field, Structure}
use Rattle.nd_model.specs.Text.Text.{joined}
use Rattle.nd_model.specs.Formats.NpyWriting.{is_past_latin, quote, pair_text, element_text, field_pair, pad_pairs, field_pairs, descr_text, tuple_text, literal}
use Rattle.nd_round_trip.proofs.files.Fields.{items}
use Rattle.nd_round_trip.proofs.files.Pairs.{comma}
use Rattle.nd_round_trip.proofs.files.Stored.{past-append, left, right}
use Rattle.nd_round_trip.proofs.files.Walked.{joined_is}

front : (xs ys : List ℕ) → is_past_latin (xs ++ ys) ≡ false → is_past_latin xs ≡ false
front xs ys e = left (is_past_latin xs) (is_past_latin ys) (sym (past-append xs ys) ∙ e)

back : (xs ys : List ℕ) → is_past_latin (xs ++ ys) ≡ false → is_past_latin ys ≡ false
back xs ys e = right (is_past_latin xs) (is_past_latin ys) (sym (past-append xs ys) ∙ e)

abbrev pub AreLatin : List Field → Type 0
AreLatin [] = Unit {0}
AreLatin (f ∷ fs) = (is_past_latin f.name ≡ false) × AreLatin fs

pads_latin : (is_first : Bool) (n : ℕ) (ps : List (List ℕ)) → is_past_latin (items is_first (pad_pairs n ++ ps)) ≡ false → (b : Bool) × (is_past_latin (items b ps) ≡ false)
pads_latin is_first n ps e = by (n == 0) e
  where
    pad : List ℕ
    pad = pair_text [] (codes "|V" ++ decimal n)

    by : (b : Bool) → is_past_latin (items is_first ((if b then [] else pad ∷ []) ++ ps)) ≡ false → (b : Bool) × (is_past_latin (items b ps) ≡ false)
    by true e = (is_first, e)
    by false e = (false, back pad (items false ps) (back (comma is_first) (pad ++ items false ps) e))

name_latin : (name text : List ℕ) → is_past_latin (pair_text name text) ≡ false → is_past_latin name ≡ false
name_latin name text e =
    let q = codes "(" ++ quote name in
    front name (codes "'") (front q (codes ", ") (front (q ++ codes ", ") (quote text) (front (q ++ codes ", " ++ quote text) (codes ")") e)))

fields_latin : (is_first : Bool) (place size : ℕ) (fs : List Field) → is_past_latin (items is_first (field_pairs place size fs)) ≡ false → AreLatin fs
fields_latin is_first place size [] e = tt
fields_latin is_first place size (f ∷ fs) e =
    let ps = field_pairs (f.at + size_of f.element.kind) size fs in
    let pair = field_pair f in
    let rest = pads_latin is_first (f.at - place) (pair ∷ ps) e in
    let own = back (comma rest.0) (pair ++ items false ps) rest.1 in
    (name_latin f.name (element_text f.element) (front pair (items false ps) own), fields_latin false (f.at + size_of f.element.kind) size fs (back pair (items false ps) own))

pub names_latin : (fields : List Field) (size : ℕ) (shape : List ℕ) → is_past_latin (literal (Structure fields size) shape) ≡ false → AreLatin fields
names_latin fields size shape e =
    let a = codes "{'descr': " in let b = codes ", 'fortran_order': False, 'shape': " in let c = codes ", }" in
    let ps = field_pairs 0 size fields in
    let list = joined (codes ", ") ps in
    let descr = back a (codes "[" ++ list ++ codes "]") (front (a ++ descr_text (Structure fields size)) b (front (a ++ descr_text (Structure fields size) ++ b) (tuple_text shape) (front (a ++ descr_text (Structure fields size) ++ b ++ tuple_text shape) c e))) in
    fields_latin true 0 size fields (ap is_past_latin (sym (joined_is ps)) ∙ front list (codes "]") descr)
