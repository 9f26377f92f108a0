-- Written lists of fields are read.
use Rattle.std.proofs.Common.{◌≡◌, ℕ, ◌+◌, ◌-◌, ◌<◌, ◌≤◌, ◌==◌, nat_le, nat_lt, Bool, true, false, ◌&&◌, List, [], ◌∷◌, ◌++◌, map, length, codes, decimal, Some, refl, sym, ap, ◌∙◌, arith, if◌then◌else◌, append_assoc, append-nil}
use Rattle.std.specs.List.{flat_map}
use Rattle.std.specs.Str.{is_utf8}
use Rattle.std.proofs.lemmas.Bool.{eqb-true, eqb-false, ne_eqb, leb-true}
use Rattle.std.proofs.Math.Nat.{min-eq_left}
use Rattle.nd_model.specs.Arrays.Element.{Kind, Boolean, Int8, Int16, Int32, Int64, UInt8, UInt16, UInt32, UInt64, Element, size_of, is_canonical}
use Rattle.nd_model.specs.Arrays.View.{Field}
use Rattle.nd_model.specs.Arrays.Structure.{is_field_name, are_named, are_name_bytes, are_apart}
use Rattle.nd_model.specs.Formats.NpyHeader.{Encoding, in_utf8, with_pair, with_pad, with_field, with_bad_pair, element_in, pad_in, capped_size}
use Rattle.nd_model.specs.Formats.NpyWriting.{element_text, pair_text, field_pair, pad_pairs, field_pairs}
use Rattle.nd_round_trip.specs.Formats.FormatLaws.{are_fields}
use Rattle.nd_round_trip.proofs.files.At.{At, behind_pair}
use Rattle.nd_round_trip.proofs.files.Letters.{letters, letters_are}
use Rattle.nd_round_trip.proofs.files.Pairs.{pairing, Unquoted, leads, comma, named_pair}
use Rattle.nd_round_trip.proofs.files.Pads.{pad_pair}

pub first : (a b : Bool) → (a && b) ≡ true → a ≡ true
first true b e = refl
first false b e = e

pub second : (a b : Bool) → (a && b) ≡ true → b ≡ true
second true b e = e
second false b e = absurd (cc)

pub ends_inside : (place size : ℕ) (fs : List Field) → are_apart place fs size ≡ true → place ≤ size
ends_inside place size [] inside = leb-true place size inside
ends_inside place size (f ∷ fs) inside =
    let rest = ends_inside (f.at + size_of f.element.kind) size fs (second (nat_le place f.at) (are_apart (f.at + size_of f.element.kind) fs size) inside) in
    let low = leb-true place f.at (first (nat_le place f.at) (are_apart (f.at + size_of f.element.kind) fs size) inside) in
    omega (arith, rest, low)

-- ---- the items of a list

abbrev pub items : (is_first : Bool) → List (List ℕ) → List ℕ
items is_first [] = []
items is_first (p ∷ ps) = comma is_first ++ (p ++ items false ps)

-- whether the next item is the first one, behind one that may be missing
abbrev pub still : (is_missing is_first : Bool) → Bool
still is_missing is_first = if is_missing then is_first else false

item_apart : (is_first : Bool) (p : List ℕ) (ps : List (List ℕ)) (after : List ℕ) → items is_first (p ∷ ps) ++ after ≡ comma is_first ++ (p ++ (items false ps ++ after))
item_apart is_first p ps after = append_assoc (comma is_first) (p ++ items false ps) after ∙ ap (λ l. comma is_first ++ l) (append_assoc p (items false ps) after)

module _ (stored : List ℕ → List ℕ) where
  -- the field with its name as the file has it
  abbrev pub store : Field → Field
  store f = record f { name = stored f.name }

module _ (encoding : Encoding) where
  pads_go : (is_first : Bool) (n place : ℕ) (fs : List Field) (rest : List (List ℕ)) (after : List ℕ) → place + n ≤ 65536
      → At encoding (pairing fs place [] []) (leads is_first) (items is_first (pad_pairs n ++ rest) ++ after)
      ≡ At encoding (pairing fs (place + n) [] []) (leads (still (n == 0) is_first)) (items (still (n == 0) is_first) rest ++ after)
  pads_go is_first n place fs rest after small = by (n == 0) refl
    where
      pad : List ℕ
      pad = pair_text [] (codes "|V" ++ decimal n)

      by : (b : Bool) → (n == 0) ≡ b
          → At encoding (pairing fs place [] []) (leads is_first) (items is_first ((if b then [] else pad ∷ []) ++ rest) ++ after)
          ≡ At encoding (pairing fs (place + n) [] []) (leads (still b is_first)) (items (still b is_first) rest ++ after)
      by true e =
          let none : n ≡ 0 = eqb-true n 0 e in
          let same : place ≡ place + n = omega (arith, none) in
          ap (λ k. At encoding (pairing fs k [] []) (leads is_first) (items is_first rest ++ after)) same
      by false e =
          ap (λ l. At encoding (pairing fs place [] []) (leads is_first) l) (item_apart is_first pad rest after)
          ∙ pad_pair encoding fs place n is_first (items false rest ++ after) (omega (arith, eqb-false n 0 e)) small

  -- what a pair of a field does

  element_is : (e : Element) → is_canonical e.kind e.big ≡ true → element_in (element_text e) ≡ Some e
  element_is e ok = ap element_in (letters_are e) ∙ by e.kind e.big ok
    where
      by : (k : Kind) (big : Bool) → is_canonical k big ≡ true → element_in (letters (record { kind = k; big = big })) ≡ Some (record { kind = k; big = big })
      by Boolean true ok = absurd (cc)
      by Boolean false ok = refl
      by Int8 true ok = absurd (cc)
      by Int8 false ok = refl
      by UInt8 true ok = absurd (cc)
      by UInt8 false ok = refl
      by Int16 true ok = refl
      by Int16 false ok = refl
      by Int32 true ok = refl
      by Int32 false ok = refl
      by Int64 true ok = refl
      by Int64 false ok = refl
      by UInt16 true ok = refl
      by UInt16 false ok = refl
      by UInt32 true ok = refl
      by UInt32 false ok = refl
      by UInt64 true ok = refl
      by UInt64 false ok = refl

  field_done : (fs : List Field) (f : Field) → 0 < length f.name → is_utf8 f.name ≡ true → is_canonical f.element.kind f.element.big ≡ true → f.at + size_of f.element.kind ≤ 65536
      → with_pair (pairing fs f.at f.name (element_text f.element)) ≡ pairing (fs ++ f ∷ []) (f.at + size_of f.element.kind) [] []
  field_done fs f some text ok small =
      let s = pairing fs f.at f.name (element_text f.element) in
      let grown = pairing (fs ++ f ∷ []) (capped_size (f.at + size_of f.element.kind)) [] [] in
      ap (λ b. if b then with_pad s (pad_in s.type_text) else with_field s (element_in s.type_text)) (ne_eqb (length f.name) 0 (λ e. omega (arith, e, some)))
      ∙ ap (with_field s) (element_is f.element ok)
      ∙ ap (λ b. if b then grown else with_bad_pair s) text
      ∙ ap (λ k. pairing (fs ++ f ∷ []) k [] []) (min-eq_left (omega (arith, small)))

  module _ (stored : List ℕ → List ℕ) where
    -- a name is read from the bytes that are stored for it
    abbrev pub AreStored : List Field → Type 0
    AreStored [] = Unit {0}
    AreStored (f ∷ fs) = (Unquoted (stored f.name) × (flat_map (in_utf8 encoding) (stored f.name) ≡ f.name)) × AreStored fs

    field_go : (is_first : Bool) (fs : List Field) (f : Field) (rest : List (List ℕ)) (after : List ℕ)
        → Unquoted (stored f.name) → flat_map (in_utf8 encoding) (stored f.name) ≡ f.name
        → is_field_name f.name ≡ true → (is_canonical f.element.kind f.element.big && is_utf8 f.name) ≡ true → f.at + size_of f.element.kind ≤ 65536
        → At encoding (pairing fs f.at [] []) (leads is_first) (items is_first (field_pair (store stored f) ∷ rest) ++ after)
        ≡ At encoding (pairing (fs ++ f ∷ []) (f.at + size_of f.element.kind) [] []) behind_pair (items false rest ++ after)
    field_go is_first fs f rest after plain back named known small =
        let ok = first (is_canonical f.element.kind f.element.big) (is_utf8 f.name) known in
        let text = second (is_canonical f.element.kind f.element.big) (is_utf8 f.name) known in
        let some : 1 ≤ length f.name = leb-true 1 (length f.name) (first (nat_lt 0 (length f.name)) (nat_le (length f.name) 64) (first (nat_lt 0 (length f.name) && nat_le (length f.name) 64) (are_name_bytes 0 f.name) named)) in
        ap (λ l. At encoding (pairing fs f.at [] []) (leads is_first) l) (item_apart is_first (field_pair (store stored f)) rest after)
        ∙ named_pair encoding fs f.at is_first (stored f.name) f.element (items false rest ++ after) plain ok
        ∙ ap (λ n. At encoding (with_pair (pairing fs f.at n (element_text f.element))) behind_pair (items false rest ++ after)) back
        ∙ ap (λ s. At encoding s behind_pair (items false rest ++ after)) (field_done fs f (omega (arith, some)) text ok small)

    -- a list has an item
    abbrev pub HasItem : (is_first : Bool) → List Field → Type 0
    HasItem is_first [] = is_first ≡ false
    HasItem is_first (f ∷ fs) = Unit {0}

    pub fields_go : (is_first : Bool) (place size : ℕ) (fs more : List Field) (after : List ℕ) → HasItem is_first more
        → AreStored more → are_named more ≡ true → are_fields more ≡ true → are_apart place more size ≡ true → size ≤ 65536
        → At encoding (pairing fs place [] []) (leads is_first) (items is_first (field_pairs place size (map (store stored) more)) ++ after)
        ≡ At encoding (pairing (fs ++ more) size [] []) behind_pair after
    fields_go is_first place size fs [] after item plain named known inside small =
        let le = ends_inside place size [] inside in
        let all : place + (size - place) ≡ size = omega (arith, le) in
        ap (λ (ps : List (List ℕ)). At encoding (pairing fs place [] []) (leads is_first) (items is_first ps ++ after)) (sym (append-nil (pad_pairs (size - place))))
        ∙ pads_go is_first (size - place) place fs [] after (omega (arith, le, small))
        ∙ ap (λ b. At encoding (pairing fs (place + (size - place)) [] []) (leads b) after) (ap (still (size - place == 0)) item ∙ none (size - place == 0))
        ∙ ap (λ k. At encoding (pairing fs k [] []) behind_pair after) all
        ∙ ap (λ l. At encoding (pairing l size [] []) behind_pair after) (sym (append-nil fs))
      where
        none : (b : Bool) → still b false ≡ false
        none true = refl
        none false = refl
    fields_go is_first place size fs (f ∷ more) after item plain named known inside small =
        let end = f.at + size_of f.element.kind in
        let on = second (nat_le place f.at) (are_apart end more size) inside in
        let low = leb-true place f.at (first (nat_le place f.at) (are_apart end more size) inside) in
        let high = ends_inside end size more on in
        let own = is_canonical f.element.kind f.element.big && is_utf8 f.name in
        let next = still (f.at - place == 0) is_first in
        let rest = field_pairs end size (map (store stored) more) in
        let at : place + (f.at - place) ≡ f.at = omega (arith, low) in
        pads_go is_first (f.at - place) place fs (field_pair (store stored f) ∷ rest) after (omega (arith, low, high, small))
        ∙ ap (λ k. At encoding (pairing fs k [] []) (leads next) (items next (field_pair (store stored f) ∷ rest) ++ after)) at
        ∙ field_go next fs f rest after plain.0.0 plain.0.1 (first (is_field_name f.name) (are_named more) named) (first own (are_fields more) known) (omega (arith, high, small))
        ∙ fields_go false end size (fs ++ f ∷ []) more after (either more) plain.1 (second (is_field_name f.name) (are_named more) named) (second own (are_fields more) known) on small
        ∙ ap (λ l. At encoding (pairing l size [] []) behind_pair after) (append_assoc fs (f ∷ []) more)
      where
        either : (fs : List Field) → HasItem false fs
        either [] = refl
        either (g ∷ gs) = tt
