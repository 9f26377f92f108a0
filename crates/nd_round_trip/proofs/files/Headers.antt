-- A written header is read as the header that was written.
use Rattle.std.proofs.Common.{◌≡◌, ℕ, zero, suc, ◌<◌, ◌≤◌, nat_le, nat_lt, Bool, true, false, ◌&&◌, List, [], ◌∷◌, ◌++◌, map, length, replicate, codes, Some, None, Ok, refl, sym, ap, ◌∙◌, arith, if◌then◌else◌, append_assoc, subst}
use Rattle.std.proofs.lemmas.Bool.{leb-true}
use Rattle.nd_model.specs.Arrays.Element.{Kind, Boolean, Int8, Int16, Int32, Int64, UInt8, UInt16, UInt32, UInt64, Element, is_canonical}
use Rattle.nd_model.specs.Arrays.View.{Field, ElementType, One, Structure}
use Rattle.nd_model.specs.Arrays.Structure.{are_named, are_apart, are_distinct, is_structure}
use Rattle.nd_model.specs.Text.Text.{joined}
use Rattle.nd_model.specs.Grammar.Grammar.{has}
use Rattle.nd_model.specs.Formats.RuleReading.{reading, run}
use Rattle.nd_model.specs.Formats.NpyHeader as h
use Rattle.nd_model.specs.Formats.NpyHeader.{Encoding, State, start, header, header_in, header_with, kinds_of, roles_of}
use Rattle.nd_model.specs.Formats.NpyWriting.{element_text, quote, field_pairs, descr_text, tuple_text, literal}
use Rattle.nd_round_trip.specs.Formats.FormatLaws.{are_fields, is_type}
use Rattle.nd_round_trip.proofs.files.At.{At, before_descr, behind_first, before_shape, behind_next, before_pairs, behind_pair, white}
use Rattle.nd_round_trip.proofs.files.Letters.{letters, letters_are}
use Rattle.nd_round_trip.proofs.files.Pairs.{pairing}
use Rattle.nd_round_trip.proofs.files.Fields.{first, second, items, store, AreStored, HasItem, fields_go}
use Rattle.nd_round_trip.proofs.files.Shapes.{AreShort, sized, sized_is, shape_go}
use Rattle.nd_round_trip.proofs.files.Walked.{store_type, joined_is}

-- what a structure keeps to
pub record Keeps (fields : List Field) (size : ℕ) : Type 0 where
  pub some : 0 < length fields
  pub few : length fields ≤ 256
  pub small : size ≤ 65536
  pub apart : are_apart 0 fields size ≡ true
  pub named : are_named fields ≡ true

pub keeps : (fields : List Field) (size : ℕ) → is_structure fields size ≡ true → Keeps fields size
keeps fields size ok =
    let a = nat_lt 0 (length fields) in let b = nat_le (length fields) 256 in let c = nat_le size 65536 in let d = are_apart 0 fields size in let e = are_named fields in
    let five = first (a && b && c && d && e) (are_distinct fields) ok in
    let four = first (a && b && c && d) e five in
    let three = first (a && b && c) d four in
    let two = first (a && b) c three in
    let begun : 1 ≤ length fields = leb-true 1 (length fields) (first a b two) in
    record { some = omega (arith, begun); few = leb-true (length fields) 256 (second a b two); small = leb-true size 65536 (second (a && b) c three); apart = second (a && b && c) d four; named = second (a && b && c && d) e five }

-- ---- the state behind each value

abbrev described : State
described = record start { descrs = 1 }

abbrev type_state : ElementType → State
type_state (One e) = record start { descrs = 1; single = Some e }
type_state (Structure fields size) = pairing fields size [] []

abbrev ordered : State → State
ordered s = record s { orders = h.once_more s.orders; fortran = false; shapes = h.once_more s.shapes }

abbrev last_state : ElementType → List ℕ → State
last_state t shape = sized (ordered (type_state t)) shape

no_lengths : (t : ElementType) → (type_state t).shape ≡ []
no_lengths (One e) = refl
no_lengths (Structure fields size) = refl

no_last : (t : ElementType) → (type_state t).last ≡ None
no_last (One e) = refl
no_last (Structure fields size) = refl

-- ---- from value to value

module _ (encoding : Encoding) where
  begins : (after : List ℕ) → At encoding start (header ∷ []) (codes "{'descr': " ++ after) ≡ At encoding described before_descr after
  unfolding has header
  begins after = refl

  between : (s : State) (after : List ℕ) → At encoding s behind_first (codes ", 'fortran_order': False, 'shape': " ++ after) ≡ At encoding (ordered s) before_shape after
  unfolding has
  between s after = refl

  ends : (s : State) (after : List ℕ) → At encoding s behind_next (codes ", }" ++ after) ≡ At encoding s white after
  unfolding has
  ends s after = refl

  spaces_go : (s : State) (n : ℕ) → At encoding s white (replicate n 32 ++ codes "\n") ≡ (s, true)
  unfolding has
  spaces_go s zero = refl
  spaces_go s (suc n) = spaces_go s n

  one_go : (e : Element) (after : List ℕ) → is_canonical e.kind e.big ≡ true → At encoding described before_descr (quote (element_text e) ++ 44 ∷ after) ≡ At encoding (type_state (One e)) behind_first (44 ∷ after)
  unfolding has
  one_go e after ok =
      subst (λ t. At encoding described before_descr (quote t ++ 44 ∷ after) ≡ At encoding (type_state (One e)) behind_first (44 ∷ after)) (sym (letters_are e)) (by e.kind e.big ok)
    where
      Goes : Element → Type 0
      Goes e = At encoding described before_descr (quote (letters e) ++ 44 ∷ after) ≡ At encoding (type_state (One e)) behind_first (44 ∷ after)

      by : (k : Kind) (big : Bool) → is_canonical k big ≡ true → Goes (record { kind = k; big = big })
      by Boolean true ok = absurd (cc)
      by Boolean false ok = refl
      by Int8 true ok = absurd (cc)
      by Int8 false ok = refl
      by UInt8 true ok = absurd (cc)
      by UInt8 false ok = refl
      by Int16 true ok = refl
      by Int16 false ok = refl
      by Int32 true ok = refl
      by Int32 false ok = refl
      by Int64 true ok = refl
      by Int64 false ok = refl
      by UInt16 true ok = refl
      by UInt16 false ok = refl
      by UInt32 true ok = refl
      by UInt32 false ok = refl
      by UInt64 true ok = refl
      by UInt64 false ok = refl

  opens : (after : List ℕ) → At encoding described before_descr (91 ∷ after) ≡ At encoding (pairing [] 0 [] []) before_pairs after
  unfolding has
  opens after = refl

  closes : (fs : List Field) (size : ℕ) (after : List ℕ) → At encoding (pairing fs size [] []) behind_pair (93 ∷ after) ≡ At encoding (pairing fs size [] []) behind_first after
  unfolding has
  closes fs size after = refl

  module _ (stored : List ℕ → List ℕ) where
    -- the names of the type are read from what is stored for them
    abbrev pub IsStoredType : ElementType → Type 0
    IsStoredType (One e) = Unit {0}
    IsStoredType (Structure fields size) = AreStored encoding stored fields

    an_item : (fs : List Field) → 0 < length fs → HasItem encoding stored true fs
    an_item [] some = absurd (omega (arith, some))
    an_item (f ∷ fs) some = tt

    descr_go : (t : ElementType) (after : List ℕ) → is_type t ≡ true → IsStoredType t
        → At encoding described before_descr (descr_text (store_type stored t) ++ 44 ∷ after) ≡ At encoding (type_state t) behind_first (44 ∷ after)
    descr_go (One e) after ok names = one_go e after ok
    descr_go (Structure fields size) after ok names =
        let known = keeps fields size (second (are_fields fields) (is_structure fields size) ok) in
        let ps = field_pairs 0 size (map (store stored) fields) in
        let list = joined (codes ", ") ps in
        ap (λ l. At encoding described before_descr (91 ∷ l)) (append_assoc list (codes "]") (44 ∷ after) ∙ ap (λ l. l ++ 93 ∷ 44 ∷ after) (joined_is ps))
        ∙ opens (items true ps ++ 93 ∷ 44 ∷ after)
        ∙ fields_go encoding stored true 0 size [] fields (93 ∷ 44 ∷ after) (an_item fields known.some) names known.named (first (are_fields fields) (is_structure fields size) ok) known.apart known.small
        ∙ closes fields size (44 ∷ after)

    literal_go : (t : ElementType) (shape after : List ℕ) → is_type t ≡ true → IsStoredType t → AreShort shape
        → At encoding start (header ∷ []) (literal (store_type stored t) shape ++ after) ≡ At encoding (last_state t shape) white after
    literal_go t shape after ok names small =
        let a = codes "{'descr': " in let b = codes ", 'fortran_order': False, 'shape': " in let c = codes ", }" in
        let d = descr_text (store_type stored t) in let s = tuple_text shape in
        ap (At encoding start (header ∷ [])) (append_assoc (a ++ d ++ b ++ s) c after ∙ append_assoc (a ++ d ++ b) s (c ++ after) ∙ append_assoc (a ++ d) b (s ++ (c ++ after)) ∙ append_assoc a d (b ++ (s ++ (c ++ after))))
        ∙ begins (d ++ (b ++ (s ++ (c ++ after))))
        ∙ descr_go t (codes " 'fortran_order': False, 'shape': " ++ (s ++ (c ++ after))) ok names
        ∙ between (type_state t) (s ++ (c ++ after))
        ∙ shape_go encoding (ordered (type_state t)) shape (c ++ after) (no_lengths t) (no_last t) small
        ∙ ends (last_state t shape) after

    -- ---- what the header says

    said : (t : ElementType) (shape : List ℕ) → is_type t ≡ true → h.header_of (last_state t shape) ≡ Ok (record { element = t; fortran = false; shape = shape })
    said (One e) [] ok = refl
    said (One e) (n ∷ ns) ok = ap (λ l. Ok (record { element = One e; fortran = false; shape = l })) (sized_is (ordered (type_state (One e))) (n ∷ ns) refl refl)
    said (Structure fields size) [] ok =
        ap (λ b. header_with (last_state (Structure fields size) []) (if b then Some (Structure fields size) else None)) (second (are_fields fields) (is_structure fields size) ok)
    said (Structure fields size) (n ∷ ns) ok =
        ap (λ b. header_with (last_state (Structure fields size) (n ∷ ns)) (if b then Some (Structure fields size) else None)) (second (are_fields fields) (is_structure fields size) ok)
        ∙ ap (λ l. Ok (record { element = Structure fields size; fortran = false; shape = l })) (sized_is (ordered (type_state (Structure fields size))) (n ∷ ns) refl refl)

    from_state : (bs : List ℕ) (s : State) → At encoding start (header ∷ []) bs ≡ (s, true) → header_in encoding bs ≡ h.header_of s
    unfolding header_in reading
    from_state bs s is =
        let r = run (header ∷ []) (kinds_of bs) in
        ap (λ w. h.outcome encoding (roles_of r.parts) w bs) (ap (λ (p : State × Bool). p.1) is) ∙ ap (λ (p : State × Bool). h.header_of p.0) is

    pub header_read : (t : ElementType) (shape : List ℕ) (n : ℕ) → is_type t ≡ true → IsStoredType t → AreShort shape
        → header_in encoding (literal (store_type stored t) shape ++ replicate n 32 ++ codes "\n") ≡ Ok (record { element = t; fortran = false; shape = shape })
    header_read t shape n ok names small =
        let text = literal (store_type stored t) shape in
        from_state (text ++ replicate n 32 ++ codes "\n") (last_state t shape)
        (ap (At encoding start (header ∷ [])) (append_assoc text (replicate n 32) (codes "\n")) ∙ literal_go t shape (replicate n 32 ++ codes "\n") ok names small ∙ spaces_go (last_state t shape) n)
        ∙ said t shape ok
